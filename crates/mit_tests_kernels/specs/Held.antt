-- What a test keeps of a slot: it has been fed only rows of these lists, which fit its operator.
use Rattle.std.specs.Prelude.{◌≡◌, ℕ, List, Some}
use Rattle.std.specs.List.{All, AllZip, Contains}
use Rattle.mit_rows.specs.Bags.{RowOf}
use Rattle.mit_kernel.specs.Meaning.{Meaning, Slot}
use Rattle.mit_ops.specs.Parts.{Fits}

abbrev pub Among : List (List RowOf) → List (List RowOf) → Type 0
Among fed lists = AllZip (λ fewer all. All (Contains all) fewer) fed lists

pub record HeldSlot (kernel : Meaning) (slot : ℕ) (lists : List (List RowOf)) : Type 0 where
  pub found : Slot
  pub is : kernel.slots slot ≡ Some found
  pub fits : Fits found.spec lists
  pub among : Among found.lists lists

-- each slot of which this was kept before is one after
abbrev pub Keeps : Meaning → Meaning → List (List RowOf) → Type 0
Keeps before after lists = (slot : ℕ) → HeldSlot before slot lists → HeldSlot after slot lists
