-- What a kernel means, and what each call makes of it.
use Rattle.std.specs.Prelude.{◌≡◌, ◌<◌, ℕ, zero, suc, ◌+◌, ◌^◌, ◌-◌, List, [], ◌∷◌, ◌++◌, length, replicate, Bool, ◌==◌, min, if◌then◌else◌, Option, Some, None, option_map, Ok}
use Rattle.std.specs.FinMap as fin
use Rattle.mit_rows.specs.Bags.{RowOf, bag_of}
use Rattle.mit_ops.specs.Answers.{BagOrFault}
use Rattle.mit_ops.specs.Kinds.{bag_inputs_of, captures_of}
use Rattle.mit_ops.specs.Operators.{part_apply}
use Rattle.mit_ops.specs.Parts.{Fits}
use Rattle.mit_ops.specs.declared.kinds.OpSpec.{OpSpec}

-- one operator in one partition of so many, with the rows that were fed to each of its inputs
pub record Slot : Type 0 where
  pub spec : OpSpec
  pub part : ℕ
  pub parts : ℕ
  pub lists : List (List RowOf)

-- a kernel: its kind, how many rows it was fed in all, and its slots
pub record Meaning : Type 0 where
  pub kind : ℕ
  pub fed : ℕ
  pub slots : ℕ → Option Slot

-- an empty list for each input of an operator
abbrev pub no_rows : OpSpec → List (List RowOf)
no_rows spec = replicate (bag_inputs_of spec + captures_of spec) []

-- these lists, with one more row in that of an input
abbrev pub with_row : List (List RowOf) → ℕ → RowOf → List (List RowOf)
with_row [] input row = []
with_row (rows ∷ later) zero row = (rows ++ row ∷ []) ∷ later
with_row (rows ∷ later) (suc input) row = rows ∷ with_row later input row

-- these lists, emptied where they are not kept
abbrev pub kept_lists : List Bool → List (List RowOf) → List (List RowOf)
kept_lists keep [] = []
kept_lists [] lists = lists
kept_lists (stays ∷ keep) (rows ∷ later) = (if stays then rows else []) ∷ kept_lists keep later

-- the slot is there
pub record HasSlot (kernel : Meaning) (slot : ℕ) : Type 0 where
  pub found : Slot
  pub is : kernel.slots slot ≡ Some found

-- the slot has so many inputs
pub record HasInputs (kernel : Meaning) (slot count : ℕ) : Type 0 where
  pub found : Slot
  pub is : kernel.slots slot ≡ Some found
  pub inputs : length found.lists ≡ count

-- the slot has such an input, and with this row its lists fit its operator
pub record Takes (kernel : Meaning) (slot input : ℕ) (row : RowOf) : Type 0 where
  pub found : Slot
  pub is : kernel.slots slot ≡ Some found
  pub within : input < length found.lists
  pub fits : Fits found.spec (with_row found.lists input row)

-- ---- what each call leaves

-- the same kernel, but for one slot
abbrev pub with_slot : Meaning → ℕ → Option Slot → Meaning
with_slot kernel slot holds = record kernel { slots = λ other. if other == slot then holds else kernel.slots other }

abbrev pub with_lists : (List (List RowOf) → List (List RowOf)) → Slot → Slot
with_lists change slot = record slot { lists = change slot.lists }

abbrev pub changed : Meaning → ℕ → (List (List RowOf) → List (List RowOf)) → Meaning
changed kernel slot change = with_slot kernel slot (option_map (with_lists change) (kernel.slots slot))

abbrev pub begun : Meaning → ℕ → OpSpec → ℕ → ℕ → Meaning
begun kernel slot spec part parts = with_slot kernel slot (Some (record { spec = spec; part = part; parts = parts; lists = no_rows spec }))

-- the count stands still at the last value of its type
abbrev pub with_one_fed : Meaning → Meaning
with_one_fed kernel = record kernel { fed = min (kernel.fed + 1) (2 ^ 64 - 1) }

abbrev pub fed_row : Meaning → ℕ → ℕ → RowOf → Meaning
fed_row kernel slot input row = with_one_fed (changed kernel slot (λ lists. with_row lists input row))

abbrev pub renewed : Meaning → ℕ → List Bool → Meaning
renewed kernel slot keep = changed kernel slot (kept_lists keep)

abbrev pub closed : Meaning → ℕ → Meaning
closed kernel slot = with_slot kernel slot None

-- the part of a slot's operator over what it was fed; a kernel's kinds read no files
abbrev pub part_in : Option Slot → BagOrFault
part_in None = Ok []
part_in (Some slot) = part_apply slot.spec slot.part slot.parts slot.lists fin.empty

abbrev pub part_of_slot : Meaning → ℕ → BagOrFault
part_of_slot kernel slot = part_in (kernel.slots slot)

-- rows were added after those before, and they are this answer
abbrev pub AddsRows : BagOrFault → List RowOf → List RowOf → Type 0
AddsRows answer before after = (rows : List RowOf) × (after ≡ before ++ rows) × (answer ≡ Ok (bag_of rows))
