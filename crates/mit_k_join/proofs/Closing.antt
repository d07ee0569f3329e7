-- The slots where one of them changes.
use Rattle.std.proofs.Common.{◌≡◌, ℕ, true, false, if◌then◌else◌, eqb, Option, refl, ap, ◌∙◌}
use Rattle.std.proofs.lemmas.Bool.{eqb-false, eqb-true}
use Rattle.slab.specs.Slab.{Slab, Updates, get}
use Rattle.mit_kernel.specs.Meaning.{Slot}

pub slot_after : (before after : Slab Slot) (slot : ℕ) (holds : Option Slot) → Updates before after slot holds → (other : ℕ) → get after other ≡ (if eqb other slot then holds else get before other)
slot_after before after slot holds updates other =
    elim (eqb other slot) as (λ here. eqb other slot ≡ here → get after other ≡ (if here then holds else get before other)) [
      | true ↦ λ e. ap (get after) (eqb-true other slot e) ∙ updates.changed
      | false ↦ λ e. updates.others other (eqb-false other slot e)
    ] refl
