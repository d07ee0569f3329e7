-- The slots of a slab where one of them is written.
use Rattle.std.proofs.Common.{◌≡◌, ℕ, ◌==◌, if◌then◌else◌, Option, inl, inr, arith}
use Rattle.std.proofs.lemmas.Bool.{cases_eq}
use Rattle.std.proofs.lemmas.Bool.Decides.{nat_tests}
use Rattle.slab.specs.Slab.{Slab, Updates, get}

pub slots_updated : {T : Type 0} (old new : Slab T) (key : ℕ) (slot : Option T) → Updates old new key slot → (other : ℕ) → get new other ≡ (if other == key then slot else get old other)
slots_updated old new key slot updates other = elim (cases_eq other key) [
  | inl same ↦ let is = updates.changed in grind (arith, nat_tests)
  | inr differs ↦ let is = updates.others other differs in grind (arith, nat_tests)
]
