-- The slot is gone, and the others stay.
use Rattle.std.proofs.Common.{◌≡◌, ◌==◌, ℕ, arith, if◌then◌else◌, inl, inr, None}
use Rattle.std.proofs.lemmas.Bool.{cases_eq}
use Rattle.std.proofs.lemmas.Bool.Decides.{nat_tests}
use Rattle.slab.specs.Slab.{Slab, Updates, get}
use Rattle.mit_kernel.specs.Meaning.{Slot}
use Rattle.mit_k_group.proofs.kernel.GroupKernelKernel.close.Goals as goal

gone : (old new : Slab Slot) (slot : ℕ) → Updates old new slot None → (other : ℕ) → get new other ≡ (if other == slot then None else get old other)
gone old new slot updates other =
    elim (cases_eq other slot) [
      | inl same ↦ let here = updates.changed in grind (arith, nat_tests)
      | inr differs ↦ let there = updates.others other differs in grind (arith, nat_tests)
    ]

pub returns : goal.returns
returns c = λ i. record {
  kind = c.args.self.now.kind;
  fed = c.args.self.now.fed;
  slots = λ other. gone c.args.self.now.slots c.remove.new.self c.args.slot c.remove.ensures.updates other i;
}
