use Rattle.std.proofs.Common.{◌≡◌, ◌∙◌, ltb, arith, of_calls, rules}
use Rattle.std.specs.List.Sorted.{IsPartitionedBy}
use Rattle.std.proofs.lemmas.Bool.{ltb-false, ltb-true}
use Rattle.std.proofs.lemmas.Fn.{always_returns_same}
use Rattle.std.proofs.lemmas.List.Sorted.{IsPartitionedBy-ltb}
use Rattle.mit_view.proofs.places.Places.count_below.Goals as goal

pub returns : goal.returns
returns c =
    let same : c.deref.result.now ≡ c.args.self.now = c.deref.ensures.value ∙ c.self.view_is in
    let parted : IsPartitionedBy (λ place. ltb place c.args.bound) c.deref.result.now = rw c.deref.ensures.value (IsPartitionedBy-ltb (λ place. place) c.self.inside.rising.items c.args.bound c.self.invariant) in
    let point = c.partition_point.ensures.partitioned (λ place. ltb place c.args.bound) (always_returns_same _ _ _ (λ a r f k. search (rules, of_calls))) parted in
    record {
      within = search rules;
      below = λ k lt. rw (← same) (ltb-true _ _ (point.0 k 0 (omega arith) lt));
      above = λ k from lt. rw (← same) (ltb-false _ _ (point.1 k 0 from (rw same lt)));
    }
