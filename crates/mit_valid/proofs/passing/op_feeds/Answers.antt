-- One edge more.
use Rattle.std.proofs.Common.{◌≡◌, ◌∙◌, ◌+◌, ◌<◌, ℕ, List, Bool, ap, false, get_or, length, subst, sym, take}
use Rattle.std.specs.Prelude.{◌||◌}
use Rattle.std.specs.List.{list_any}
use Rattle.std.proofs.lemmas.List.Folds.{list_any_more}
use Rattle.mit_plan.specs.Plans.{edges_from}
use Rattle.mit_valid.specs.Passed.{feeds}
use Rattle.mit_valid.proofs.passing.op_feeds.Goals as goal

none_more : (passes : ℕ → Bool) (numbers all : List ℕ) (k : ℕ) → numbers ≡ all → k < length numbers → list_any passes (take k all) ≡ false
    → passes (get_or numbers k 0) ≡ false → list_any passes (take (k + 1) all) ≡ false
none_more passes numbers all k same below before here =
    let earlier : list_any passes (take k numbers) ≡ false = rw same before in
    subst (λ (list : List ℕ). list_any passes (take (k + 1) list) ≡ false) same
    (list_any_more passes numbers k 0 below ∙ ap (λ (some : Bool). some || passes (get_or numbers k 0)) earlier ∙ here)

pub loop-edge-preserved : goal.loop-edge-preserved
loop-edge-preserved c =
    let plan = c.args.plan.now in
    let numbers = c.edges_from-edge-items in
    none_more (feeds plan c.args.marks.now c.args.block) numbers.result.now (edges_from plan c.args.op) c.loop-edge.edge-index
    (numbers.ensures.value c.requires.op) c.loop-edge-test.true c.loop-edge.invariant (sym c.edge_feeds.ensures ∙ c.if-edge_feeds.false)
