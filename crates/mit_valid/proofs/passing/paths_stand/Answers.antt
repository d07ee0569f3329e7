-- Each block is marked, or one isn't and is not reached.
use Rattle.std.proofs.Common.{◌≡◌, ◌∙◌, ◌<◌, Bool, List, ap, arith, false, get_or, length, sym, true}
use Rattle.std.proofs.lemmas.Bool.{MatchBool-at_false, MatchBool-at_true}
use Rattle.mit_plan.specs.Plans.{EachBlock}
use Rattle.mit_plan.specs.Valid.{IsReached}
use Rattle.mit_valid.specs.Searched.{is_marked}
use Rattle.mit_valid.proofs.Passes.{is_false, is_true, places_decide}
use Rattle.mit_valid.proofs.passing.paths_stand.Goals as goal

pub returns-then-contains : goal.returns-then-contains
returns-then-contains c = λ paths.
    let plan = c.args.plan.now in
    let all = c.in_ok-all.all.items in
    let (block, below, is) = c.if-contains.ensures.cases in
    let many = ap (λ (marks : List Bool). length marks) c.deref-2.ensures.value in
    let there : block < length plan.blocks = omega (arith, below, c.in_ok-all.ensures.many) in
    let free : is_marked all block ≡ false = ap (λ (marks : List Bool). is_marked marks block) (sym c.deref-2.ensures.value) ∙ is_false (get_or c.deref-2.result.now block false) (is false) in
    MatchBool-at_false (IsReached plan block) (¬ (IsReached plan block)) free (c.in_ok-all.ensures.marks block there) (paths.reached block there)

pub returns : goal.returns
returns c =
    let plan = c.args.plan.now in
    let all = c.in_ok-all.all.items in
    let many = ap (λ (marks : List Bool). length marks) c.deref-2.ensures.value in
    let reached : EachBlock plan (IsReached plan) = λ block below.
    let there : block < length c.deref-2.result.now = omega (arith, below, c.in_ok-all.ensures.many) in
    let marked : is_marked all block ≡ true =
    ap (λ (marks : List Bool). is_marked marks block) (sym c.deref-2.ensures.value)
    ∙ is_true (get_or c.deref-2.result.now block false) (c.if-contains.ensures.cases block false (omega arith) there) in
    MatchBool-at_true (IsReached plan block) (¬ (IsReached plan block)) marked (c.in_ok-all.ensures.marks block below) in
    places_decide plan reached c.places_stand.result c.places_stand.ensures
