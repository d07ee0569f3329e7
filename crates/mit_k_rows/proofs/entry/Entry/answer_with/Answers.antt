use Rattle.std.proofs.Common.{◌≡◌, ◌∙◌, arith}
use Rattle.std.proofs.lemmas.Result.{IfOk-weaker}
use Rattle.std.specs.FinMap as fin
use Rattle.mit_ops.specs.Kinds.{bag_inputs_of}
use Rattle.mit_k_rows.proofs.Fitting.{once_first}
use Rattle.mit_k_rows.proofs.entry.Entry.answer_with.Goals as goal

pub returns-then-part-eq0 : goal.returns-then-part-eq0
returns-then-part-eq0 c =
    let of_rows = rw c.self.view_is at c.self.invariant in
    let none : bag_inputs_of c.args.self.now.spec ≡ 0 = rw (← c.self.view_is, ← c.spec.ensures.value, ← c.bag_inputs.ensures) (omega arith) in
    let first : c.args.self.now.part ≡ 0 = rw (← c.self.view_is, ← c.part.ensures) c.if-part-eq0.true in
    IfOk-weaker c.answer_once.result _ _ (λ answer is. rw first (is ∙ once_first c.args.self.now.spec fin.empty c.args.captures.now c.args.self.now.parts c.args.self.now.lists of_rows none)) c.answer_once.ensures
