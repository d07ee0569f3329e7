use Rattle.std.proofs.Common.{◌≡◌, ◌∙◌, add-one, ap, arith}
use Rattle.mit_ops.specs.Forms.{rows_at}
use Rattle.mit_ops.specs.Kinds.{bag_inputs_of}
use Rattle.mit_k_rows.proofs.Sums.{all_rows_more, sum_none}
use Rattle.mit_k_rows.proofs.entry.Entry.answer_bags.Goals as goal

pub loop-input-init : goal.loop-input-init
loop-input-init c = c.new-answer.ensures ∙ sum_none _ _

pub add_rows-requires : goal.add_rows-requires
add_rows-requires c =
    rw (c.list.ensures, c.spec-spec.ensures.value) (c.rows_may_be_asked.ensures.bags c.self.inside.fed.spec c.self.inside.fed.lists c.args.captures.now c.loop-input.input c.spec-spec.ensures.fits (rw (← c.self.view_is) at c.requires) c.self.invariant (rw (← c.spec-spec.ensures.value, ← c.bag_inputs-input-end.ensures) c.loop-input-test.true))

pub loop-input-preserved : goal.loop-input-preserved
loop-input-preserved c =
    let is : c.spec-spec.result.now ≡ c.args.self.now.spec = c.spec-spec.ensures.value ∙ ap (λ s. s.spec) c.self.view_is in
    let rows : c.list.result.now ≡ rows_at c.args.self.now.lists c.loop-input.input = c.list.ensures ∙ ap (λ s. rows_at s.lists c.loop-input.input) c.self.view_is in
    rw (add-one, all_rows_more c.args.self.now.lists c.loop-input.input, ← rows, ← is) (c.in_ok-add_rows.ensures _ (rw is c.loop-input.invariant))

pub returns : goal.returns
returns c =
    let is : c.spec-spec.result.now ≡ c.args.self.now.spec = c.spec-spec.ensures.value ∙ ap (λ s. s.spec) c.self.view_is in
    let end : c.loop-input.input ≡ bag_inputs_of c.args.self.now.spec = rw (← is, ← c.bag_inputs-input-end.ensures) (omega arith) in
    rw (← end) c.loop-input.invariant
