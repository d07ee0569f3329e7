use Rattle.mit_shelf.specs.Shelf.{kept_files}
use Rattle.mit_step.specs.Running.{StopsAs}
use Rattle.mit_ops.specs.Operators.{whole}
use Rattle.mit_step.specs.Typing.{inputs_in}
use Rattle.mit_step.proofs.Arguments.{made_of}
use Rattle.mit_step.proofs.evaluate.evaluate.Goals as goal

pub returns-clause-made : goal.returns-clause-made
returns-clause-made g c =
    let inputs = inputs_in c.args.store.now c.args.args.now in
    let files = kept_files c.of_kind.new.shelf in
    made_of (λ bag. bag.value) c.args.op.now inputs files c.of_kind.result (StopsAs (whole c.args.op.now inputs files))
    c.typing_law.ensures.given c.typing_law.ensures.whole_columns c.typing_law.ensures.whole_scalar
    (c.of_kind.ensures.bag files (c.shelves_agree_with_their_files.ensures.agree c.of_kind.new.shelf))
