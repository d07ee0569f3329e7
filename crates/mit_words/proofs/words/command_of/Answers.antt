use Rattle.mit_words.specs.Words.{texts}
use Rattle.mit_words.proofs.WordLemmas.{usage_of}
use Rattle.mit_words.proofs.words.command_of.Goals as goal

pub returns-clause-other : goal.returns-clause-other
returns-clause-other c =
    usage_of (texts c.args.words.now) c.in_default.ensures.other c.in_default-script_to_step.ensures.other c.in_default-script_to_step_within.ensures.other
    c.in_default-script_to_check.ensures.other c.in_default-script_to_print.ensures.other c.in_default-script_to_plan.ensures.other
