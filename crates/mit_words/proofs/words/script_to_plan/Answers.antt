use Rattle.std.specs.Prelude.{codes}
use Rattle.mit_words.proofs.WordLemmas.{legal_word, two_words}
use Rattle.mit_words.proofs.words.script_to_plan.Goals as goal

pub returns-in-len2-clause-command : goal.returns-in-len2-clause-command
returns-in-len2-clause-command c = (
  two_words c.args.words.now (codes "plan") c.plan-item.result c.script-item.result c.as_str.result.now c.as_str-in-len2.result.now c.eq.result
      c.in-len2.len_at_least c.in-len2.len_below c.plan-item.is c.script-item.is c.as_str.ensures.value c.as_str-in-len2.ensures.value c.eq.ensures c.if-eq.true,
  legal_word c.as_bytes.result.now c.as_str-in-len2.result.now _ c.as_bytes.ensures.value c.as_str-in-len2.ensures.value c.if-legal_name.ensures,
)
