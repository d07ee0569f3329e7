use Rattle.mit_words.proofs.WordLemmas.{legal_word, run_words}
use Rattle.mit_words.proofs.words.script_to_run.Goals as goal

pub returns-in-len4-clause-command : goal.returns-in-len4-clause-command
returns-in-len4-clause-command c = (
  run_words c.args.words.now c.run-item.result c.script-item.result c.parts-item.result c.one-item.result
      c.as_str.result.now c.as_str-then-eq.result.now c.as_str-then-eq-2.result.now c.as_str-in-len4.result.now c.eq.result c.eq-then-eq.result c.eq-then-eq-2.result
      c.in-len4.len_at_least c.in-len4.len_below c.run-item.is c.script-item.is c.parts-item.is c.one-item.is
      c.as_str.ensures.value c.as_str-then-eq.ensures.value c.as_str-then-eq-2.ensures.value c.as_str-in-len4.ensures.value
      c.eq.ensures c.if-eq.true c.eq-then-eq.ensures c.if-eq-2.true c.eq-then-eq-2.ensures c.if-eq-3.true,
  legal_word c.as_bytes.result.now c.as_str-in-len4.result.now _ c.as_bytes.ensures.value c.as_str-in-len4.ensures.value c.if-legal_name.ensures,
)
