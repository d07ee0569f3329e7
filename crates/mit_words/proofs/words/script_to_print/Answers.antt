use Rattle.mit_words.proofs.WordLemmas.{legal_word, print_words}
use Rattle.mit_words.proofs.words.script_to_print.Goals as goal

pub returns-in-len3-clause-command : goal.returns-in-len3-clause-command
returns-in-len3-clause-command c = (
  print_words c.args.words.now c.check-item.result c.script-item.result c.print-item.result c.as_str.result.now c.as_str-then-eq.result.now c.as_str-in-len3.result.now
      c.eq.result c.eq-then-eq.result c.in-len3.len_at_least c.in-len3.len_below c.check-item.is c.script-item.is c.print-item.is
      c.as_str.ensures.value c.as_str-then-eq.ensures.value c.as_str-in-len3.ensures.value c.eq.ensures c.if-eq.true c.eq-then-eq.ensures c.if-eq-2.true,
  legal_word c.as_bytes.result.now c.as_str-in-len3.result.now _ c.as_bytes.ensures.value c.as_str-in-len3.ensures.value c.if-legal_name.ensures,
)
