use Rattle.std.proofs.Common.{ℕ, List}
use Rattle.mit_words.specs.Words.{texts}
use Rattle.mit_words.specs.Stepped.{IsSteppedWithin}
use Rattle.mit_words.proofs.WordLemmas.{legal_word, told_none, within_number, within_words}
use Rattle.mit_words.proofs.words.script_to_step_within.Goals as goal

pub returns-in_err-decisions_in-in-len4-clause-other : goal.returns-in_err-decisions_in-in-len4-clause-other
returns-in_err-decisions_in-in-len4-clause-other c =
    let no : (script : List ℕ) (decisions : ℕ) → ¬ IsSteppedWithin (texts c.args.words.now) decisions script = λ script decisions.
    within_number (texts c.args.words.now) c.as_str-in-len4.result.now c.as_bytes-in-len4.result.now decisions script
    (within_words c.args.words.now c.step-item.result c.script-item.result c.within-item.result c.number-item.result
    c.as_str.result.now c.as_str-then-eq.result.now c.as_str-in-len4.result.now c.as_bytes-in-len4.result.now c.eq.result c.eq-then-eq.result
    c.in-len4.len_at_least c.in-len4.len_below c.step-item.is c.script-item.is c.within-item.is c.number-item.is
    c.as_str.ensures.value c.as_str-then-eq.ensures.value c.as_str-in-len4.ensures.value c.as_bytes-in-len4.ensures.value
    c.eq.ensures c.if-eq.true c.eq-then-eq.ensures c.if-eq-2.true) c.in_err-decisions_in-in-len4.ensures.none in
    told_none c.from_residual.result no

pub returns-in_ok-decisions_in-in-len4-clause-command : goal.returns-in_ok-decisions_in-in-len4-clause-command
returns-in_ok-decisions_in-in-len4-clause-command c = (
  c.as_bytes-in-len4.result.now,
  within_words c.args.words.now c.step-item.result c.script-item.result c.within-item.result c.number-item.result
      c.as_str.result.now c.as_str-then-eq.result.now c.as_str-in-len4.result.now c.as_bytes-in-len4.result.now c.eq.result c.eq-then-eq.result
      c.in-len4.len_at_least c.in-len4.len_below c.step-item.is c.script-item.is c.within-item.is c.number-item.is
      c.as_str.ensures.value c.as_str-then-eq.ensures.value c.as_str-in-len4.ensures.value c.as_bytes-in-len4.ensures.value
      c.eq.ensures c.if-eq.true c.eq-then-eq.ensures c.if-eq-2.true,
  c.in_ok-decisions_in-in-len4.ensures.some,
  legal_word c.as_bytes.result.now c.as_str-in-len4.result.now _ c.as_bytes.ensures.value c.as_str-in-len4.ensures.value c.if-legal_name.ensures,
)
