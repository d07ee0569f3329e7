use Rattle.std.proofs.Common.{sym, ◌∙◌, arith}
use Rattle.mit_lex.proofs.ScanFacts.{found_fits, count_more, reading_end, reading_found, reading_refused, reading_skip, reading_too_many, skipped_fits}
use Rattle.mit_lex.proofs.lexer.scan.Goals as goal

pub overflow_add-at : goal.overflow_add-at
overflow_add-at c =
    let fits = skipped_fits c.args.text.now c.loop-at.at c.in-Skipped.size (omega arith) (sym c.in-Skipped.is ∙ c.in_ok-size.ensures) in omega arith

pub loop-at-smaller-in-Skipped : goal.loop-at-smaller-in-Skipped
loop-at-smaller-in-Skipped c =
    let fits = skipped_fits c.args.text.now c.loop-at.at c.in-Skipped.size (omega arith) (sym c.in-Skipped.is ∙ c.in_ok-size.ensures) in omega arith

pub loop-at-preserved-in-Skipped : goal.loop-at-preserved-in-Skipped
loop-at-preserved-in-Skipped c = (
  reading_skip c.args.text.now c.loop-at.tokens.items c.loop-at.limits.run c.loop-at.limits.braces c.loop-at.at c.in-Skipped.size
      c.loop-at.invariant.0 (omega arith) (sym c.in-Skipped.is ∙ c.in_ok-size.ensures),
  omega (arith, c.loop-at.invariant.1),
)

pub returns-in_default-clause-fault : goal.returns-in_default-clause-fault
returns-in_default-clause-fault c =
    reading_too_many c.args.text.now c.loop-at.tokens.items c.loop-at.limits.run c.loop-at.limits.braces c.loop-at.at c.in-Found.size c.in-Found.kind
    c.loop-at.invariant.0 (omega arith) (sym c.in-Found.is ∙ c.in_ok-size.ensures) c.in_default.ensures

pub overflow_add-at-in-Found : goal.overflow_add-at-in-Found
overflow_add-at-in-Found c =
    let fits = found_fits c.args.text.now c.loop-at.at c.in-Found.size c.in-Found.kind (omega arith) (sym c.in-Found.is ∙ c.in_ok-size.ensures) in omega arith

pub overflow_cast-token : goal.overflow_cast-token
overflow_cast-token c =
    let fits = found_fits c.args.text.now c.loop-at.at c.in-Found.size c.in-Found.kind (omega arith) (sym c.in-Found.is ∙ c.in_ok-size.ensures) in omega arith

pub loop-at-smaller : goal.loop-at-smaller
loop-at-smaller c =
    let fits = found_fits c.args.text.now c.loop-at.at c.in-Found.size c.in-Found.kind (omega arith) (sym c.in-Found.is ∙ c.in_ok-size.ensures) in omega arith

pub loop-at-preserved : goal.loop-at-preserved
loop-at-preserved c =
    let items = c.in-Ok.ensures.items in
    let fits = found_fits c.args.text.now c.loop-at.at c.in-Found.size c.in-Found.kind (omega arith) (sym c.in-Found.is ∙ c.in_ok-size.ensures) in
    rw items (
      reading_found c.args.text.now c.loop-at.tokens.items c.loop-at.limits.run c.loop-at.limits.braces c.in-Some.next.run c.in-Some.next.braces
          c.loop-at.at c.in-Found.size c.in-Found.kind c.loop-at.invariant.0 (omega arith) (sym c.in-Found.is ∙ c.in_ok-size.ensures)
          c.in-Some.ensures.0 c.in-Some.ensures.1 c.in-Some.ensures.2,
      count_more c.loop-at.tokens.items _ c.loop-at.at c.in-Found.size c.loop-at.invariant.1 fits.0,
    )

pub returns-in-Refused-clause-fault : goal.returns-in-Refused-clause-fault
returns-in-Refused-clause-fault c =
    reading_refused c.args.text.now c.loop-at.tokens.items c.loop-at.limits.run c.loop-at.limits.braces c.loop-at.at
    c.loop-at.invariant.0 (omega arith) (sym c.in-Refused.is ∙ c.in_ok-size.ensures)

pub returns-clause-tokens : goal.returns-clause-tokens
returns-clause-tokens c =
    reading_end c.args.text.now c.loop-at.tokens.items c.loop-at.limits.run c.loop-at.limits.braces c.loop-at.at c.loop-at.invariant.0 (omega arith)

pub returns-clause-count : goal.returns-clause-count
returns-clause-count c = omega (arith, c.loop-at.invariant.1, c.loop-at.invariant.0.within)
