use Rattle.std.proofs.Common.{◌≡◌, pos, ◌≤ℤ◌, SFits, w64, to_z, of_z, to_z-of_z, sym, subst, ◌∙◌, arith, rules}
use Rattle.std.proofs.lemmas.Int.{ints}
use Rattle.mit_words.specs.Words.{AreDecisions}
use Rattle.mit_words.specs.declared.words.TheConstants.{MAX_DECISIONS}
use Rattle.mit_words.proofs.NumberLemmas.{none_given, number_given, same_number, too_small, too_large}
use Rattle.mit_words.proofs.words.decisions_in.Goals as goal

pub returns-in-Some-clause-some : goal.returns-in-Some-clause-some
returns-in-Some-clause-some c =
    let fits : SFits w64 c.in-Some.number = search rules in
    let passed : to_z w64 (of_z w64 c.in-Some.number) ≡ c.in-Some.number = grind (arith, to_z-of_z, fits) in
    let low : pos 1 ≤ℤ c.in-Some.number = let test = rw passed at c.if-number-ge1.true in grind (arith, ints, test) in
    let high : c.in-Some.number ≤ℤ pos MAX_DECISIONS = let test = rw (passed, c.from.ensures) at c.if-number-from.true in grind (arith, ints, test) in
    let given = number_given c.args.word.now c.in-Some.number (sym c.in-Some.ensures) low high (omega (arith, c.if-word-gt20.false)) in
    subst (AreDecisions c.args.word.now) (sym (same_number given.0 c.in-Some.number (to_z w64 (of_z w64 c.in-Some.number)) given.1 passed)) given.2

pub returns-in_default-clause-none : goal.returns-in_default-clause-none
returns-in_default-clause-none c = λ decisions are.
    let fits : SFits w64 c.in-Some.number = search rules in
    let passed : to_z w64 (of_z w64 c.in-Some.number) ≡ c.in-Some.number = grind (arith, to_z-of_z, fits) in
    let test = rw (passed, c.from.ensures) at c.if-number-from.false in
    too_large c.args.word.now c.in-Some.number decisions (sym c.in-Some.ensures) (grind (arith, ints, test)) are

pub returns-in_default-2-clause-none : goal.returns-in_default-2-clause-none
returns-in_default-2-clause-none c = λ decisions are.
    let fits : SFits w64 c.in-Some.number = search rules in
    let passed : to_z w64 (of_z w64 c.in-Some.number) ≡ c.in-Some.number = grind (arith, to_z-of_z, fits) in
    let test = rw passed at c.if-number-ge1.false in
    too_small c.args.word.now c.in-Some.number decisions (sym c.in-Some.ensures) (grind (arith, ints, test)) are

pub returns-in_default-3-clause-none : goal.returns-in_default-3-clause-none
returns-in_default-3-clause-none c = λ decisions are. none_given c.args.word.now decisions (sym c.parse_int.ensures ∙ c.in_default.is) are
