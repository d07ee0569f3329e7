use Rattle.std.proofs.Common.{◌≡◌, ◌<◌, ℕ, List, [], ◌∷◌, length, map, true, sym, subst, ◌∙◌, ap, arith}
use Rattle.mit_script.specs.Grammar.{each_once, names_in, number_in}
use Rattle.mit_script.specs.Trees.{is_in_order}
use Rattle.mit_grammar.proofs.FormedStmts.{body_good}
use Rattle.mit_grammar.specs.NamesOnce.{each_once_distinct}
use Rattle.mit_grammar.proofs.NamesOrder.{names_in_order}
use Rattle.mit_grammar.proofs.laws.formed_law.Goals as goal

-- where there is a name, there is one with a number
some_number : (words : List (List ℕ)) → 0 < length words → 0 < length (each_once words)
unfolding each_once
some_number [] some = some
some_number (word ∷ words) some = omega arith

-- src/laws.rt:23:23
pub returns-clause-formed : goal.returns-clause-formed
returns-clause-formed c = λ tokens script spelled short.
    let good = body_good spelled.body in
    let few = good.few in
    record {
      short = omega arith;
      distinct = rw spelled.named (each_once_distinct (names_in tokens));
      formed = good.formed (rw spelled.named (some_number (names_in tokens)));
    }

-- src/laws.rt:24:25
pub returns-clause-numbered : goal.returns-clause-numbered
returns-clause-numbered c = λ tokens script spelled.
    let good = body_good spelled.body in
    let same : script.names ≡ each_once good.words = spelled.named ∙ sym good.alike in
    ap (is_in_order 0) good.numbered ∙ subst (λ names. is_in_order 0 (map (number_in names) good.words) ≡ true) (sym same) (names_in_order good.words)
