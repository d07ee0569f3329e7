use Rattle.std.proofs.Common.{◌≡◌, ◌∙◌, ◌++◌, ap, drop, subst, take, map, List, ℕ}
use Rattle.std.specs.Prelude.{IfOk}
use Rattle.mit_script.specs.Grammar.{each_once, names_in, number_in}
use Rattle.mit_script.specs.Grammar.{kinds}
use Rattle.mit_parse.specs.Words.{texts_of}
use Rattle.mit_parse.proofs.Numbering.{first-words, past-words}
use Rattle.mit_parse.proofs.names.arguments.Goals as goal

pub returns : goal.returns
returns c =
    let all = names_in (kinds c.args.run.now) in
    let bags = c.args.bags in
    let words = c.in_ok-words.ensures in
    let past = past-words bags c.in_ok-words.words.items c.past.result.now all (c.past.ensures ∙ ap (λ list. drop bags list) c.deref.ensures.value) words in
    let first = first-words bags c.in_ok-words.words.items c.first.result.now all (c.first.ensures ∙ ap (λ list. take bags list) c.deref-2.ensures.value) words in
    let captured : texts_of c.as_slice-others.result.now ≡ each_once (drop bags all) = ap texts_of c.as_slice-others.ensures.keys ∙ c.captured.view_is ∙ c.in_ok-captured.ensures ∙ ap each_once past in
    let same = ap (λ (list : List (List ℕ)). list ++ texts_of c.as_slice-others.result.now) first ∙ ap (λ (list : List (List ℕ)). take bags all ++ list) captured in
    subst (λ (list : List (List ℕ)). IfOk c.numbers_of.result (λ args. args ≡ map (number_in c.args.names.now) list)) same c.numbers_of.ensures
