use Rattle.std.proofs.Common.{◌≡◌, ◌∷◌, List, ℕ, drop, sym, ap, ◌∙◌}
use Rattle.std.proofs.lemmas.Result.{IfOk-weaker}
use Rattle.mit_lex.specs.Pieces.{quoted, text_piece}
use Rattle.mit_lex.proofs.PieceFacts.{boundary_after_quote, rest_after_quote, text_is}
use Rattle.mit_lex.proofs.piece.piece_at.Goals as goal

pub range_from-requires : goal.range_from-requires
range_from-requires c _ =
    boundary_after_quote c.args.text.now c.as_bytes.result.now c.split_at.result.1.now c.in-Some.rest.now c.args.at c.in-Some.first.now
    c.utf8.text c.requires c.as_bytes.ensures.value c.split_at.ensures.back c.in-Some.ensures.cases.0 c.if-first-eq34.true

pub returns-then-first-eq34 : goal.returns-then-first-eq34
returns-then-first-eq34 c =
    let text = c.args.text.now in
    let parts : drop c.args.at text ≡ c.in-Some.first.now ∷ c.in-Some.rest.now =
    ap (drop c.args.at) (sym c.as_bytes.ensures.value) ∙ (sym c.split_at.ensures.back ∙ c.in-Some.ensures.cases.0) in
    let left = rest_after_quote text c.as_bytes.result.now c.split_at.result.1.now c.in-Some.rest.now c.args.at c.in-Some.first.now
    c.requires c.as_bytes.ensures.value c.split_at.ensures.back c.in-Some.ensures.cases.0 in
    let same : c.range_from.result.now ≡ c.in-Some.rest.now = c.range_from.ensures.value ∙ sym left in
    IfOk-weaker c.quoted.result _ _
    (λ piece is. text_is piece (drop c.args.at text) c.in-Some.rest.now c.in-Some.first.now parts c.if-first-eq34.true
    (is ∙ ap (λ (rest : List ℕ). text_piece (quoted rest)) same))
    c.quoted.ensures
