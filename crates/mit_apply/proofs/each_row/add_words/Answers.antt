-- The pieces so far are those of the text, and none is longer than it.
use Rattle.std.proofs.Common.{◌∙◌, ◌++◌, ◌∷◌, [], ap, sym, refl, arith, eqb, length, map}
use Rattle.std.proofs.lemmas.List.{map-append}
use Rattle.std.proofs.lemmas.Iterator.Splits.{YieldsList-from_str_split}
use Rattle.std.proofs.lemmas.Iterator.Consumers.{YieldsList-at, YieldsList-end, YieldsList-turn}
use Rattle.mit_rows.specs.declared.value.Value.TheVariants.{Text}
use Rattle.mit_apply.proofs.EachRows.{kept_front, no_byte, one_separator, pieces_short, some_byte, word_kept, word_left_out, word_rows}
use Rattle.mit_apply.proofs.each_row.add_words.Goals as goal

pub piece_text-requires : goal.piece_text-requires
piece_text-requires c =
    let road = YieldsList-at c.into_iter-piece-iterator.ensures.into_iter_gives
    (YieldsList-from_str_split c.args.separator c.args.text.now c.requires.ascii (c.split-piece-items.ensures.text ∙ c.as_str.ensures.value)
    c.split-piece-items.ensures.has_more (c.split-piece-items.ensures.pattern ∙ c.from.ensures)) in
    let turn = YieldsList-turn road c.loop-piece.yielded _ c.loop-piece.yielded_by _ _ c.in-Some.piece c.in-Some.is c.next.ensures.steps in
    let short = pieces_short (λ byte. eqb byte c.args.separator) c.args.text.now (length c.loop-piece.yielded) c.in-Some.piece.now turn.0 in
    omega (arith, ap length turn.1, short, c.bytes-bytes.ensures.short)

pub returns-clause-ok : goal.returns-clause-ok
returns-clause-ok c =
    let road = YieldsList-at c.into_iter-piece-iterator.ensures.into_iter_gives
    (YieldsList-from_str_split c.args.separator c.args.text.now c.requires.ascii (c.split-piece-items.ensures.text ∙ c.as_str.ensures.value)
    c.split-piece-items.ensures.has_more (c.split-piece-items.ensures.pattern ∙ c.from.ensures)) in
    let end = YieldsList-end road c.loop-piece.yielded _ c.loop-piece.yielded_by _ _ c.in-None.is c.next.ensures.steps in
    c.loop-piece.invariant ∙ ap (λ parts. c.args.out.now.items ++ word_rows c.args.row.now parts) (end.0 ∙ one_separator c.args.separator c.args.text.now)

pub returns-in_err-piece_text-clause-err : goal.returns-in_err-piece_text-clause-err
returns-in_err-piece_text-clause-err c = kept_front c.from_residual.result _ _ _ _ c.loop-piece.invariant refl

pub returns-in_err-add_extended-clause-err : goal.returns-in_err-add_extended-clause-err
returns-in_err-add_extended-clause-err c =
    kept_front c.from_residual-in_err-add_extended.result _ _ _ _ c.loop-piece.invariant c.in_err-add_extended.ensures.err

pub loop-piece-preserved-in_ok-add_extended : goal.loop-piece-preserved-in_ok-add_extended
loop-piece-preserved-in_ok-add_extended c =
    word_kept c.args.row.now (map (λ piece. piece.now) c.loop-piece.yielded) c.in-Some.piece.now _ _ _ (some_byte _ c.if-not-is_empty.ensures) c.loop-piece.invariant
    (c.in_ok-add_extended.ensures.ok ∙ ap (λ text. c.loop-piece.out.items ++ (c.args.row.now ++ Text text ∷ []) ∷ []) c.in_ok-piece_text.ensures)
    ∙ ap (λ parts. c.args.out.now.items ++ word_rows c.args.row.now parts) (sym (map-append (λ piece. piece.now) c.loop-piece.yielded (c.in-Some.piece ∷ [])))

pub loop-piece-preserved : goal.loop-piece-preserved
loop-piece-preserved c =
    word_left_out c.args.row.now (map (λ piece. piece.now) c.loop-piece.yielded) c.in-Some.piece.now _ _ (no_byte _ c.if-not-is_empty.ensures) c.loop-piece.invariant
    ∙ ap (λ parts. c.args.out.now.items ++ word_rows c.args.row.now parts) (sym (map-append (λ piece. piece.now) c.loop-piece.yielded (c.in-Some.piece ∷ [])))
