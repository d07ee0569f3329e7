use Rattle.std.proofs.Common.{sym, ◌∙◌}
use Rattle.std.proofs.lemmas.Result.{IfOk-weaker}
use Rattle.mit_lex.proofs.PieceFacts.{blank_is, column_is, comment_is, number_is, symbol_is, word_is}
use Rattle.mit_lex.proofs.piece.unquoted.Goals as goal

pub returns-then-is_blank : goal.returns-then-is_blank
returns-then-is_blank c = blank_is c.args.text.now c.args.rest.now c.args.first c.requires.parts (sym c.is_blank.ensures ∙ c.if-is_blank.true)

pub returns-then-first-eq35 : goal.returns-then-first-eq35
returns-then-first-eq35 c =
    comment_is c.args.text.now c.args.rest.now c.args.first c.line_len.result c.requires.parts c.if-first-eq35.true c.line_len.ensures.value

pub returns-then-first-eq36 : goal.returns-then-first-eq36
returns-then-first-eq36 c = column_is _ c.args.text.now c.args.rest.now c.args.first c.requires.parts c.if-first-eq36.true c.column.ensures

pub returns-then-is_ascii_digit : goal.returns-then-is_ascii_digit
returns-then-is_ascii_digit c =
    number_is _ c.args.text.now c.args.rest.now c.args.first c.requires.parts (sym c.is_ascii_digit.ensures.value ∙ c.if-is_ascii_digit.true) c.number.ensures

pub returns-then-is_word_byte : goal.returns-then-is_word_byte
returns-then-is_word_byte c =
    IfOk-weaker c.word.result _ _
    (λ piece. word_is piece c.args.text.now c.args.rest.now c.args.first c.requires.parts (sym c.is_ascii_digit.ensures.value ∙ c.if-is_ascii_digit.false)
    (sym c.is_word_byte.ensures ∙ c.if-is_word_byte.true))
    c.word.ensures

pub returns : goal.returns
returns c =
    symbol_is _ c.args.text.now c.args.rest.now c.args.first c.requires.parts (sym c.is_blank.ensures ∙ c.if-is_blank.false) c.if-first-eq35.false c.if-first-eq36.false
    c.requires.plain (sym c.is_ascii_digit.ensures.value ∙ c.if-is_ascii_digit.false) (sym c.is_word_byte.ensures ∙ c.if-is_word_byte.false) c.symbol.ensures
