use Rattle.std.proofs.Common.{◌-◌, codes, ◌++◌, append-nil, drop, length, refl, sym, take}
use Rattle.mit_lex.specs.Written.{token_text}
use Rattle.mit_print.specs.PrintedTokens.{column_tokens, comma}
use Rattle.mit_print.proofs.ListedTexts.{listed_all, listed_more}
use Rattle.mit_print.proofs.printed_tokens.add_columns.Goals as goal

pub loop-column-init : goal.loop-column-init
loop-column-init c = sym (append-nil c.add_column.new.text.items)

pub loop-column-preserved : goal.loop-column-preserved
loop-column-preserved c =
    listed_more column_tokens (λ kind. token_text kind ++ codes " ") comma c.add_column.new.text.items c.loop-column.text.items c.add_symbol.new.text.items
    c.add_column-in-loop-column.new.text.items (take (length c.args.columns.now - 1) (drop 1 c.args.columns.now)) c.loop-column.column-index
    _ 0 c.loop-column-test.true refl c.loop-column.invariant c.in_ok-add_symbol.ensures c.in_ok-add_column-2.ensures

pub returns : goal.returns
returns c =
    listed_all column_tokens (λ kind. token_text kind ++ codes " ") comma c.args.text.now.items c.add_column.new.text.items
    c.loop-column.text.items c.args.columns.now c.loop-column.column-index _ 0 c.in-len1-up.len_at_least refl
    c.loop-column-test.false c.in_ok-add_column.ensures c.loop-column.invariant
