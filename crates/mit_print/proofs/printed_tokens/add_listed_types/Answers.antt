use Rattle.std.proofs.Common.{◌-◌, codes, ◌++◌, append-nil, drop, length, refl, sym, take}
use Rattle.mit_lex.specs.Written.{token_text}
use Rattle.mit_print.specs.PrintedTokens.{comma, type_tokens}
use Rattle.mit_print.proofs.ListedTexts.{listed_all, listed_more}
use Rattle.mit_print.proofs.printed_tokens.add_listed_types.Goals as goal

pub loop-is-init : goal.loop-is-init
loop-is-init c = sym (append-nil c.add_type.new.text.items)

pub loop-is-preserved : goal.loop-is-preserved
loop-is-preserved c =
    listed_more type_tokens (λ kind. token_text kind ++ codes " ") comma c.add_type.new.text.items c.loop-is.text.items c.add_symbol.new.text.items
    c.add_type-in-loop-is.new.text.items (take (length c.args.types.now - 1) (drop 1 c.args.types.now)) c.loop-is.is-index
    _ _ c.loop-is-test.true refl c.loop-is.invariant c.in_ok-add_symbol.ensures c.in_ok-add_type-2.ensures

pub returns : goal.returns
returns c =
    listed_all type_tokens (λ kind. token_text kind ++ codes " ") comma c.args.text.now.items c.add_type.new.text.items
    c.loop-is.text.items c.args.types.now c.loop-is.is-index _ _ c.in-len1-up.len_at_least refl
    c.loop-is-test.false c.in_ok-add_type.ensures c.loop-is.invariant
