use Rattle.std.proofs.Common.{◌≡◌, ℕ, Err, subst, sym}
use Rattle.mit_lex.specs.Tokens.{tokens_of}
use Rattle.mit_parse.specs.Places.{IsRefusedAt, no_tokens}
use Rattle.mit_parse.proofs.script.parse.Goals as goal

pub returns-in-Err-Fault-clause-fault : goal.returns-in-Err-Fault-clause-fault
returns-in-Err-Fault-clause-fault c =
    let refused : tokens_of c.args.text.now ≡ Err c.in-Err-Fault.place = (rw c.in-Err-Fault.field-0-is at c.in-Err-Fault.ensures.fault) in
    subst (λ (place : ℕ). IsRefusedAt c.args.text.now place) (sym c.in-Err-Fault.place-is) (no_tokens refused)
