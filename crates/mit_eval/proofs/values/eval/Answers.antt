-- An expression with a type has a value of that type, or a fault.
use Rattle.mit_eval.proofs.Typed.{given_typed, never_untyped}
use Rattle.mit_eval.proofs.values.eval.Goals as goal

pub returns-in-Ok-clause-typed : goal.returns-in-Ok-clause-typed
returns-in-Ok-clause-typed c = given_typed _ _ _ c.in-Ok.value c.requires c.in-Ok.ensures

pub unreachable-requires : goal.unreachable-requires
unreachable-requires c = never_untyped _ _ _ c.requires (rw c.in-Err-Untyped.field-0-is at c.in-Err-Untyped.ensures)
