-- Whether something holds, told of another thing that holds where it does.
use Rattle.std.proofs.Common.{Bool, true, false}
use Rattle.mit_valid.specs.Deciding.{Tells}

pub Tells-like : {P Q : Type 0} (told : Bool) → (P → Q) → (Q → P) → Tells told P → Tells told Q
Tells-like true on back holds = on holds
Tells-like false on back fails = λ holds. fails (back holds)
