use Rattle.std.proofs.Common.{◌≡◌, ◌||◌, ℕ, List, drop, map}
use Rattle.mit_ops.specs.declared.types.VarType.{VarType}
use Rattle.mit_ssa.specs.Weaving.{has_mark}
use Rattle.mit_ssa.specs.Woven.{assigned_in, weave_of}
use Rattle.mit_ssa.proofs.changed.+mark_all.Given as goal

abbrev pub invariant-mark_all-loop-stmt : goal.invariant-mark_all-loop-stmt
invariant-mark_all-loop-stmt l = (types : List VarType) (variable : ℕ) →
    (has_mark l.after.items variable || assigned_in (map (weave_of types) (drop l.stmt-index l.block)) variable)
    ≡ (has_mark l.fn.marks.items variable || assigned_in (map (weave_of types) l.block) variable)
