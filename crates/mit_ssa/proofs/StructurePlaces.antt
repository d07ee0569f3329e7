-- Where the statements inside an `if` and a `while` begin.
use Rattle.std.proofs.Common.{◌+◌, ℕ, List, length}
use Rattle.mit_ops.specs.declared.types.VarType.{VarType}
use Rattle.mit_ssa.specs.Woven.{Weave, WeavePlace, loop_phis, weave_adds, weave_counts, with_phis, woven_all}

-- where an `if` is at this place: of the two blocks inside it, and the number of the join
abbrev pub in_true : WeavePlace → WeavePlace
in_true place = record { block = place.block + 1; operator = place.operator + 1; statement = place.statement + 1; defined = place.defined }

abbrev pub in_false : List Weave → WeavePlace → WeavePlace
in_false on_true place = record {
  block = place.block + 2 + weave_adds on_true;
  operator = (woven_all on_true (in_true place)).operator;
  statement = place.statement + 1 + weave_counts on_true;
  defined = place.defined;
}

abbrev pub join_after : List Weave → List Weave → ℕ → ℕ
join_after on_true on_false block = block + 2 + weave_adds on_true + 1 + weave_adds on_false

-- where a `while` is at this place: of its body
abbrev pub in_body : List VarType → List Weave → WeavePlace → WeavePlace
in_body types body place =
    let phis = loop_phis (length types) body place.defined in
    record {
      block = place.block + 2;
      operator = place.operator + length phis + 1;
      statement = place.statement + 1;
      defined = with_phis place.defined place.operator phis;
    }
