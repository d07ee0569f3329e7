use Rattle.std.proofs.Common.{◌≡◌, ◌+◌, drop}
use Rattle.mit_ssa.specs.Weaving.{defined_variables, looked}
use Rattle.mit_ssa.specs.Woven.{with_phis}
use Rattle.mit_ssa.proofs.defined.define_all.Given as goal

abbrev pub invariant-loop-phi : goal.invariant-loop-phi
invariant-loop-phi l = record {
  next : l.next ≡ l.fn.number + l.phi-index;
  done : with_phis (looked l.after.items) l.next (defined_variables (drop l.phi-index l.phis)) ≡ with_phis (looked l.fn.defined.items) l.fn.number (defined_variables l.phis);
}
