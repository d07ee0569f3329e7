-- The depth of the deepest statement, and among calls at one depth the caller above the called.
use Rattle.std.proofs.Common.{◌+◌, ◌*◌, max}
use Rattle.mit_ssa.proofs.Halves.{Half}
use Rattle.mit_script.specs.declared.tree.Stmt.{size-Stmt}
use Rattle.mit_ssa.proofs.weave.+weave_all.Given as goal

abbrev pub invariant-weave_all-loop-stmt : goal.invariant-weave_all-loop-stmt
invariant-weave_all-loop-stmt l = Half l.types l.block l.stmt-index l.fn.before l.built

abbrev pub decreases-weave_all : goal.decreases-weave_all
decreases-weave_all l = 4 * goal.size-weave_all l + 1

abbrev pub decreases-weave_if : goal.decreases-weave_if
decreases-weave_if l =
    4 * max (goal.size-weave_if l) (goal.size-weave_if (record { the-lifetimes = l.the-lifetimes; alloc = l.alloc; types = l.types; before = l.before; yes = l.no; no = l.yes })) + 2

abbrev pub decreases-weave_while : goal.decreases-weave_while
decreases-weave_while l = 4 * goal.size-weave_while l + 2

abbrev pub decreases-weave_one : goal.decreases-weave_one
decreases-weave_one l = 4 * size-Stmt l.stmt.now
