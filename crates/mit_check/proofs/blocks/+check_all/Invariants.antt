-- What is known so far and what is left give the whole.
use Rattle.std.proofs.Common.{◌≡◌, ◌+◌, drop, map}
use Rattle.mit_script.specs.Accepted as spec
use Rattle.mit_script.specs.Trees.{count_of_all}
use Rattle.mit_check.specs.Trails.{ExtendsTrail, known_in}
use Rattle.mit_check.proofs.blocks.+check_all.Given as goal

abbrev pub invariant-check_all-loop-stmt : goal.invariant-check_all-loop-stmt
invariant-check_all-loop-stmt l = record {
  same : spec.in_order (map spec.check_of (drop l.stmt-index l.block)) (known_in l.known)
      ≡ spec.in_order (map spec.check_of l.block) (known_in l.fn.tables);
  extends : ExtendsTrail l.fn.tables l.known;
  counted : l.known.before + count_of_all (drop l.stmt-index l.block) ≡ l.fn.tables.before + count_of_all l.block;
}
