use Rattle.mit_cfg.specs.Blocks.{blocks_of}
use Rattle.mit_plan.specs.Held.{Job}
use Rattle.mit_ssa.specs.PlanFor.{plan_for}
use Rattle.mit_meaning.proofs.Endings.{means}
use Rattle.mit_meaning.proofs.Good.{Stands}
use Rattle.mit_meaning.proofs.LastDefinition.{PathLaws}
use Rattle.mit_meaning.proofs.OneOperator.{one_operator}
use Rattle.mit_meaning.proofs.PlanLaws.{PlanLaws}
use Rattle.mit_meaning.proofs.laws.meaning_law.Goals as goal

pub returns : goal.returns
returns c = λ script types files decisions partitions formed accepted some.
    let paths : PathLaws = record { input = c.last_place_law.ensures.input; phi = c.last_place_law.ensures.phi } in
    let laws : PlanLaws = record {
      sorted = c.bags_are_sorted_lists.ensures.sorted;
      rows = c.parts_law.ensures.rows;
      even = c.more_places_law.ensures.even;
      faults = c.more_places_law.ensures.faults;
      writes = c.more_places_law.ensures.writes;
      makes = c.sums_law.ensures.whole;
      ok = c.sums_law.ensures.ok;
      write = c.sums_law.ensures.write;
      decides = c.sums_law.ensures.decides;
      exec = c.walk_law.ensures.exec;
    } in
    let job : Job = record { plan = plan_for script types; files = files; decisions = decisions; partitions = partitions } in
    let found = c.reaching_law.ensures script types formed accepted in
    let stands : Stands job (blocks_of script) found.0 = record {
      some = some;
      reaches = found.1;
      ranges = c.structure_law.ensures.ranges script types formed accepted;
      leaves = c.structure_law.ensures.leaves script types formed accepted;
      inputs = c.structure_law.ensures.inputs script types formed accepted;
      operands = c.definitions_law.ensures.operands script types formed accepted;
      upward = c.definitions_law.ensures.upward script types formed accepted;
      types = c.types_law.ensures.types script types formed accepted;
      routes = c.types_law.ensures.routes script types formed accepted;
    } in
    means laws job script found.0 formed stands (one_operator paths job (blocks_of script) found.0 stands)
