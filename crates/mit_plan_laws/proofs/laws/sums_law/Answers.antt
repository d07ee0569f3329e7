use Rattle.mit_plan_laws.proofs.Choices.{PathLaws}
use Rattle.mit_plan_laws.proofs.Sums.{OpLaws, bag_there, faulty, sums, there_made}
use Rattle.mit_plan_laws.proofs.Writes.{write_is}
use Rattle.mit_plan_laws.proofs.Scalars.{scalar_is}
use Rattle.mit_plan_laws.proofs.laws.sums_law.Goals as goal

pub returns : goal.returns
returns c =
    let paths : PathLaws = record { longer = c.longer_view_law.ensures.choice; input = c.last_place_law.ensures.input; phi = c.last_place_law.ensures.phi } in
    let laws : OpLaws = record {
      parts = c.partition_law.ensures.parts;
      order = c.partition_law.ensures.order;
      part_order = c.partition_law.ensures.part_order;
      senders = c.routes_law.ensures.senders;
      more = c.answers_add_up.ensures.more;
      commutes = c.answers_add_up.ensures.commutes;
      sorted = c.bags_are_sorted_lists.ensures.sorted;
      joined = c.bags_are_sorted_lists.ensures.parts;
    } in
    record {
      whole = sums paths laws;
      ok = bag_there paths laws;
      faulty = faulty paths laws;
      made = there_made laws;
      write = write_is paths laws c.partition_law.ensures.write;
      decides = scalar_is paths laws;
    }
