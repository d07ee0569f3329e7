use Rattle.mit_plan_laws.proofs.Choices.{PathLaws}
use Rattle.mit_plan_laws.proofs.Histories.{held_explained, run_explained}
use Rattle.mit_plan_laws.proofs.Upward.{edges_go_up}
use Rattle.mit_plan_laws.proofs.laws.parts_law.Goals as goal

pub returns : goal.returns
returns c =
    let paths : PathLaws = record { longer = c.longer_view_law.ensures.choice; input = c.last_place_law.ensures.input; phi = c.last_place_law.ensures.phi } in
    record {
      rows = λ job places ranges up. run_explained paths job places (edges_go_up job.plan ranges up);
      held = held_explained;
    }
