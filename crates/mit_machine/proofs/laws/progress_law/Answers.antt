use Rattle.mit_machine.proofs.Choosing.{PathLaws}
use Rattle.mit_machine.proofs.Progress.{Laws, progress}
use Rattle.mit_machine.proofs.laws.progress_law.Goals as goal

pub returns : goal.returns
returns c =
    let paths : PathLaws = record {
      choices = record { input = c.last_place_law.ensures.input; phi = c.last_place_law.ensures.phi };
      longer = c.longer_view_law.ensures.choice;
      sent = c.chosen_is_sent_law.ensures;
    } in
    let laws : Laws = record { paths = paths; stops = c.path_stops_law.ensures.stops; faulty = c.sums_law.ensures.faulty; explained = c.parts_law.ensures.rows } in
    progress laws
