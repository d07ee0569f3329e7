use Rattle.mit_machine.proofs.Channels.{bags_move, blocks_move, reports_move}
use Rattle.mit_machine.proofs.Settling.{FateLaws}
use Rattle.mit_machine.proofs.laws.channels_law.Goals as goal

pub returns : goal.returns
returns c =
    let laws : FateLaws = record { stays = c.longer_view_law.ensures.fate; waits = c.undecided_fate_law.ensures.waits } in
    record {
      blocks = blocks_move;
      reports = reports_move;
      bags = bags_move laws;
    }
