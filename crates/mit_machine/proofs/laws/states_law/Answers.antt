use Rattle.mit_machine.proofs.Fed.{fed_by_all}
use Rattle.mit_machine.proofs.Monotone.{released_later, within_window}
use Rattle.mit_machine.proofs.Picks.{after_picks_valid}
use Rattle.mit_machine.proofs.Settling.{FateLaws}
use Rattle.mit_machine.proofs.Validity.{first_valid, offered_valid}
use Rattle.mit_machine.proofs.laws.states_law.Goals as goal

pub returns : goal.returns
returns c =
    let laws : FateLaws = record { stays = c.longer_view_law.ensures.fate; waits = c.undecided_fate_law.ensures.waits } in
    record { first = first_valid; picked = after_picks_valid laws; after = offered_valid laws; released = released_later; window = within_window; fed = fed_by_all }
