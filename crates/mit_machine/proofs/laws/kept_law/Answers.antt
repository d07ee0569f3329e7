use Rattle.mit_machine.proofs.Keeping.{LongerLaws, kept_is}
use Rattle.mit_machine.proofs.laws.kept_law.Goals as goal

pub returns : goal.returns
returns c =
    let laws : LongerLaws = record {
      choices = record { input = c.last_place_law.ensures.input; phi = c.last_place_law.ensures.phi };
      unchosen = c.superseded_law.ensures.unchosen;
      chosen = c.longer_path_law.ensures;
      superseded = c.longer_view_law.ensures.superseded;
    } in
    kept_is laws
