use Rattle.std.proofs.Common.{◌∙◌, sym, ap, get_or, refl, []}
use Rattle.mit_files.specs.Printed as printed
use Rattle.mit_step.proofs.Stores.{all_empty}
use Rattle.mit_step.proofs.run.Run.new.Goals as goal

pub returns-clause-stands : goal.returns-clause-stands
unfolding printed.published_onto
returns-clause-stands c = record {
  store = λ variable. sym (ap (λ store. get_or store variable []) c.in_ok-new.ensures ∙ all_empty c.args.variables variable);
  files = c.new-2.ensures;
  used = refl;
  left = refl;
}
