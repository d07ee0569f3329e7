use Rattle.std.proofs.Common.{◌∙◌, ap, set}
use Rattle.std.proofs.lemmas.List.{map-set}
use Rattle.mit_step.proofs.store.Store.put.Goals as goal

pub returns : goal.returns
returns c = map-set _ c.self.inside.bags.items c.args.variable c.args.bag ∙ ap (λ bags. set bags c.args.variable c.args.bag.value) c.self.view_is
