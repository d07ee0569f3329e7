use Rattle.std.proofs.Common.{◌∙◌, ◌++◌, [], Ok, ap}
use Rattle.std.specs.FinMap as fin
use Rattle.std.specs.List.{flat_map}
use Rattle.mit_rows.specs.Bags.{bag_of}
use Rattle.mit_keyed.specs.Indexes.{matches_of}
use Rattle.mit_step.proofs.whole.join.joined_rows.Goals as goal

pub returns : goal.returns
returns c =
    ap Ok (c.from_rows.ensures ∙ ap bag_of (c.in_ok-add_joined.ensures.ok ∙ ap (λ t. t ++ flat_map (matches_of c.args.left.now c.args.right.now c.args.lefts.now) c.args.rights.now) c.new-made.ensures.items))
    ∙ c.index_law.ensures.whole c.args.left.now c.args.right.now c.args.lefts.now c.args.rights.now fin.empty []
