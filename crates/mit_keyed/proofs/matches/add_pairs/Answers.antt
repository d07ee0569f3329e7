use Rattle.mit_keyed.proofs.Pairing.{pair_narrow}
use Rattle.mit_keyed.proofs.matches.add_pairs.Goals as goal

pub joined-requires : goal.joined-requires
joined-requires c =
    pair_narrow (λ pair. (pair.0.now, pair.1.now)) c.args.pairs.now _ c.loop-left-item.result c.loop-left-test.true c.loop-left-item.is c.requires
