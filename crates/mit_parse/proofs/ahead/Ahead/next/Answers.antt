use Rattle.mit_parse.proofs.ShortRuns.{rest_short}
use Rattle.mit_parse.proofs.ahead.Ahead.next.Goals as goal

pub invariant_of-result : goal.invariant_of-result
invariant_of-result c = rest_short c.self.inside.tokens.now c.self.invariant
