use Rattle.std.proofs.Common.{◌+◌}
use Rattle.mit_check.proofs.Trails.{extends_by_one}
use Rattle.mit_check.proofs.operators.assign.Goals as goal

pub returns-clause-extends : goal.returns-clause-extends
returns-clause-extends c =
    extends_by_one c.args.tables (record { assigned = c.mark.new.assigned; trail = c.mark.new.trail; types = c.keep.new.types; before = c.args.tables.before + 1 }) c.args.target c.in_ok-mark.ensures.trail c.in_ok-mark.ensures.assigned
