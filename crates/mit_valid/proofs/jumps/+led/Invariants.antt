use Rattle.mit_valid.proofs.jumps.+led.Given as goal

abbrev pub decreases-led : goal.decreases-led
decreases-led l = l.steps
