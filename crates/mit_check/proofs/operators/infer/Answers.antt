use Rattle.mit_check.proofs.operators.infer.Goals as goal

pub returns-clause-refused : goal.returns-clause-refused
returns-clause-refused c =
    rw (c.deref.ensures.value, c.in_ok-bags.ensures.value, c.deref-2.ensures.value, c.in_ok-captures.ensures, c.split_at.ensures.front, c.split_at.ensures.back, c.from.ensures, c.bag_inputs.ensures) at c.result_type.ensures.refused
