use Rattle.std.proofs.Common.{◌+◌, ap, sym, refl, arith, rules, length, length-append, drop}
use Rattle.std.proofs.lemmas.Result.{err_from_is_err_and}
use Rattle.std.proofs.lemmas.Iterator.Adapters.{YieldsList-from_vec}
use Rattle.std.proofs.lemmas.Iterator.Consumers.{YieldsList-so_far, YieldsList-turn}
use Rattle.std.proofs.lemmas.List.{append-nil, length_push}
use Rattle.mit_ssa.specs.PlanFor.{operator_edges, ops_in}
use Rattle.mit_ssa.proofs.Numbered.{length-ops_in, operators_more, operators_stop, taken_apart}
use Rattle.mit_ssa.proofs.number.add_operators.Goals as goal

pub loop-operator-init : goal.loop-operator-init
unfolding operator_edges ops_in
loop-operator-init c = record {
  blocks = refl;
  ops = sym (append-nil c.args.lists.ops.items);
  edges = sym (append-nil c.args.lists.edges.items);
  few = c.requires.edges;
  index = refl;
}

pub add_operator-requires : goal.add_operator-requires
add_operator-requires c =
    let turn = YieldsList-turn (YieldsList-from_vec {s = c.into_iter-operator-iterator.result} c.args.operators.items (search rules) (search rules))
    c.loop-operator.yielded c.loop-operator.operator-iterator c.loop-operator.yielded_by c.next.result c.next.new.self c.in-Some.operator c.in-Some.is c.next.ensures.steps in
    let a = turn.0 in
    let b = ap length c.loop-operator.invariant.ops in
    let d = length-append c.args.lists.ops.items (ops_in c.args.block 0 c.loop-operator.yielded) in
    let e = length-ops_in c.args.block 0 c.loop-operator.yielded in
    let f = c.requires.few in
    omega (arith, a, b, d, e, f)

pub returns-in_err-all-clause-large : goal.returns-in_err-all-clause-large
returns-in_err-all-clause-large c =
    let road = YieldsList-from_vec {s = c.into_iter-operator-iterator.result} c.args.operators.items (search rules) (search rules) in
    let so_far = YieldsList-so_far road c.loop-operator.yielded c.loop-operator.operator-iterator c.loop-operator.yielded_by in
    let turn = YieldsList-turn road
    c.loop-operator.yielded c.loop-operator.operator-iterator c.loop-operator.yielded_by c.next.result c.next.new.self c.in-Some.operator c.in-Some.is c.next.ensures.steps in
    let p = err_from_is_err_and c.from_residual.result c.from_residual.ensures.1 in
    rw (p.1, p.2)
    (operators_stop (length c.args.lists.ops.items) c.loop-operator.yielded (drop (length c.loop-operator.yielded + 1) c.args.operators.items) c.args.operators.items
    c.in-Some.operator c.args.lists.edges.items c.loop-operator.all.edges.items c.in_err-all.field-0.0 c.loop-operator.invariant.edges
    (taken_apart c.args.operators.items c.loop-operator.yielded c.in-Some.operator so_far turn.0 turn.1) c.in_err-all.ensures.large)

pub loop-operator-preserved : goal.loop-operator-preserved
loop-operator-preserved c =
    let more = operators_more c.args.block (length c.args.lists.ops.items) c.loop-operator.yielded c.in-Some.operator c.args.lists c.loop-operator.all c.in_ok-all.all c.loop-operator.index
    refl c.loop-operator.invariant.index c.loop-operator.invariant.blocks c.loop-operator.invariant.ops c.loop-operator.invariant.edges c.in_ok-all.ensures.added in
    let many = length_push c.loop-operator.yielded c.in-Some.operator in
    let so_far = c.loop-operator.invariant.index in
    record { blocks = more.0; ops = more.1; edges = more.2; few = c.in_ok-all.ensures.added.few; index = omega (arith, many, so_far) }
