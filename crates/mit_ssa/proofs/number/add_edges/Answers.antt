use Rattle.std.proofs.Common.{◌∙◌, ◌++◌, ◌∷◌, [], ap, sym, refl, arith, rules, length, append_assoc, length-append}
use Rattle.std.proofs.lemmas.Iterator.Adapters.{YieldsList-from_vec}
use Rattle.std.proofs.lemmas.Iterator.Consumers.{YieldsList-end}
use Rattle.std.proofs.lemmas.List.{append-nil, length_push}
use Rattle.mit_ssa.specs.PlanFor.{edges_in}
use Rattle.mit_ssa.proofs.Numbered.{edges_in-push, length-edges_in}
use Rattle.mit_ssa.proofs.number.add_edges.Goals as goal

pub loop-source-init : goal.loop-source-init
unfolding edges_in
loop-source-init c = record { edges = sym (append-nil c.args.edges.now.items); input = refl }

pub loop-source-preserved : goal.loop-source-preserved
loop-source-preserved c =
    let many = c.loop-source.invariant.input in
    let more = length_push c.loop-source.yielded c.in-Some.source in
    record {
      edges = c.in_ok-push.ensures.items
          ∙ (ap (λ list. list ++ record { from = c.in-Some.source.from; to = c.args.operator; input = c.loop-source.input; route = c.in-Some.source.route } ∷ [])
          c.loop-source.invariant.edges
          ∙ (append_assoc c.args.edges.now.items (edges_in c.args.operator 0 c.loop-source.yielded) _
          ∙ ap (λ list. c.args.edges.now.items ++ list)
          (sym (edges_in-push c.args.operator 0 c.loop-source.input c.loop-source.yielded c.in-Some.source (omega (arith, many))))));
      input = omega (arith, many, more);
    }

pub returns-clause-few : goal.returns-clause-few
returns-clause-few c =
    let end = YieldsList-end (YieldsList-from_vec {s = c.into_iter-source-iterator.result} c.args.inputs.items (search rules) (search rules))
    c.loop-source.yielded c.loop-source.source-iterator c.loop-source.yielded_by c.next.result c.next.new.self c.in-None.is c.next.ensures.steps in
    let a = ap length c.loop-source.invariant.edges in
    let b = length-append c.args.edges.now.items (edges_in c.args.operator 0 c.loop-source.yielded) in
    let d = length-edges_in c.args.operator 0 c.loop-source.yielded in
    let e = end.1 in
    let f = c.args.edges.now.ok.0 in
    let g = c.args.inputs.ok.0 in
    omega (arith, a, b, d, e, f, g)
