-- One edge more.
use Rattle.std.proofs.Common.{◌++◌, ◌∙◌, ℕ, List, ap, append_assoc, codes, flat_map, get_or, slice_index_or, sym, take}
use Rattle.std.proofs.lemmas.List.{flat_map_more, take_more}
use Rattle.mit_plan.specs.Plans.{no_edge}
use Rattle.mit_plan.specs.Printed.{edge_text}
use Rattle.mit_plan.proofs.print.add_more.Goals as goal

pub loop-number-preserved : goal.loop-number-preserved
loop-number-preserved c =
    let edges = c.args.edges.now in
    let numbers = c.args.numbers.now in
    let at = c.loop-number.number-index in
    let comma = codes ", " in
    let edge = edge_text (slice_index_or edges (get_or numbers at 0) no_edge) in
    let line : ℕ → List ℕ = λ number. comma ++ edge_text (slice_index_or edges number no_edge) in
    c.in_ok-add_edge.ensures
    ∙ ap (λ (text : List ℕ). text ++ edge) (c.in_ok-add.ensures ∙ ap (λ (text : List ℕ). text ++ comma) c.loop-number.invariant)
    ∙ append_assoc _ comma edge
    ∙ flat_map_more line c.args.text.now.items (take at numbers) (get_or numbers at 0)
    ∙ ap (λ (some : List ℕ). c.args.text.now.items ++ flat_map line some) (sym (take_more numbers at 0 c.loop-number-test.true))
