use Rattle.std.proofs.Common.{◌∙◌, ap, map, Bor}
use Rattle.std.proofs.lemmas.List.Elements.{All-drop, All-same}
use Rattle.std.specs.List.{All}
use Rattle.mit_rows.specs.declared.row.Row.{Row}
use Rattle.mit_keyed.specs.Indexes.{IsNarrow}
use Rattle.mit_keyed.proofs.Pairing.{next_narrow, next_rows, start_stays}
use Rattle.mit_keyed.proofs.matches.add_joined.Goals as goal

pub add_pairs-requires : goal.add_pairs-requires
add_pairs-requires c =
    let ends = map (λ (pair : Bor Row × Bor Row). (pair.0.now, pair.1.now)) in
    next_narrow c.args.left_keys.now c.args.right_keys.now c.args.lefts.now c.args.index.now c.requires.indexed
    _ _ c.loop-rest.rest.now c.split_at.result.0.now _ c.split_at.ensures.front (ap ends c.deref.ensures.value ∙ c.in_ok-pairs.ensures)
    (ap ends c.deref-in-loop-rest.ensures.value ∙ c.in_ok-matches.ensures) c.loop-rest.invariant.2

pub loop-rest-preserved : goal.loop-rest-preserved
loop-rest-preserved c =
    let ends = map (λ (pair : Bor Row × Bor Row). (pair.0.now, pair.1.now)) in
    let lefts = c.args.lefts.now in (
      start_stays c.args.out.now.items c.loop-rest.out.items c.add_pairs.new.out.items _ c.loop-rest.invariant.0 c.in_ok-add_pairs.ensures.ok,
      next_rows c.args.left_keys.now c.args.right_keys.now lefts c.args.index.now c.requires.indexed
          _ _ c.loop-rest.rest.now c.split_at.result.0.now c.split_at.result.1.now _ _ c.loop-rest.out.items c.add_pairs.new.out.items c.split_at.ensures.front c.split_at.ensures.back
          (ap ends c.deref.ensures.value ∙ c.in_ok-pairs.ensures) (ap ends c.deref-in-loop-rest.ensures.value ∙ c.in_ok-matches.ensures) c.in_ok-add_pairs.ensures.ok c.loop-rest.invariant.1,
      All-same (λ row. All (λ before. IsNarrow (before, row)) lefts) _ _ c.split_at.ensures.back (All-drop (λ row. All (λ before. IsNarrow (before, row)) lefts) _ _ c.loop-rest.invariant.2),
    )
