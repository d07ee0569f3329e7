use Rattle.std.proofs.Common.{◌≤◌, ◌∙◌, add-one, arith, false, length, map, min, refl, sym}
use Rattle.std.proofs.lemmas.List.{length-map, length-set, map-set}
use Rattle.mit_kernel.proofs.Lists.{kept_all, kept_goes, kept_none, kept_stays}
use Rattle.mit_kernel.proofs.fed.empty_others.Goals.{then-not-keep-input, else-not-keep-input}
use Rattle.mit_kernel.proofs.fed.empty_others.Goals as goal

pub loop-input-init : goal.loop-input-init
loop-input-init c = record { length_same = refl; rows = sym (kept_none _) }

pub loop-input-preserved : goal.loop-input-preserved
loop-input-preserved c = elim c.if-not-keep-input.branch [
  | then-not-keep-input w ↦ rw w.lists-is (record {
    length_same = length-set _ _ _ ∙ c.loop-input.invariant.length_same;
    rows = rw (map-set (λ rows. rows.items) c.loop-input.lists.items c.loop-input.input _, w.clear.ensures.items, c.loop-input.invariant.rows, add-one, kept_goes c.loop-input.input c.args.keep.now (map (λ rows. rows.items) c.args.lists.now.items) false (omega arith) w.if-not-keep-input.true) refl;
  })
  | else-not-keep-input w ↦ rw w.lists-is (record {
    length_same = c.loop-input.invariant.length_same;
    rows = rw (c.loop-input.invariant.rows, add-one, kept_stays c.loop-input.input c.args.keep.now (map (λ rows. rows.items) c.args.lists.now.items) false (omega arith) w.if-not-keep-input.false) refl;
  })
]

pub returns : goal.returns
returns c =
    let enough : min (length c.args.keep.now) (length (map (λ rows. rows.items) c.args.lists.now.items)) ≤ c.loop-input.input = rw (length-map, ← c.args.lists.now.ok.0, ← c.len.ensures, ← c.min-count.ensures) c.loop-input-test.false in
    c.loop-input.invariant.rows ∙ kept_all c.loop-input.input c.args.keep.now (map (λ rows. rows.items) c.args.lists.now.items) enough
