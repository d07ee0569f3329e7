-- The part of a join as a list of rows.
use Rattle.std.proofs.Common.{◌≡◌, ℕ, List, [], ◌∷◌, ◌++◌, length, ap, sym, ◌∙◌, arith, Result, Ok, Err, Some}
use Rattle.std.specs.Prelude.{OnOk}
use Rattle.std.specs.FinMap as fin
use Rattle.std.specs.List.{flat_map}
use Rattle.mit_rows.specs.Bags.{RowOf, bag_of}
use Rattle.mit_rows.specs.declared.value.Value.{Value}
use Rattle.mit_files.specs.Files.{FileMap}
use Rattle.mit_ops.specs.Forms.{rows_at, whole_answer}
use Rattle.mit_ops.specs.Operators.{captured, form_of, part_apply}
use Rattle.mit_ops.specs.declared.kinds.OpSpec.TheVariants as op
use Rattle.mit_keyed.specs.Indexes.{matches_of}
use Rattle.mit_kernel.specs.Meaning.{AddsRows, Slot, part_in}

module _ (all : (left right : List ℕ) (lefts rights : List RowOf) (files : FileMap) (captures : List Value) →
    Ok (bag_of (flat_map (matches_of left right lefts) rights)) ≡ whole_answer (form_of (op.Join left right) files captures) (lefts ∷ rights ∷ [])) where
  over_join : (left right : List ℕ) (part count : ℕ) (lists : List (List RowOf)) → length lists ≡ 2
      → part_apply (op.Join left right) part count lists fin.empty ≡ Ok (bag_of (flat_map (matches_of left right (rows_at lists 0)) (rows_at lists 1)))
  unfolding captured
  over_join left right part count [] two = absurd (omega (arith, two))
  over_join left right part count (lefts ∷ []) two = absurd (omega (arith, two))
  over_join left right part count (lefts ∷ rights ∷ []) two = sym (all left right lefts rights fin.empty [])
  over_join left right part count (lefts ∷ rights ∷ more ∷ later) two = absurd (omega (arith, two))

  pub join_part : {X E : Type 0} (result : Result X E) (fed now : Slot) (left right : List ℕ) (lefts rights before after : List RowOf) → fed ≡ now → fed.spec ≡ op.Join left right → length fed.lists ≡ 2
      → lefts ≡ rows_at fed.lists 0 → rights ≡ rows_at fed.lists 1 → OnOk result (after ≡ before ++ flat_map (matches_of left right lefts) rights)
      → OnOk result (AddsRows (part_in (Some now)) before after)
  join_part (Err e) fed now left right lefts rights before after same spec two left_rows right_rows rows = tt
  join_part (Ok x) fed now left right lefts rights before after same spec two left_rows right_rows rows = rw (← same) (
    flat_map (matches_of left right lefts) rights,
    rows,
    ap (λ t. part_apply t fed.part fed.parts fed.lists fin.empty) spec ∙ over_join left right fed.part fed.parts fed.lists two
        ∙ (λ j. Ok (bag_of (flat_map (matches_of left right (sym left_rows j)) (sym right_rows j)))),
  )
