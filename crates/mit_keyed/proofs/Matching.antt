-- What an index finds has all matches of a right row, and all matches as a bag.
use Rattle.std.proofs.Common.{◌≡◌, ℕ, Bool, true, false, if◌then◌else◌, eqb, List, [], ◌∷◌, ◌++◌, map, Ok, refl, ap, sym, ◌∙◌}
use Rattle.std.specs.List.{filter, flat_map}
use Rattle.std.proofs.lemmas.Bool.{eq-eqb}
use Rattle.mit_rows.specs.Bags.{IsBag, RowOf, bag_of}
use Rattle.mit_rows.specs.declared.value.Value.{Value}
use Rattle.mit_files.specs.Files.{FileMap}
use Rattle.mit_ops.specs.Answers.{both, over}
use Rattle.mit_ops.specs.Forms.{same_row, whole_answer}
use Rattle.mit_ops.specs.Keys.{key_hash, key_of}
use Rattle.mit_ops.specs.Operators.{form_of}
use Rattle.mit_ops.specs.declared.kinds.OpSpec.TheVariants as op
use Rattle.mit_apply.specs.KeyLaws.{same_alone}
use Rattle.mit_keyed.specs.Indexes.{IsIndex, matches_of, places_of, rows_at_places, with_hash}
use Rattle.mit_keyed.specs.declared.index.Index.{Index}

-- a filter after a weaker one
filter_within : {X : Type 0} (p q : X → Bool) (xs : List X) → ((x : X) → p x ≡ true → q x ≡ true) → filter p (filter q xs) ≡ filter p xs
filter_within p q [] h = refl
filter_within p q (x ∷ xs) h =
    elim (p x) as (λ b. p x ≡ b → filter p (filter q (x ∷ xs)) ≡ (if b then x ∷ filter p xs else filter p xs)) [
      | true ↦ λ e. let f = h x e in simp (e, f) (ap (λ t. x ∷ t) (filter_within p q xs h))
      | false ↦ λ e.
          elim (q x) as (λ c. filter p (if c then x ∷ filter q xs else filter q xs) ≡ filter p xs) [
            | true ↦ simp e (filter_within p q xs h)
            | false ↦ filter_within p q xs h
          ]
    ] refl

module _ (left right : List ℕ) (row : RowOf) where
  -- rows with one key have one hash
  pub hash_first : (lefts : List RowOf) → matches_of left right (with_hash left (key_hash (key_of right row)) lefts) row ≡ matches_of left right lefts row
  hash_first lefts = ap (map (λ before. before ++ row))
      (filter_within (λ before. same_row (key_of right row) (key_of left before)) (λ before. eqb (key_hash (key_of right row)) (key_hash (key_of left before))) lefts
      (λ before same. eq-eqb _ _ (ap key_hash (same_alone (key_of right row) (key_of left before) same))))

-- what an index finds at the hash of a key has all matches
pub index_matches : (left right : List ℕ) (lefts : List RowOf) (row : RowOf) (index : Index) → IsIndex left lefts index
    → matches_of left right (rows_at_places lefts (places_of index (key_hash (key_of right row)))) row ≡ matches_of left right lefts row
index_matches left right lefts row index is =
    ap (λ found. matches_of left right found row) (is.found (key_hash (key_of right row))) ∙ hash_first left right row lefts

module _ (sorted : (rows : List RowOf) → IsBag (bag_of rows)) (parts : (first second : List RowOf) → bag_of (bag_of first ++ bag_of second) ≡ bag_of (first ++ second)) where
  bag_after : (rows more : List RowOf) → bag_of (rows ++ bag_of more) ≡ bag_of (rows ++ more)
  bag_after rows more =
      sym (parts rows (bag_of more)) ∙ ap (λ t. bag_of (bag_of rows ++ t)) (sym (sorted more)) ∙ parts rows more

  over_rows : (give : RowOf → List RowOf) (rows : List RowOf) → over (λ row. Ok (give row)) rows ≡ Ok (bag_of (flat_map give rows))
  unfolding over bag_of
  over_rows give [] = refl
  over_rows give (row ∷ rows) = ap (both (Ok (give row))) (over_rows give rows) ∙ ap Ok (bag_after (give row) (flat_map give rows))

  -- the matches of all right rows are what a join answers
  pub join_whole : (left right : List ℕ) (lefts rights : List RowOf) (files : FileMap) (captures : List Value) →
      Ok (bag_of (flat_map (matches_of left right lefts) rights)) ≡ whole_answer (form_of (op.Join left right) files captures) (lefts ∷ rights ∷ [])
  join_whole left right lefts rights files captures = sym (over_rows (matches_of left right lefts) rights)
