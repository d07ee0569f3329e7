-- An index with one row more.
use Rattle.std.proofs.Common.{◌≡◌, ℕ, ◌<◌, Bool, true, false, if◌then◌else◌, eqb, List, [], ◌∷◌, ◌++◌, length, get_or, refl, ap, sym, ◌∙◌, arith, append-nil, length-append}
use Rattle.std.specs.List.{All}
use Rattle.std.proofs.lemmas.Bool.{eqb-true}
use Rattle.std.proofs.lemmas.List.{get_or_append_left, map-append}
use Rattle.std.proofs.lemmas.List.Elements.{All-head, All-nil, All-push, All-same, All-tail, All-weaker, filter-append}
use Rattle.std.proofs.Math.Seq.{get_or-append_seam}
use Rattle.mit_rows.specs.Bags.{RowOf}
use Rattle.mit_ops.specs.Keys.{key_hash, key_of}
use Rattle.mit_keyed.specs.Indexes.{IsIndex, Notes, places_of, rows_at_places, with_hash}
use Rattle.mit_keyed.specs.declared.index.Index.{Index}

places_stay : (rows more : List RowOf) (places : List ℕ) → All (λ place. place < length rows) places → rows_at_places (rows ++ more) places ≡ rows_at_places rows places
places_stay rows more [] within = refl
places_stay rows more (place ∷ places) within = λ i.
    get_or_append_left rows more [] place (All-head (λ at. at < length rows) place places within) i
    ∷ places_stay rows more places (All-tail (λ at. at < length rows) place places within) i

last_place : (rows : List RowOf) (row : RowOf) (places : List ℕ) → All (λ place. place < length rows) places → rows_at_places (rows ++ row ∷ []) (places ++ length rows ∷ []) ≡ rows_at_places rows places ++ row ∷ []
last_place rows row places within =
    map-append (λ place. get_or (rows ++ row ∷ []) place []) places (length rows ∷ [])
    ∙ (λ i. places_stay rows (row ∷ []) places within i ++ get_or-append_seam rows row [] [] i ∷ [])

-- the places of a hash, where a place was noted or not
abbrev Noted : List ℕ → List ℕ → ℕ → Bool → Type 0
Noted before after place here = after ≡ (if here then before ++ place ∷ [] else before)

found_more : (columns : List ℕ) (rows : List RowOf) (row : RowOf) (hash : ℕ) (before after : List ℕ) (here : Bool) → eqb hash (key_hash (key_of columns row)) ≡ here → Noted before after (length rows) here
    → All (λ place. place < length rows) before → rows_at_places rows before ≡ with_hash columns hash rows
    → rows_at_places (rows ++ row ∷ []) after ≡ with_hash columns hash (rows ++ row ∷ [])
found_more columns rows row hash before after true e noted within found =
    ap (rows_at_places (rows ++ row ∷ [])) noted ∙ last_place rows row before within
    ∙ ap (λ t. t ++ row ∷ []) found
    ∙ sym (filter-append (λ other. eqb hash (key_hash (key_of columns other))) rows (row ∷ []) ∙ simp e)
found_more columns rows row hash before after false e noted within found =
    ap (rows_at_places (rows ++ row ∷ [])) noted ∙ places_stay rows (row ∷ []) before within
    ∙ found
    ∙ sym (filter-append (λ other. eqb hash (key_hash (key_of columns other))) rows (row ∷ []) ∙ simp (e, append-nil))

within_longer : (rows : List RowOf) (row : RowOf) (places : List ℕ) → All (λ place. place < length rows) places → All (λ place. place < length (rows ++ row ∷ [])) places
within_longer rows row places within =
    All-weaker (λ place. place < length rows) (λ place. place < length (rows ++ row ∷ [])) (λ place below. omega (arith, length-append rows (row ∷ []))) places within

within_more : (rows : List RowOf) (row : RowOf) (before after : List ℕ) (here : Bool) → Noted before after (length rows) here
    → All (λ place. place < length rows) before → All (λ place. place < length (rows ++ row ∷ [])) after
within_more rows row before after true noted within =
    All-same (λ place. place < length (rows ++ row ∷ [])) after (before ++ length rows ∷ []) noted
    (All-push (λ place. place < length (rows ++ row ∷ [])) before (length rows) (within_longer rows row before within) (omega (arith, length-append rows (row ∷ []))))
within_more rows row before after false noted within =
    All-same (λ place. place < length (rows ++ row ∷ [])) after before noted (within_longer rows row before within)

noted_at : (before after : Index) (hash place : ℕ) → Notes before after hash place → (other : ℕ) → Noted (places_of before other) (places_of after other) place (eqb other hash)
noted_at before after hash place notes other =
    elim (eqb other hash) as (λ here. eqb other hash ≡ here → places_of after other ≡ (if here then places_of before hash ++ place ∷ [] else places_of before other) → Noted (places_of before other) (places_of after other) place here) [
      | true ↦ λ e is. is ∙ ap (λ h. places_of before h ++ place ∷ []) (sym (eqb-true other hash e))
      | false ↦ λ e is. is
    ] refl (notes other)

pub index_more : (columns : List ℕ) (rows : List RowOf) (row : RowOf) (before after : Index) → Notes before after (key_hash (key_of columns row)) (length rows)
    → IsIndex columns rows before → IsIndex columns (rows ++ row ∷ []) after
index_more columns rows row before after notes index = record {
  found = λ hash. found_more columns rows row hash (places_of before hash) (places_of after hash) (eqb hash (key_hash (key_of columns row))) refl (noted_at before after _ _ notes hash) (index.within hash) (index.found hash);
  within = λ hash. within_more rows row (places_of before hash) (places_of after hash) (eqb hash (key_hash (key_of columns row))) (noted_at before after _ _ notes hash) (index.within hash);
}

pub index_none : (columns : List ℕ) (index : Index) → ((hash : ℕ) → places_of index hash ≡ []) → IsIndex columns [] index
index_none columns index empty = record {
  found = λ hash. ap (rows_at_places []) (empty hash);
  within = λ hash. All-same (λ place. place < 0) (places_of index hash) [] (empty hash) (All-nil (λ place. place < 0));
}
