-- The pairs of a join: those with one key, joined, are the matches of all right rows.
use Rattle.std.proofs.Common.{◌≡◌, ℕ, ◌<◌, true, false, if◌then◌else◌, List, [], ◌∷◌, ◌++◌, length, map, take, drop, get_or, refl, ap, sym, ◌∙◌, arith, append_assoc, subst}
use Rattle.std.specs.List.{All, filter, flat_map}
use Rattle.std.proofs.lemmas.Grind.{flat_map-append}
use Rattle.std.proofs.lemmas.List.{get_or-map, length-map, map-append, take-append-drop}
use Rattle.std.proofs.lemmas.List.Elements.{All-append, All-filter, All-head, All-map, All-nil, All-same, All-tail, All-take, All-weaker, filter-append}
use Rattle.std.proofs.Math.Seq.{take-append_seam}
use Rattle.mit_rows.specs.Bags.{RowOf}
use Rattle.mit_ops.specs.Keys.{key_hash, key_of}
use Rattle.mit_keyed.specs.Indexes.{IsIndex, IsNarrow, has_one_key, joined_row, matches_of, pairs_by_hash, pairs_with, places_of, rows_at_places}
use Rattle.mit_keyed.specs.declared.index.Index.{Index}
use Rattle.mit_keyed.proofs.Matching.{index_matches}

module _ (left right : List ℕ) where
  -- one right row's pairs
  one_row : (row : RowOf) (lefts : List RowOf) → map joined_row (filter (has_one_key left right) (pairs_with row lefts)) ≡ matches_of left right lefts row
  one_row row [] = refl
  one_row row (before ∷ lefts) =
      elim (has_one_key left right (before, row)) as (λ is. map joined_row (if is then (before, row) ∷ filter (has_one_key left right) (pairs_with row lefts) else filter (has_one_key left right) (pairs_with row lefts))
      ≡ map (λ other. other ++ row) (if is then before ∷ filter (λ other. has_one_key left right (other, row)) lefts else filter (λ other. has_one_key left right (other, row)) lefts)) [
        | true ↦ ap (λ rows. (before ++ row) ∷ rows) (one_row row lefts)
        | false ↦ one_row row lefts
      ]

  module _ (lefts : List RowOf) (index : Index) (is : IsIndex left lefts index) where
    pub all_rows : (rights : List RowOf) → map joined_row (filter (has_one_key left right) (flat_map (pairs_by_hash index lefts right) rights)) ≡ flat_map (matches_of left right lefts) rights
    all_rows [] = refl
    all_rows (row ∷ rights) =
        ap (map joined_row) (filter-append (has_one_key left right) (pairs_by_hash index lefts right row) (flat_map (pairs_by_hash index lefts right) rights))
        ∙ map-append joined_row _ _
        ∙ (λ i. (one_row row (rows_at_places lefts (places_of index (key_hash (key_of right row)))) ∙ index_matches left right lefts row index is) i ++ all_rows rights i)

    one_narrow : (row : RowOf) → All (λ before. IsNarrow (before, row)) lefts → All IsNarrow (pairs_by_hash index lefts right row)
    one_narrow row narrow =
        let places = places_of index (key_hash (key_of right row)) in
        All-map IsNarrow (λ before. (before, row)) (rows_at_places lefts places)
        (All-map (λ before. IsNarrow (before, row)) (λ place. get_or lefts place []) places
        (All-weaker (λ place. place < length lefts) (λ place. IsNarrow (get_or lefts place [], row)) (λ place below. narrow place [] below) places (is.within (key_hash (key_of right row)))))

    all_narrow : (rights : List RowOf) → All (λ row. All (λ before. IsNarrow (before, row)) lefts) rights → All IsNarrow (flat_map (pairs_by_hash index lefts right) rights)
    all_narrow [] narrow = All-nil IsNarrow
    all_narrow (row ∷ rights) narrow = All-append IsNarrow (pairs_by_hash index lefts right row) (flat_map (pairs_by_hash index lefts right) rights)
        (one_narrow row (All-head (λ other. All (λ before. IsNarrow (before, other)) lefts) row rights narrow))
        (all_narrow rights (All-tail (λ other. All (λ before. IsNarrow (before, other)) lefts) row rights narrow))

    -- the pairs with one key among those of the next right rows
    pub next_narrow : (pairs found : List (RowOf × RowOf)) (rest some : List RowOf) (n : ℕ) → some ≡ take n rest → pairs ≡ flat_map (pairs_by_hash index lefts right) some
        → found ≡ filter (has_one_key left right) pairs → All (λ row. All (λ before. IsNarrow (before, row)) lefts) rest → All IsNarrow found
    next_narrow pairs found rest some n front is_pairs is_found narrow =
        All-same IsNarrow found (filter (has_one_key left right) (flat_map (pairs_by_hash index lefts right) some)) (is_found ∙ ap (filter (has_one_key left right)) is_pairs)
        (All-filter (has_one_key left right) IsNarrow (flat_map (pairs_by_hash index lefts right) some)
        (all_narrow some (All-same (λ row. All (λ before. IsNarrow (before, row)) lefts) some (take n rest) front (All-take (λ row. All (λ before. IsNarrow (before, row)) lefts) n rest narrow))))

    -- the rows of the next right rows, and of those after them
    pub next_rows : (pairs found : List (RowOf × RowOf)) (rest some later : List RowOf) (n : ℕ) (all before after : List RowOf) → some ≡ take n rest → later ≡ drop n rest
        → pairs ≡ flat_map (pairs_by_hash index lefts right) some → found ≡ filter (has_one_key left right) pairs → after ≡ before ++ map joined_row found
        → before ++ flat_map (matches_of left right lefts) rest ≡ all → after ++ flat_map (matches_of left right lefts) later ≡ all
    next_rows pairs found rest some later n all before after front back is_pairs is_found adds so_far =
        let matched = flat_map (matches_of left right lefts) in
        let rows : map joined_row found ≡ matched some = ap (map joined_row) (is_found ∙ ap (filter (has_one_key left right)) is_pairs) ∙ all_rows some in
        ap (λ t. t ++ matched later) (adds ∙ ap (λ t. before ++ t) rows)
        ∙ append_assoc before (matched some) (matched later)
        ∙ ap (λ t. before ++ t) (sym (flat_map-append (matches_of left right lefts) some later) ∙ ap matched ((λ i. front i ++ back i) ∙ take-append-drop n rest))
        ∙ so_far

-- what stood at the start still does, with more rows at the end
pub start_stays : (start before after more : List RowOf) → take (length start) before ≡ start → after ≡ before ++ more → take (length start) after ≡ start
start_stays start before after more so_far adds =
    let rest = drop (length start) before in
    ap (take (length start)) (adds ∙ ap (λ t. t ++ more) (sym (take-append-drop (length start) before) ∙ ap (λ t. t ++ rest) so_far) ∙ append_assoc start rest more)
    ∙ take-append_seam start (rest ++ more)

-- a pair of a list whose ends are narrow
pub pair_narrow : {X : Type 0} (ends : X → RowOf × RowOf) (pairs : List X) (i : ℕ) (pair : X) → i < length pairs → pair ≡ get_or pairs i pair → All IsNarrow (map ends pairs) → IsNarrow (ends pair)
pair_narrow ends pairs i pair more is narrow =
    subst IsNarrow (get_or-map ends pairs i pair (ends pair) more ∙ ap ends (sym is)) (narrow i (ends pair) (omega (arith, length-map pairs ends, more)))
