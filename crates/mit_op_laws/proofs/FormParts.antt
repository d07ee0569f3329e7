-- The parts of a form's answer add up to the whole, one form after another.
use Rattle.std.proofs.Common.{◌≡◌, ℕ, zero, suc, ◌+◌, ◌%◌, ◌<◌, ◌≤◌, true, false, List, [], ◌∷◌, ◌++◌, map, length, refl, ap, sym, ◌∙◌, arith, if◌then◌else◌, Ok, Err, eqb}
use Rattle.std.specs.List.{filter}
use Rattle.std.specs.Ordering.{is_le}
use Rattle.std.proofs.lemmas.Bool.{eq-eqb}
use Rattle.std.proofs.lemmas.List.Elements.{All-head, All-tail, filter-append}
use Rattle.mit_rows.specs.Bags.{RowOf, all_rows, bag_of}
use Rattle.mit_files.specs.Rows.{part_from, part_of}
use Rattle.mit_ops.specs.Answers.{BagOrFault, RowsOrKind, at_row, both, fault_cmp, over}
use Rattle.mit_ops.specs.Forms.{Form, dealt, deal, each_key, each_match, each_row, once, once_each, part_answer, rows_at, whole_answer, with_key}
use Rattle.mit_ops.specs.Keys.{key_hash, key_of}
use Rattle.mit_ops.specs.Parts.{CutInto, sum_parts}
use Rattle.mit_ops.specs.Routes.{lists_at, routed}
use Rattle.mit_ops.specs.declared.faults.OpFault.{OpFault}
use Rattle.mit_ops.specs.declared.routes.Route.{Route}
use Rattle.mit_ops.specs.declared.routes.Route.TheVariants.{Forward, ByKey}
use Rattle.mit_op_laws.proofs.AnswerSums.{itself, over-append, over-itself, over_filter_same}
use Rattle.mit_op_laws.proofs.KeyFilters.{keys_kept, rows_kept}
use Rattle.mit_op_laws.proofs.PartSums.{over_split, put, sum_parts_both, sum_parts_none, sum_parts_put, sum_parts_same}
use Rattle.mit_op_laws.proofs.RowLaws.{RowLaws}

-- by these routes, the answers of the partitions add up
abbrev pub AddsUp : ℕ → Form → (ℕ → Route) → List (List (List RowOf)) → Type 0
AddsUp parts form routes cuts = sum_parts (λ part. part_answer form parts part (lists_at routes parts part 0 cuts)) parts ≡ whole_answer form (map all_rows cuts)

-- a partition alone has the whole
part_from_one : (number : ℕ) (rows : List RowOf) → part_from 0 1 number rows ≡ rows
unfolding part_from
part_from_one number [] = refl
part_from_one number (row ∷ rows) =
    let here : eqb (number % 1) 0 ≡ true = eq-eqb (number % 1) 0 (omega arith) in
    rw here (ap (λ t. row ∷ t) (part_from_one (number + 1) rows))

pub part_alone : (form : Form) (bags : List (List RowOf)) → part_answer form 1 0 bags ≡ whole_answer form bags
part_alone (each_row give) bags = refl
part_alone (each_key key give) bags = refl
part_alone (each_match left right give) bags = refl
part_alone (once give) bags = refl
part_alone (dealt (Ok rows)) bags = ap (λ t. Ok (bag_of t)) (part_from_one 0 rows)
part_alone (dealt (Err fault)) bags = refl

fault_sum : (fault : OpFault) (parts : ℕ) → 0 < parts → sum_parts (λ part. Err fault) parts ≡ Err fault
unfolding sum_parts
fault_sum fault zero l = absurd (omega arith)
fault_sum fault (suc zero) l = refl
fault_sum fault (suc (suc n)) l =
    ap (both (Err fault)) (fault_sum fault (suc n) (omega arith))
    ∙ (elim (is_le (fault_cmp fault fault)) as (λ b. ◌≡◌ {A = BagOrFault} (Err (if b then fault else fault)) (Err fault)) [ true ↦ refl | false ↦ refl ])

-- rows that go by their key are those whose key goes there
routed_by : (columns : List ℕ) (parts from to : ℕ) (cut : List (List RowOf)) → routed (ByKey columns) parts from to cut ≡ filter (λ row. eqb (key_hash (key_of columns row) % parts) to) (all_rows cut)
unfolding routed all_rows
routed_by columns parts from to [] = refl
routed_by columns parts from to (rows ∷ later) =
    ap (λ t. filter (λ row. eqb (key_hash (key_of columns row) % parts) to) rows ++ t) (routed_by columns parts (suc from) to later)
    ∙ sym (filter-append (λ row. eqb (key_hash (key_of columns row) % parts) to) rows (all_rows later))

-- an input whose route is by a key
abbrev GoesBy : (RowOf → ℕ) → ℕ → Route → Type 0
GoesBy home parts route = (to : ℕ) (cut : List (List RowOf)) → routed route parts 0 to cut ≡ filter (λ row. eqb (home row) to) (all_rows cut)

module _ (home : RowOf → ℕ) (routes : ℕ → Route) (parts to : ℕ) where
  first_kept : (cuts : List (List (List RowOf))) → GoesBy home parts (routes 0) → rows_at (lists_at routes parts to 0 cuts) 0 ≡ filter (λ row. eqb (home row) to) (rows_at (map all_rows cuts) 0)
  unfolding lists_at
  first_kept [] goes = refl
  first_kept (cut ∷ later) goes = goes to cut

  second_kept : (cuts : List (List (List RowOf))) → GoesBy home parts (routes 1) → rows_at (lists_at routes parts to 0 cuts) 1 ≡ filter (λ row. eqb (home row) to) (rows_at (map all_rows cuts) 1)
  unfolding lists_at
  second_kept [] goes = refl
  second_kept (cut ∷ []) goes = refl
  second_kept (cut ∷ other ∷ later) goes = goes to other

pub goes_by : (columns : List ℕ) (parts : ℕ) → GoesBy (λ row. key_hash (key_of columns row) % parts) parts (ByKey columns)
goes_by columns parts to cut = routed_by columns parts 0 to cut

module _ (laws : RowLaws) (parts : ℕ) where
  -- ---- rows that stay where they are
  stay_sum : (f : RowOf → BagOrFault) (from : ℕ) (cut : List (List RowOf)) → from + length cut ≤ parts →
      sum_parts (λ part. over f (routed Forward parts from part cut)) parts ≡ over f (all_rows cut)
  unfolding routed all_rows over
  stay_sum f from [] h = sum_parts_none parts
  stay_sum f from (rows ∷ later) h =
      sum_parts_same (λ part. over f (here part ++ rest part)) (λ part. both (over f (here part)) (over f (rest part))) parts (λ part l. over-append laws f (here part) (rest part))
      ∙ sum_parts_both laws (λ part. over f (here part)) (λ part. over f (rest part)) parts
      ∙ ap (λ t. both t (sum_parts (λ part. over f (rest part)) parts)) (over_split laws f (λ row. from) parts rows (λ row. omega arith))
      ∙ ap (both (over f rows)) (stay_sum f (suc from) later (omega arith))
      ∙ sym (over-append laws f rows (all_rows later))
    where
      here : ℕ → List RowOf
      here part = filter (λ row. eqb from part) rows

      rest : ℕ → List RowOf
      rest part = routed Forward parts (suc from) part later

  all_stay : (f : RowOf → BagOrFault) (input : ℕ) (cuts : List (List (List RowOf))) → CutInto parts cuts →
      sum_parts (λ part. over f (all_rows (lists_at (λ input. Forward) parts part input cuts))) parts ≡ over f (all_rows (map all_rows cuts))
  unfolding lists_at all_rows over
  all_stay f input [] h = sum_parts_none parts
  all_stay f input (cut ∷ later) h =
      sum_parts_same (λ part. over f (here part ++ rest part)) (λ part. both (over f (here part)) (over f (rest part))) parts (λ part l. over-append laws f (here part) (rest part))
      ∙ sum_parts_both laws (λ part. over f (here part)) (λ part. over f (rest part)) parts
      ∙ ap (λ t. both t (sum_parts (λ part. over f (rest part)) parts)) (stay_sum f 0 cut (let short = All-head (λ (cut : List (List RowOf)). length cut ≤ parts) cut later h in omega arith))
      ∙ ap (both (over f (all_rows cut))) (all_stay f (suc input) later (All-tail (λ cut. length cut ≤ parts) cut later h))
      ∙ sym (over-append laws f (all_rows cut) (all_rows (map all_rows later)))
    where
      here : ℕ → List RowOf
      here part = routed Forward parts 0 part cut

      rest : ℕ → List RowOf
      rest part = all_rows (lists_at (λ input. Forward) parts part (suc input) later)

  pub each_row_parts : (give : RowOf → RowsOrKind) (cuts : List (List (List RowOf))) → CutInto parts cuts → AddsUp parts (each_row give) (λ input. Forward) cuts
  each_row_parts give cuts cut = all_stay (λ row. at_row row (give row)) 0 cuts cut

  -- ---- rows that go by their key: `home` is where a key goes
  module _ (home : RowOf → ℕ) (below : (key : RowOf) → home key < parts) (routes : ℕ → Route) (cuts : List (List (List RowOf))) where
    pub each_key_parts : (key : RowOf → RowOf) (give : RowOf → List RowOf → RowsOrKind) → GoesBy (λ row. home (key row)) parts (routes 0) → AddsUp parts (each_key key give) routes cuts
    each_key_parts key give goes =
        sum_parts_same _ (λ part. over answer (filter (λ k. eqb (home k) part) keys)) parts (λ part h.
        ap (λ rows. over (λ k. at_row k (give k (with_key key k rows))) (once_each (map key rows))) (first_kept (λ row. home (key row)) routes parts part cuts goes)
        ∙ ap (over (λ k. at_row k (give k (with_key key k (filter (λ row. eqb (home (key row)) part) rows))))) (keys_kept laws (λ k. eqb (home k) part) key rows)
        ∙ over_filter_same (λ k. at_row k (give k (with_key key k (filter (λ row. eqb (home (key row)) part) rows)))) answer (λ k. eqb (home k) part) keys
        (λ k e. ap (λ t. at_row k (give k t)) (rows_kept laws (λ k. eqb (home k) part) key k rows e)))
        ∙ over_split laws answer home parts keys below
      where
        rows : List RowOf
        rows = rows_at (map all_rows cuts) 0

        keys : List RowOf
        keys = once_each (map key rows)

        answer : RowOf → BagOrFault
        answer k = at_row k (give k (with_key key k rows))

    pub each_match_parts : (left right : RowOf → RowOf) (give : RowOf → List RowOf → RowsOrKind) → GoesBy (λ row. home (left row)) parts (routes 0) → GoesBy (λ row. home (right row)) parts (routes 1)
        → AddsUp parts (each_match left right give) routes cuts
    each_match_parts left right give goes_left goes_right =
        sum_parts_same _ (λ part. over answer (filter (λ row. eqb (home (right row)) part) rights)) parts (λ part h.
        (λ i. over (λ row. at_row row (give row (with_key left (right row) (first_kept (λ row. home (left row)) routes parts part cuts goes_left i)))) (second_kept (λ row. home (right row)) routes parts part cuts goes_right i))
        ∙ over_filter_same (λ row. at_row row (give row (with_key left (right row) (filter (λ row. eqb (home (left row)) part) lefts)))) answer (λ row. eqb (home (right row)) part) rights
        (λ row e. ap (λ t. at_row row (give row t)) (rows_kept laws (λ k. eqb (home k) part) left (right row) lefts e)))
        ∙ over_split laws answer (λ row. home (right row)) parts rights (λ row. below (right row))
      where
        lefts : List RowOf
        lefts = rows_at (map all_rows cuts) 0

        rights : List RowOf
        rights = rows_at (map all_rows cuts) 1

        answer : RowOf → BagOrFault
        answer row = at_row row (give row (with_key left (right row) lefts))

  -- ---- rows that are dealt out
  dealt_over : (f : RowOf → BagOrFault) (number : ℕ) (rows : List RowOf) → 0 < parts → sum_parts (λ part. over f (part_from part parts number rows)) parts ≡ over f rows
  unfolding part_from over
  dealt_over f number [] l = sum_parts_none parts
  dealt_over f number (row ∷ rows) l =
      sum_parts_same (λ part. over f (part_from part parts number (row ∷ rows))) (λ part. put (f row) (eqb (number % parts) part) (over f (part_from part parts (number + 1) rows))) parts
      (λ part h. elim (eqb (number % parts) part) as (λ b. over f (if b then row ∷ part_from part parts (number + 1) rows else part_from part parts (number + 1) rows) ≡ put (f row) b (over f (part_from part parts (number + 1) rows))) [ true ↦ refl | false ↦ refl ])
      ∙ sum_parts_put laws (f row) (λ part. over f (part_from part parts (number + 1) rows)) (number % parts) parts (omega arith)
      ∙ ap (both (f row)) (dealt_over f (number + 1) rows l)

  pub dealt_parts : (found : BagOrFault) (routes : ℕ → Route) (cuts : List (List (List RowOf))) → 0 < parts → AddsUp parts (dealt found) routes cuts
  dealt_parts (Ok rows) routes cuts l =
      sum_parts_same (λ part. deal parts part (Ok rows)) (λ part. over itself (part_of part parts rows)) parts (λ part h. sym (over-itself laws (part_of part parts rows)))
      ∙ dealt_over itself 0 rows l ∙ over-itself laws rows
  dealt_parts (Err fault) routes cuts l = fault_sum fault parts l
