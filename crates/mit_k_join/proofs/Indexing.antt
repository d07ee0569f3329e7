-- A slot with one row more, and with lists that are emptied.
use Rattle.std.proofs.Common.{◌≡◌, ℕ, zero, suc, ◌<◌, Bool, true, false, List, [], ◌∷◌, ◌++◌, length, Result, Ok, Err, refl, ap, ◌∙◌, arith}
use Rattle.std.specs.Prelude.{OnErr, OnOk, slice_get}
use Rattle.std.specs.Option.{unwrap_or}
use Rattle.std.specs.Result.{is_err}
use Rattle.mit_rows.specs.Bags.{RowOf}
use Rattle.mit_kernel.specs.Meaning.{Slot, kept_lists, with_lists, with_row}
use Rattle.mit_ops.specs.Forms.{rows_at}
use Rattle.mit_ops.specs.Keys.{key_hash, key_of}
use Rattle.mit_ops.specs.declared.kinds.OpSpec.TheVariants as op
use Rattle.mit_keyed.specs.Indexes.{IsIndex, Notes}
use Rattle.mit_k_join.specs.Slots.{IsJoin, left_keys}
use Rattle.mit_keyed.specs.declared.index.Index.{Index}

-- ---- the lists
length-with_row : (lists : List (List RowOf)) (input : ℕ) (row : RowOf) → length (with_row lists input row) ≡ length lists
length-with_row [] input row = refl
length-with_row (rows ∷ later) zero row = refl
length-with_row (rows ∷ later) (suc input) row = ap suc (length-with_row later input row)

first_more : (lists : List (List RowOf)) (row : RowOf) → 0 < length lists → rows_at (with_row lists 0 row) 0 ≡ rows_at lists 0 ++ row ∷ []
first_more [] row some = absurd (omega arith)
first_more (rows ∷ later) row some = refl

first_same : (lists : List (List RowOf)) (input : ℕ) (row : RowOf) → 0 < input → rows_at (with_row lists input row) 0 ≡ rows_at lists 0
first_same [] input row other = refl
first_same (rows ∷ later) zero row other = absurd (omega arith)
first_same (rows ∷ later) (suc input) row other = refl

length-kept : (keep : List Bool) (lists : List (List RowOf)) → length (kept_lists keep lists) ≡ length lists
length-kept keep [] = refl
length-kept [] (rows ∷ later) = refl
length-kept (stays ∷ keep) (rows ∷ later) = ap suc (length-kept keep later)

first_kept : (keep : List Bool) (lists : List (List RowOf)) → unwrap_or (slice_get keep 0) true ≡ true → rows_at (kept_lists keep lists) 0 ≡ rows_at lists 0
first_kept keep [] stays = refl
first_kept [] (rows ∷ later) stays = refl
first_kept (true ∷ keep) (rows ∷ later) stays = refl
first_kept (false ∷ keep) (rows ∷ later) stays = cc

first_emptied : (keep : List Bool) (lists : List (List RowOf)) → unwrap_or (slice_get keep 0) true ≡ false → rows_at (kept_lists keep lists) 0 ≡ []
first_emptied keep [] goes = refl
first_emptied [] (rows ∷ later) goes = cc
first_emptied (true ∷ keep) (rows ∷ later) goes = cc
first_emptied (false ∷ keep) (rows ∷ later) goes = refl

-- ---- the slot
module _ (more : (columns : List ℕ) (rows : List RowOf) (row : RowOf) (before after : Index) → Notes before after (key_hash (key_of columns row)) (length rows)
    → IsIndex columns rows before → IsIndex columns (rows ++ row ∷ []) after) where
  pub join_left : {X E : Type 0} (result : Result X E) (fed now : Slot) (before after : Index) (left right : List ℕ) (row : RowOf) (hash place : ℕ) → is_err result ≡ false
      → OnOk result (now ≡ with_lists (λ lists. with_row lists 0 row) fed) → IsJoin fed before → 0 < length fed.lists → fed.spec ≡ op.Join left right
      → hash ≡ key_hash (key_of left row) → place ≡ length (rows_at fed.lists 0) → Notes before after hash place → IsJoin now after
  join_left (Err e) fed now before after left right row hash place went is join some spec hashed last notes = cc
  join_left (Ok x) fed now before after left right row hash place went is join some spec hashed last notes =
      let keys : left_keys fed.spec ≡ left = ap left_keys spec in
      rw is (record {
        kind = join.kind;
        two = length-with_row fed.lists 0 row ∙ join.two;
        indexed =
            rw (first_more fed.lists row some)
            (more (left_keys fed.spec) (rows_at fed.lists 0) row before after (rw (keys, ← hashed, ← last) notes) join.indexed);
      })

pub join_other : {X E : Type 0} (result : Result X E) (fed now : Slot) (index : Index) (input : ℕ) (row : RowOf) → IsJoin fed index → 0 < input
    → OnOk result (now ≡ with_lists (λ lists. with_row lists input row) fed) → OnErr result (now ≡ fed) → IsJoin now index
join_other (Ok x) fed now index input row join other ok err = rw ok (record {
  kind = join.kind;
  two = length-with_row fed.lists input row ∙ join.two;
  indexed = rw (first_same fed.lists input row other) join.indexed;
})
join_other (Err e) fed now index input row join other ok err = rw err join

pub join_kept : (fed now : Slot) (index : Index) (keep : List Bool) → IsJoin fed index → unwrap_or (slice_get keep 0) true ≡ true → now ≡ with_lists (kept_lists keep) fed → IsJoin now index
join_kept fed now index keep join stays is = rw is (record {
  kind = join.kind;
  two = length-kept keep fed.lists ∙ join.two;
  indexed = rw (first_kept keep fed.lists stays) join.indexed;
})

pub join_emptied : (fed now : Slot) (before after : Index) (keep : List Bool) → IsJoin fed before → unwrap_or (slice_get keep 0) true ≡ false → now ≡ with_lists (kept_lists keep) fed
    → IsIndex (left_keys fed.spec) [] after → IsJoin now after
join_emptied fed now before after keep join goes is empty = rw is (record {
  kind = join.kind;
  two = length-kept keep fed.lists ∙ join.two;
  indexed = rw (first_emptied keep fed.lists goes) empty;
})

-- the index of the left rows, by the left keys
pub indexed_as : (fed : Slot) (index : Index) (left right : List ℕ) (lefts : List RowOf) → IsJoin fed index → fed.spec ≡ op.Join left right → lefts ≡ rows_at fed.lists 0
    → IsIndex left lefts index
indexed_as fed index left right lefts join spec is =
    let keys : left_keys fed.spec ≡ left = ap left_keys spec in
    rw (is, ← keys) join.indexed
