-- The totals of the keys with one row more.
use Rattle.std.proofs.Common.{◌≡◌, ℕ, true, false, cond, List, [], ◌∷◌, ◌++◌, map, refl, ap, sym, ◌∙◌, if◌then◌else◌, Some, None}
use mathlib.Core.Bool.{Bool, ◌||◌}
use Rattle.std.specs.List.{list_any, fold}
use Rattle.std.specs.Map.{lookup, set_value}
use Rattle.std.proofs.lemmas.Bool.{or_parts}
use Rattle.std.proofs.lemmas.List.{map_push}
use Rattle.std.proofs.lemmas.List.Elements.{filter-append}
use Rattle.std.proofs.lemmas.List.Folds.{list_any-append}
use Rattle.std.proofs.lemmas.List.Sums.{fold_push}
use Rattle.indexmap.specs.IndexMap.{insert_entry}
use Rattle.mit_rows.specs.Bags.{RowOf}
use Rattle.mit_ops.specs.Forms.{add_key, once_each, same_row, with_key}
use Rattle.mit_ops.specs.Keys.{key_of}
use Rattle.mit_ops.specs.declared.kinds.Agg.{Agg}
use Rattle.mit_apply.specs.KeyLaws.{keys_equal, same_alone, same_itself}
use Rattle.mit_apply.specs.TotalStored.{total_of}
use Rattle.mit_apply.specs.declared.total.Total.{Total}
use Rattle.mit_keyed.specs.Groups.{group_total, grouped, paired}

or_false : (b : Bool) → (b || false) ≡ b
or_false true = refl
or_false false = refl

or_true : (b : Bool) → (b || true) ≡ true
or_true true = refl
or_true false = refl

or_assoc : (a b c : Bool) → ((a || b) || c) ≡ (a || (b || c))
or_assoc true b c = refl
or_assoc false b c = refl

-- ---- keys that are kept once
any_same : (z key : RowOf) (keys : List RowOf) → same_row z key ≡ true → list_any (same_row z) keys ≡ list_any (same_row key) keys
any_same z key keys h = ap (λ t. list_any (same_row t) keys) (same_alone z key h)

any_add : (z key : RowOf) (seen : List RowOf) → list_any (same_row z) (add_key seen key) ≡ (list_any (same_row z) seen || same_row z key)
any_add z key seen =
    elim (list_any (same_row key) seen) as (λ b. list_any (same_row key) seen ≡ b → list_any (same_row z) (if b then seen else seen ++ key ∷ []) ≡ (list_any (same_row z) seen || same_row z key)) [
      | true ↦ λ e.
          elim (same_row z key) as (λ b. same_row z key ≡ b → list_any (same_row z) seen ≡ (list_any (same_row z) seen || b)) [
            | true ↦ λ h. (any_same z key seen h ∙ e) ∙ sym (or_true (list_any (same_row z) seen))
            | false ↦ λ h. sym (or_false (list_any (same_row z) seen))
          ] refl
      | false ↦ λ e. list_any-append (same_row z) seen (key ∷ []) ∙ ap (λ t. list_any (same_row z) seen || t) (or_false (same_row z key))
    ] refl

any_fold : (z : RowOf) (seen keys : List RowOf) → list_any (same_row z) (fold add_key seen keys) ≡ (list_any (same_row z) seen || list_any (same_row z) keys)
any_fold z seen [] = sym (or_false (list_any (same_row z) seen))
any_fold z seen (key ∷ keys) =
    any_fold z (add_key seen key) keys ∙ ap (λ t. t || list_any (same_row z) keys) (any_add z key seen)
    ∙ or_assoc (list_any (same_row z) seen) (same_row z key) (list_any (same_row z) keys)

abbrev Apart : List RowOf → Type 0
Apart [] = Unit {0}
Apart (x ∷ xs) = (list_any (same_row x) xs ≡ false) × Apart xs

apart_push : (xs : List RowOf) (k : RowOf) → Apart xs → list_any (same_row k) xs ≡ false → Apart (xs ++ k ∷ [])
apart_push [] k apart none = (refl, tt)
apart_push (x ∷ xs) k apart none =
    let parts = or_parts (same_row k x) (list_any (same_row k) xs) none in
    (list_any-append (same_row x) xs (k ∷ []) ∙ simp (apart.0, or_false) (keys_equal.symm x k ∙ parts.0), apart_push xs k apart.1 parts.1)

apart_add : (seen : List RowOf) (k : RowOf) → Apart seen → Apart (add_key seen k)
apart_add seen k apart =
    elim (list_any (same_row k) seen) as (λ b. list_any (same_row k) seen ≡ b → Apart (if b then seen else seen ++ k ∷ [])) [
      | true ↦ λ e. apart
      | false ↦ λ e. apart_push seen k apart e
    ] refl

apart_fold : (seen ks : List RowOf) → Apart seen → Apart (fold add_key seen ks)
apart_fold seen [] apart = apart
apart_fold seen (k ∷ ks) apart = apart_fold (add_key seen k) ks (apart_add seen k apart)

-- ---- an entry for each key
module _ (A B : RowOf → Total) (k : RowOf) (others : (x : RowOf) → same_row k x ≡ false → A x ≡ B x) where
  same_entries : (ks : List RowOf) → list_any (same_row k) ks ≡ false → map (paired A) ks ≡ map (paired B) ks
  same_entries [] none = refl
  same_entries (x ∷ xs) none =
      let parts = or_parts (same_row k x) (list_any (same_row k) xs) none in
      λ i. paired (λ y. others x parts.0 i) x ∷ same_entries xs parts.1 i

  put_entry : (ks : List RowOf) → Apart ks → insert_entry same_row (map (paired A) ks) k (B k) ≡ map (paired B) (add_key ks k)
  put_entry [] apart = refl
  put_entry (x ∷ xs) apart =
      elim (same_row k x) as (λ b. same_row k x ≡ b → (if b then paired (λ y. B k) x ∷ map (paired A) xs else paired A x ∷ insert_entry same_row (map (paired A) xs) k (B k)) ≡ map (paired B) (if b || list_any (same_row k) xs then x ∷ xs else x ∷ xs ++ k ∷ [])) [
        | true ↦ λ e.
            let is : k ≡ x = same_alone k x e in
            λ i. paired (λ y. B (is i)) x ∷ same_entries xs (ap (λ t. list_any (same_row t) xs) is ∙ apart.0) i
        | false ↦ λ e.
            (λ i. paired (λ y. others x e i) x ∷ put_entry xs apart.1 i)
            ∙ (elim (list_any (same_row k) xs) as (λ b. paired B x ∷ map (paired B) (if b then xs else xs ++ k ∷ []) ≡ map (paired B) (if b then x ∷ xs else x ∷ xs ++ k ∷ [])) [ true ↦ refl | false ↦ refl ])
      ] refl

lookup_entry : (A : RowOf → Total) (k : RowOf) (ks : List RowOf) → lookup (same_row k) (map (paired A) ks) ≡ (if list_any (same_row k) ks then Some (A k) else None)
lookup_entry A k [] = refl
lookup_entry A k (x ∷ xs) =
    elim (same_row k x) as (λ b. same_row k x ≡ b → cond b (Some (A x)) (lookup (same_row k) (map (paired A) xs)) ≡ (if b || list_any (same_row k) xs then Some (A k) else None)) [
      | true ↦ λ e. ap (λ t. Some (A t)) (sym (same_alone k x e))
      | false ↦ λ e. lookup_entry A k xs
    ] refl

-- to change what a key has is to put it
set_put : (k : RowOf) (was new : Total) (es : List (RowOf × Total)) → lookup (same_row k) es ≡ Some was → set_value (same_row k) es new ≡ insert_entry same_row es k new
set_put k was new [] found = cc found
set_put k was new (e ∷ es) found =
    elim (same_row k e.0) as (λ b. cond b (Some e.1) (lookup (same_row k) es) ≡ Some was → cond b ((e.0, new) ∷ es) (e ∷ set_value (same_row k) es new) ≡ (if b then (e.0, new) ∷ es else e ∷ insert_entry same_row es k new)) [
      | true ↦ λ f. refl
      | false ↦ λ f. ap (λ t. e ∷ t) (set_put k was new es f)
    ] found

-- and to give a key what it has changes nothing
pub set_same : (k : RowOf) (was : Total) (es : List (RowOf × Total)) → lookup (same_row k) es ≡ Some was → set_value (same_row k) es was ≡ es
set_same k was [] found = refl
set_same k was (e ∷ es) found =
    elim (same_row k e.0) as (λ b. cond b (Some e.1) (lookup (same_row k) es) ≡ Some was → cond b ((e.0, was) ∷ es) (e ∷ set_value (same_row k) es was) ≡ e ∷ es) [
      | true ↦ λ f. let is : e.1 ≡ was = cc f in λ i. (e.0, sym is i) ∷ es
      | false ↦ λ f. ap (λ t. e ∷ t) (set_same k was es f)
    ] found

-- ---- the rows of a key
with_more : (key : RowOf → RowOf) (rows : List RowOf) (row k : RowOf) → with_key key k (rows ++ row ∷ []) ≡ with_key key k rows ++ (if same_row k (key row) then row ∷ [] else [])
with_more key rows row k = filter-append (λ r. same_row k (key r)) rows (row ∷ [])

with_none : (key : RowOf → RowOf) (k : RowOf) (rows : List RowOf) → list_any (same_row k) (map key rows) ≡ false → with_key key k rows ≡ []
with_none key k [] none = refl
with_none key k (row ∷ rows) none =
    let parts = or_parts (same_row k (key row)) (list_any (same_row k) (map key rows)) none in
    simp parts.0 (with_none key k rows parts.1)

nothing_more : (rows : List RowOf) → rows ++ [] ≡ rows
nothing_more [] = refl
nothing_more (row ∷ rows) = ap (λ t. row ∷ t) (nothing_more rows)

module _ (keys : List ℕ) (agg : Agg) (rows : List RowOf) (row : RowOf) where
  abbrev key : RowOf
  key = key_of keys row

  abbrev before : List RowOf
  before = with_key (key_of keys) key rows

  here : total_of agg (before ++ row ∷ []) ≡ group_total keys agg (rows ++ row ∷ []) key
  here = let tied = same_itself key in ap (total_of agg) (sym (with_more (key_of keys) rows row key ∙ simp tied))

  others : (x : RowOf) → same_row key x ≡ false → group_total keys agg rows x ≡ group_total keys agg (rows ++ row ∷ []) x
  others x e = let apart : same_row x key ≡ false = keys_equal.symm x key ∙ e in
      ap (total_of agg) (sym (with_more (key_of keys) rows row x ∙ simp (apart, nothing_more)))

  more_put : (es : List (RowOf × Total)) → es ≡ grouped keys agg rows → insert_entry same_row es key (total_of agg (before ++ row ∷ [])) ≡ grouped keys agg (rows ++ row ∷ [])
  more_put es g =
      (λ i. insert_entry same_row (g i) key (here i))
      ∙ put_entry (group_total keys agg rows) (group_total keys agg (rows ++ row ∷ [])) key others (once_each (map (key_of keys) rows)) (apart_fold [] (map (key_of keys) rows) tt)
      ∙ ap (map (paired (group_total keys agg (rows ++ row ∷ [])))) (sym (fold_push add_key [] (map (key_of keys) rows) key) ∙ ap once_each (sym (map_push (key_of keys) rows row)))

  found : (es : List (RowOf × Total)) → es ≡ grouped keys agg rows → lookup (same_row key) es ≡ (if list_any (same_row key) (map (key_of keys) rows) then Some (total_of agg before) else None)
  found es g =
      ap (lookup (same_row key)) g ∙ lookup_entry (group_total keys agg rows) key (once_each (map (key_of keys) rows))
      ∙ ap (λ b. if b then Some (total_of agg before) else None) (any_fold key [] (map (key_of keys) rows))

  -- what stands at a key is the total of its rows
  pub found_is : (es : List (RowOf × Total)) (was : Total) → es ≡ grouped keys agg rows → lookup (same_row key) es ≡ Some was → was ≡ total_of agg before
  found_is es was g at =
      elim (list_any (same_row key) (map (key_of keys) rows)) as (λ b. Some was ≡ (if b then Some (total_of agg before) else None) → was ≡ total_of agg before) [
        | true ↦ λ e. cc e
        | false ↦ λ e. cc e
      ] (sym at ∙ found es g)

  none_is : (es : List (RowOf × Total)) → es ≡ grouped keys agg rows → lookup (same_row key) es ≡ None → before ≡ []
  none_is es g at =
      elim (list_any (same_row key) (map (key_of keys) rows)) as (λ b. list_any (same_row key) (map (key_of keys) rows) ≡ b → None ≡ (if b then Some (total_of agg before) else None) → before ≡ []) [
        | true ↦ λ h e. cc e
        | false ↦ λ h e. with_none (key_of keys) key rows h
      ] refl (sym at ∙ found es g)

  -- with one row more at a key that is there
  pub more_there : (es : List (RowOf × Total)) (was new : Total) → es ≡ grouped keys agg rows → lookup (same_row key) es ≡ Some was → new ≡ total_of agg (before ++ row ∷ []) →
      set_value (same_row key) es new ≡ grouped keys agg (rows ++ row ∷ [])
  more_there es was new g at is =
      set_put key was new es at ∙ ap (insert_entry same_row es key) is ∙ more_put es g

  -- and at a new one
  pub more_new : (es : List (RowOf × Total)) (new : Total) → es ≡ grouped keys agg rows → lookup (same_row key) es ≡ None → new ≡ total_of agg (row ∷ []) →
      insert_entry same_row es key new ≡ grouped keys agg (rows ++ row ∷ [])
  more_new es new g at is =
      ap (insert_entry same_row es key) (is ∙ ap (λ t. total_of agg (t ++ row ∷ [])) (sym (none_is es g at))) ∙ more_put es g
