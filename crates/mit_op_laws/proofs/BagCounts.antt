-- Lists made of the same bag are the same bag.
--     filter_same_bag, map_same_bag      the rows that stay, and what is made of each row
--     keys_same_bag      the keys that occur, each once
use Rattle.std.proofs.Common.{◌≡◌, ℕ, ◌+◌, Bool, true, false, List, [], ◌∷◌, ◌++◌, map, refl, ap, sym, ◌∙◌, arith, if◌then◌else◌}
use mathlib.Core.Bool.{◌||◌}
use Rattle.std.proofs.Math.Bool.{or-false, or-true, or_assoc}
use Rattle.std.specs.List.{filter, fold, list_any, sum_by}
use Rattle.std.proofs.lemmas.List.Folds.{list_any-append}
use Rattle.std.proofs.lemmas.List.Sorted.{IsPermutation-map, list_any-IsPermutation, sum_by-IsPermutation}
use Rattle.std.proofs.lemmas.List.Sums.{sum_by-append, sum_by-cons}
use Rattle.mit_rows.specs.Bags.{RowOf, bag_of}
use Rattle.mit_ops.specs.Forms.{add_key, once_each, same_row}
use Rattle.mit_op_laws.proofs.RowLaws.{RowLaws, bag_from, bag_from_counts, chosen, moved_from, one, same_is, tally, tally-cons}

-- a count over the rows that stay is one over all rows
counted_filter : (h : RowOf → ℕ) (q : RowOf → Bool) (rows : List RowOf) → sum_by h (filter q rows) ≡ sum_by (λ row. if q row then h row else 0) rows
counted_filter h q [] = refl
counted_filter h q (row ∷ rows) =
    elim (q row) as (λ b. sum_by h (if b then row ∷ filter q rows else filter q rows) ≡ (if b then h row else 0) + sum_by (λ row. if q row then h row else 0) rows) [
      | true ↦ omega (arith, sum_by-cons h row (filter q rows), counted_filter h q rows)
      | false ↦ omega (arith, counted_filter h q rows)
    ] ∙ sym (sum_by-cons (λ row. if q row then h row else 0) row rows)

module _ (laws : RowLaws) where
  pub filter_same_bag : (q : RowOf → Bool) (xs ys : List RowOf) → bag_of xs ≡ bag_of ys → bag_of (filter q xs) ≡ bag_of (filter q ys)
  filter_same_bag q xs ys e = bag_from_counts laws (filter q xs) (filter q ys) (λ z.
      counted_filter (one z) q xs ∙ sym (sum_by-IsPermutation (λ row. if q row then one z row else 0) xs ys (moved_from laws xs ys e))
      ∙ sym (counted_filter (one z) q ys))

  pub map_same_bag : (f : RowOf → RowOf) (xs ys : List RowOf) → bag_of xs ≡ bag_of ys → bag_of (map f xs) ≡ bag_of (map f ys)
  map_same_bag f xs ys e = bag_from laws (map f xs) (map f ys) (IsPermutation-map f xs ys (moved_from laws xs ys e))

  -- ---- how often a key stands in a list does not count
  any_same : (z key : RowOf) (keys : List RowOf) → same_row z key ≡ true → list_any (same_row z) keys ≡ list_any (same_row key) keys
  any_same z key keys h = ap (λ t. list_any (same_row t) keys) (same_is laws z key h)

  any_add : (z key : RowOf) (seen : List RowOf) → list_any (same_row z) (add_key seen key) ≡ (list_any (same_row z) seen || same_row z key)
  any_add z key seen =
      elim (list_any (same_row key) seen) as (λ b. list_any (same_row key) seen ≡ b → list_any (same_row z) (if b then seen else seen ++ key ∷ []) ≡ (list_any (same_row z) seen || same_row z key)) [
        | true ↦ λ e.
            elim (same_row z key) as (λ b. same_row z key ≡ b → list_any (same_row z) seen ≡ (list_any (same_row z) seen || b)) [
              | true ↦ λ h. (any_same z key seen h ∙ e) ∙ sym (or-true (list_any (same_row z) seen))
              | false ↦ λ h. sym (or-false (list_any (same_row z) seen))
            ] refl
        | false ↦ λ e. list_any-append (same_row z) seen (key ∷ []) ∙ ap (λ t. list_any (same_row z) seen || t) (or-false (same_row z key))
      ] refl

  any_fold : (z : RowOf) (seen keys : List RowOf) → list_any (same_row z) (fold add_key seen keys) ≡ (list_any (same_row z) seen || list_any (same_row z) keys)
  any_fold z seen [] = sym (or-false (list_any (same_row z) seen))
  any_fold z seen (key ∷ keys) =
      any_fold z (add_key seen key) keys ∙ ap (λ t. t || list_any (same_row z) keys) (any_add z key seen)
      ∙ or_assoc (list_any (same_row z) seen) (same_row z key) (list_any (same_row z) keys)

  -- none stands twice
  abbrev Once : List RowOf → Type 0
  Once seen = (z : RowOf) → tally z seen ≡ chosen (list_any (same_row z) seen)

  once_add : (seen : List RowOf) (key : RowOf) → Once seen → Once (add_key seen key)
  once_add seen key apart z =
      elim (list_any (same_row key) seen) as (λ b. list_any (same_row key) seen ≡ b → tally z (if b then seen else seen ++ key ∷ []) ≡ chosen (list_any (same_row z) (if b then seen else seen ++ key ∷ []))) [
        | true ↦ λ e. apart z
        | false ↦ λ e.
            elim (same_row z key) as (λ b. same_row z key ≡ b → tally z (seen ++ key ∷ []) ≡ chosen (list_any (same_row z) (seen ++ key ∷ []))) [
              | true ↦ λ h.
                  let none : list_any (same_row z) seen ≡ false = any_same z key seen h ∙ e in
                  let all : list_any (same_row z) (seen ++ key ∷ []) ≡ true = list_any-append (same_row z) seen (key ∷ []) ∙ simp (none, h) in
                  omega (arith, sum_by-append (one z) seen (key ∷ []), tally-cons z key [], ap chosen h, apart z, ap chosen none, ap chosen all)
              | false ↦ λ h.
                  let all : list_any (same_row z) (seen ++ key ∷ []) ≡ list_any (same_row z) seen = list_any-append (same_row z) seen (key ∷ []) ∙ simp (h, or-false) in
                  omega (arith, sum_by-append (one z) seen (key ∷ []), tally-cons z key [], ap chosen h, apart z, ap chosen all)
            ] refl
      ] refl

  fold_once : (seen keys : List RowOf) → Once seen → Once (fold add_key seen keys)
  fold_once seen [] apart = apart
  fold_once seen (key ∷ keys) apart = fold_once (add_key seen key) keys (once_add seen key apart)

  tally-once_each : (z : RowOf) (keys : List RowOf) → tally z (once_each keys) ≡ chosen (list_any (same_row z) keys)
  tally-once_each z keys = fold_once [] keys (λ z. refl) z ∙ ap chosen (any_fold z [] keys)

  pub keys_same_bag : (key : RowOf → RowOf) (xs ys : List RowOf) → bag_of xs ≡ bag_of ys → bag_of (once_each (map key xs)) ≡ bag_of (once_each (map key ys))
  keys_same_bag key xs ys e = bag_from_counts laws (once_each (map key xs)) (once_each (map key ys)) (λ z.
      tally-once_each z (map key xs)
      ∙ ap chosen (list_any-IsPermutation (same_row z) (map key xs) (map key ys) (IsPermutation-map key xs ys (moved_from laws xs ys e)))
      ∙ sym (tally-once_each z (map key ys)))
