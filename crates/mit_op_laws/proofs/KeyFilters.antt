-- Rows and keys that go to one partition.
--     filter_within      a filter after a weaker one
--     keys_kept      the keys of the rows that stay are the keys that stay
--     rows_kept      a key that stays has all its rows with it
use Rattle.std.proofs.Common.{◌≡◌, Bool, true, false, List, [], ◌∷◌, ◌++◌, map, refl, ap, sym, ◌∙◌, if◌then◌else◌, append-nil}
use Rattle.std.specs.List.{filter, fold, list_any}
use Rattle.std.proofs.lemmas.List.Elements.{filter-append}
use Rattle.std.proofs.lemmas.Map.Views.{any-filter_same}
use Rattle.mit_rows.specs.Bags.{RowOf}
use Rattle.mit_ops.specs.Forms.{add_key, once_each, same_row, with_key}
use Rattle.mit_op_laws.proofs.RowLaws.{RowLaws, same_is}

filter_within : {X : Type 0} (p q : X → Bool) (xs : List X) → ((x : X) → p x ≡ true → q x ≡ true) → filter p (filter q xs) ≡ filter p xs
filter_within p q [] h = refl
filter_within p q (x ∷ xs) h =
    elim (p x) as (λ b. p x ≡ b → filter p (filter q (x ∷ xs)) ≡ (if b then x ∷ filter p xs else filter p xs)) [
      | true ↦ λ e. let f = h x e in simp (e, f) (ap (λ t. x ∷ t) (filter_within p q xs h))
      | false ↦ λ e.
          elim (q x) as (λ c. filter p (if c then x ∷ filter q xs else filter q xs) ≡ filter p xs) [
            | true ↦ simp e (filter_within p q xs h)
            | false ↦ filter_within p q xs h
          ]
    ] refl

filter-map : {X Y : Type 0} (key : X → Y) (q : Y → Bool) (xs : List X) → map key (filter (λ x. q (key x)) xs) ≡ filter q (map key xs)
filter-map key q [] = refl
filter-map key q (x ∷ xs) =
    elim (q (key x)) as (λ b. map key (if b then x ∷ filter (λ x. q (key x)) xs else filter (λ x. q (key x)) xs) ≡ (if b then key x ∷ filter q (map key xs) else filter q (map key xs))) [
      | true ↦ ap (λ t. key x ∷ t) (filter-map key q xs)
      | false ↦ filter-map key q xs
    ]

-- a test of keys: which of them stay
module _ (laws : RowLaws) (stays : RowOf → Bool) where
  same_stays : (key : RowOf) → stays key ≡ true → (other : RowOf) → same_row key other ≡ true → stays other ≡ true
  same_stays key h other e = ap stays (sym (same_is laws key other e)) ∙ h

  pub rows_kept : (key : RowOf → RowOf) (wanted : RowOf) (rows : List RowOf) → stays wanted ≡ true → with_key key wanted (filter (λ row. stays (key row)) rows) ≡ with_key key wanted rows
  rows_kept key wanted rows h = filter_within (λ row. same_row wanted (key row)) (λ row. stays (key row)) rows (λ row e. same_stays wanted h (key row) e)

  add_kept : (seen : List RowOf) (key : RowOf) → filter stays (add_key seen key) ≡ (if stays key then add_key (filter stays seen) key else filter stays seen)
  add_kept seen key =
      elim (stays key) as (λ b. stays key ≡ b → filter stays (add_key seen key) ≡ (if b then add_key (filter stays seen) key else filter stays seen)) [
        | true ↦ λ e.
            rw (any-filter_same (same_row key) stays true (same_stays key e) seen)
            (elim (list_any (same_row key) seen) as (λ b. filter stays (if b then seen else seen ++ key ∷ []) ≡ (if b then filter stays seen else filter stays seen ++ key ∷ [])) [
              | true ↦ refl
              | false ↦ filter-append stays seen (key ∷ []) ∙ simp e
            ])
        | false ↦ λ e.
            elim (list_any (same_row key) seen) as (λ b. filter stays (if b then seen else seen ++ key ∷ []) ≡ filter stays seen) [
              | true ↦ refl
              | false ↦ filter-append stays seen (key ∷ []) ∙ simp (e, append-nil)
            ]
      ] refl

  fold_kept : (seen keys : List RowOf) → fold add_key (filter stays seen) (filter stays keys) ≡ filter stays (fold add_key seen keys)
  fold_kept seen [] = refl
  fold_kept seen (key ∷ keys) =
      elim (stays key) as (λ b. (if b then add_key (filter stays seen) key else filter stays seen) ≡ filter stays (add_key seen key) → fold add_key (filter stays seen) (if b then key ∷ filter stays keys else filter stays keys) ≡ filter stays (fold add_key (add_key seen key) keys)) [
        | true ↦ λ e. ap (λ t. fold add_key t (filter stays keys)) e ∙ fold_kept (add_key seen key) keys
        | false ↦ λ e. ap (λ t. fold add_key t (filter stays keys)) e ∙ fold_kept (add_key seen key) keys
      ] (sym (add_kept seen key))

  pub keys_kept : (key : RowOf → RowOf) (rows : List RowOf) → once_each (map key (filter (λ row. stays (key row)) rows)) ≡ filter stays (once_each (map key rows))
  keys_kept key rows = ap once_each (filter-map key stays rows) ∙ fold_kept [] (map key rows)
