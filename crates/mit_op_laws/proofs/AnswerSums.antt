-- Answers add up in any order and in any grouping.
--     both_comm, both_assoc, both_none      the sum of two
--     over-append, over_more, over-map, over_same, over_same_bag      the sum over a list
use Rattle.std.proofs.Common.{◌≡◌, Bool, true, false, List, [], ◌∷◌, ◌++◌, refl, ap, sym, ◌∙◌, Ok, Err, if◌then◌else◌, append_assoc, append-nil}
use Rattle.std.specs.List.{filter}
use Rattle.std.proofs.lemmas.List.Sorted.{IsPermutation-append_comm, IsPermutation-append_left, IsPermutation-append_right}
use Rattle.mit_rows.specs.Bags.{RowOf, bag_of}
use Rattle.mit_ops.specs.Answers.{BagOrFault, both, fault_cmp, over, settled}
use Rattle.mit_op_laws.proofs.FaultOrder.{fault_same, fault_total, lesser_assoc, lesser_comm}
use Rattle.mit_op_laws.proofs.RowLaws.{RowLaws, bag_from, bag_of_bag, fold_same_bag}

abbrev pub none : BagOrFault
none = Ok []

-- a row itself
abbrev pub itself : RowOf → BagOrFault
itself row = Ok (row ∷ [])

-- an answer with nothing more is the answer in order
pub both_none : (a : BagOrFault) → both a none ≡ settled a
both_none (Ok rows) = ap (λ t. Ok (bag_of t)) (append-nil rows)
both_none (Err fault) = refl

module _ (laws : RowLaws) where
  front_in_order : (xs ys : List RowOf) → bag_of (bag_of xs ++ ys) ≡ bag_of (xs ++ ys)
  front_in_order xs ys = laws.alike (xs ++ ys) (bag_of xs ++ ys) (IsPermutation-append_left ys xs (bag_of xs) (laws.moved xs))

  end_in_order : (xs ys : List RowOf) → bag_of (xs ++ bag_of ys) ≡ bag_of (xs ++ ys)
  end_in_order xs ys = laws.alike (xs ++ ys) (xs ++ bag_of ys) (IsPermutation-append_right xs ys (bag_of ys) (laws.moved ys))

  pub both_comm : (a b : BagOrFault) → both a b ≡ both b a
  both_comm (Ok a) (Ok b) = ap Ok (bag_from laws (a ++ b) (b ++ a) (IsPermutation-append_comm a b))
  both_comm (Ok a) (Err g) = refl
  both_comm (Err f) (Ok b) = refl
  both_comm (Err f) (Err g) = ap Err (lesser_comm fault_cmp (fault_total laws) (fault_same laws) f g)

  pub both_assoc : (a b c : BagOrFault) → both (both a b) c ≡ both a (both b c)
  both_assoc (Ok a) (Ok b) (Ok c) = ap Ok (front_in_order (a ++ b) c ∙ ap bag_of (append_assoc a b c) ∙ sym (end_in_order a (b ++ c)))
  both_assoc (Ok a) (Ok b) (Err h) = refl
  both_assoc (Ok a) (Err g) (Ok c) = refl
  both_assoc (Ok a) (Err g) (Err h) = refl
  both_assoc (Err f) (Ok b) (Ok c) = refl
  both_assoc (Err f) (Ok b) (Err h) = refl
  both_assoc (Err f) (Err g) (Ok c) = refl
  both_assoc (Err f) (Err g) (Err h) = ap Err (lesser_assoc fault_cmp (fault_total laws) (fault_same laws) f g h)

  pub settled_settled : (a : BagOrFault) → settled (settled a) ≡ settled a
  settled_settled (Ok rows) = ap Ok (bag_of_bag laws rows)
  settled_settled (Err fault) = refl

  settled_both : (a b : BagOrFault) → settled (both a b) ≡ both a b
  settled_both (Ok a) (Ok b) = ap Ok (bag_of_bag laws (a ++ b))
  settled_both (Ok a) (Err g) = refl
  settled_both (Err f) (Ok b) = refl
  settled_both (Err f) (Err g) = refl

  -- order within an answer does not count
  both_settled_after : (a b : BagOrFault) → both a (settled b) ≡ both a b
  both_settled_after a b = ap (both a) (sym (both_none b)) ∙ sym (both_assoc a b none) ∙ both_none (both a b) ∙ settled_both a b

  both_settled : (a b : BagOrFault) → both (settled a) b ≡ both a b
  both_settled a b = both_comm (settled a) b ∙ both_settled_after b a ∙ both_comm b a

  pub both_swap : (a b c : BagOrFault) → both a (both b c) ≡ both b (both a c)
  both_swap a b c = sym (both_assoc a b c) ∙ ap (λ t. both t c) (both_comm a b) ∙ both_assoc b a c

  -- ---- over a list
  module _ {X : Type 0} where
    over-settled : (f : X → BagOrFault) (xs : List X) → settled (over f xs) ≡ over f xs
    unfolding over bag_of
    over-settled f [] = refl
    over-settled f (x ∷ xs) = settled_both (f x) (over f xs)

    pub over-append : (f : X → BagOrFault) (xs ys : List X) → over f (xs ++ ys) ≡ both (over f xs) (over f ys)
    unfolding over
    over-append f [] ys = sym (both_comm none (over f ys) ∙ both_none (over f ys) ∙ over-settled f ys)
    over-append f (x ∷ xs) ys = ap (both (f x)) (over-append f xs ys) ∙ sym (both_assoc (f x) (over f xs) (over f ys))

    -- the sum with one more at the end
    pub over_more : (f : X → BagOrFault) (xs : List X) (x : X) → over f (xs ++ x ∷ []) ≡ both (over f xs) (f x)
    unfolding over
    over_more f xs x = over-append f xs (x ∷ []) ∙ ap (both (over f xs)) (both_none (f x)) ∙ both_settled_after (over f xs) (f x)

    -- what is given counts as an answer alone
    pub over_same : (f g : X → BagOrFault) → ((x : X) → settled (f x) ≡ settled (g x)) → (xs : List X) → over f xs ≡ over g xs
    unfolding over
    over_same f g h [] = refl
    over_same f g h (x ∷ xs) =
        sym (both_settled (f x) (over f xs)) ∙ ap (λ t. both t (over f xs)) (h x) ∙ both_settled (g x) (over f xs)
        ∙ ap (both (g x)) (over_same f g h xs)

  pub over-itself : (rows : List RowOf) → over itself rows ≡ Ok (bag_of rows)
  unfolding over bag_of
  over-itself [] = refl
  over-itself (row ∷ rows) = ap (both (itself row)) (over-itself rows) ∙ ap Ok (end_in_order (row ∷ []) rows)

  pub over_same_bag : (f : RowOf → BagOrFault) (xs ys : List RowOf) → bag_of xs ≡ bag_of ys → over f xs ≡ over f ys
  unfolding over
  over_same_bag f = fold_same_bag (λ row. both (f row)) (over f) (λ row rows. refl) (λ row other. both_swap (f row) (f other))

pub over_filter_same : {X : Type 0} (f g : X → BagOrFault) (q : X → Bool) (xs : List X) → ((x : X) → q x ≡ true → f x ≡ g x) → over f (filter q xs) ≡ over g (filter q xs)
unfolding over
over_filter_same f g q [] e = refl
over_filter_same f g q (x ∷ xs) e =
    elim (q x) as (λ b. q x ≡ b → over f (if b then x ∷ filter q xs else filter q xs) ≡ over g (if b then x ∷ filter q xs else filter q xs)) [
      | true ↦ λ h. ap (λ t. both t (over f (filter q xs))) (e x h) ∙ ap (both (g x)) (over_filter_same f g q xs e)
      | false ↦ λ h. over_filter_same f g q xs e
    ] refl
