-- What a form answers depends on the bags alone, and not on the order of their rows.
use Rattle.std.proofs.Common.{◌≡◌, List, [], ◌∷◌, map, refl, ap, sym, ◌∙◌, Ok, if◌then◌else◌, ℕ, zero, suc, eqb}
use Rattle.mit_rows.specs.Bags.{RowOf, all_rows, bag_of}
use Rattle.mit_ops.specs.Answers.{BagOrFault, at_row, both, over, settled}
use Rattle.mit_ops.specs.Forms.{Form, dealt, each_key, each_match, each_row, once, once_each, part_answer, rows_at, same_row, whole_answer, with_key}
use Rattle.mit_ops.specs.Parts.{SameBags}
use Rattle.mit_op_laws.proofs.AnswerSums.{over-append, over_same, over_same_bag}
use Rattle.mit_op_laws.proofs.BagCounts.{filter_same_bag, keys_same_bag}
use Rattle.mit_op_laws.proofs.RowLaws.{RowLaws, head_same}

tail_same : {X : Type 0} (x y : X) (xs ys : List X) → x ∷ xs ≡ y ∷ ys → xs ≡ ys
tail_same x y xs ys e = cc

-- the first list and the others of lists that are the same bags
pub first_same : (x y : List RowOf) (xs ys : List (List RowOf)) → SameBags (x ∷ xs) (y ∷ ys) → bag_of x ≡ bag_of y
first_same x y xs ys e = head_same (bag_of x) (bag_of y) (map bag_of xs) (map bag_of ys) e

pub later_same : (x y : List RowOf) (xs ys : List (List RowOf)) → SameBags (x ∷ xs) (y ∷ ys) → SameBags xs ys
later_same x y xs ys e = tail_same (bag_of x) (bag_of y) (map bag_of xs) (map bag_of ys) e

pub rows_same : (number : ℕ) (xs ys : List (List RowOf)) → SameBags xs ys → bag_of (rows_at xs number) ≡ bag_of (rows_at ys number)
rows_same number [] [] e = refl
rows_same number [] (y ∷ ys) e = cc
rows_same number (x ∷ xs) [] e = cc
rows_same zero (x ∷ xs) (y ∷ ys) e = first_same x y xs ys e
rows_same (suc number) (x ∷ xs) (y ∷ ys) e = rows_same number xs ys (later_same x y xs ys e)

-- what a form makes of several rows does not depend on their order
abbrev pub Unordered : Form → Type 0
Unordered (each_row give) = Unit {0}
Unordered (each_key key give) = (k : RowOf) (xs ys : List RowOf) → bag_of xs ≡ bag_of ys → settled (at_row k (give k xs)) ≡ settled (at_row k (give k ys))
Unordered (each_match left right give) = (row : RowOf) (xs ys : List RowOf) → bag_of xs ≡ bag_of ys → settled (at_row row (give row xs)) ≡ settled (at_row row (give row ys))
Unordered (once give) = (xs ys : List (List RowOf)) → SameBags xs ys → settled (at_row [] (give xs)) ≡ settled (at_row [] (give ys))
Unordered (dealt found) = Unit {0}

module _ (laws : RowLaws) where
  over_all_same : (f : RowOf → BagOrFault) (xs ys : List (List RowOf)) → SameBags xs ys → over f (all_rows xs) ≡ over f (all_rows ys)
  unfolding all_rows
  over_all_same f [] [] e = refl
  over_all_same f [] (y ∷ ys) e = cc
  over_all_same f (x ∷ xs) [] e = cc
  over_all_same f (x ∷ xs) (y ∷ ys) e =
      over-append laws f x (all_rows xs)
      ∙ (λ i. both (over_same_bag laws f x y (first_same x y xs ys e) i) (over_all_same f xs ys (later_same x y xs ys e) i))
      ∙ sym (over-append laws f y (all_rows ys))

  -- the rows of a key among the first bag's
  matches_same : (key : RowOf → RowOf) (wanted : RowOf) (xs ys : List (List RowOf)) → SameBags xs ys → bag_of (with_key key wanted (rows_at xs 0)) ≡ bag_of (with_key key wanted (rows_at ys 0))
  matches_same key wanted xs ys e = filter_same_bag laws (λ row. same_row wanted (key row)) (rows_at xs 0) (rows_at ys 0) (rows_same 0 xs ys e)

  pub whole_order : (form : Form) → Unordered form → (xs ys : List (List RowOf)) → SameBags xs ys → whole_answer form xs ≡ whole_answer form ys
  whole_order (each_row give) u xs ys e = over_all_same (λ row. at_row row (give row)) xs ys e
  whole_order (each_key key give) u xs ys e =
      over_same laws (λ k. at_row k (give k (with_key key k (rows_at xs 0)))) (λ k. at_row k (give k (with_key key k (rows_at ys 0)))) (λ k. u k _ _ (matches_same key k xs ys e))
      (once_each (map key (rows_at xs 0)))
      ∙ over_same_bag laws (λ k. at_row k (give k (with_key key k (rows_at ys 0)))) (once_each (map key (rows_at xs 0))) (once_each (map key (rows_at ys 0)))
      (keys_same_bag laws key (rows_at xs 0) (rows_at ys 0) (rows_same 0 xs ys e))
  whole_order (each_match left right give) u xs ys e =
      over_same laws (λ row. at_row row (give row (with_key left (right row) (rows_at xs 0)))) (λ row. at_row row (give row (with_key left (right row) (rows_at ys 0)))) (λ row. u row _ _ (matches_same left (right row) xs ys e))
      (rows_at xs 1)
      ∙ over_same_bag laws (λ row. at_row row (give row (with_key left (right row) (rows_at ys 0)))) (rows_at xs 1) (rows_at ys 1) (rows_same 1 xs ys e)
  whole_order (once give) u xs ys e = u xs ys e
  whole_order (dealt found) u xs ys e = refl

  pub part_order : (form : Form) → Unordered form → (part parts : ℕ) (xs ys : List (List RowOf)) → SameBags xs ys → part_answer form parts part xs ≡ part_answer form parts part ys
  part_order (each_row give) u part parts xs ys e = whole_order (each_row give) u xs ys e
  part_order (each_key key give) u part parts xs ys e = whole_order (each_key key give) u xs ys e
  part_order (each_match left right give) u part parts xs ys e = whole_order (each_match left right give) u xs ys e
  part_order (once give) u part parts xs ys e = ap (λ answer. if eqb part 0 then answer else Ok []) (u xs ys e)
  part_order (dealt found) u part parts xs ys e = refl
