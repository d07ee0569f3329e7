-- What holds of each row that a part of an answer gives holds of each row of the answer.
use Rattle.std.proofs.Common.{ℕ, ◌+◌, ◌%◌, ◌==◌, true, false, List, [], ◌∷◌, ◌++◌, map, Result, Ok, Err, IfOk, if◌then◌else◌}
use Rattle.std.proofs.lemmas.List.Elements.{All-append, All-cons, All-head, All-nil, All-push, All-tail}
use Rattle.std.proofs.lemmas.List.Sorted.{All-permutation}
use Rattle.std.specs.List.{All, fold, list_any}
use Rattle.std.specs.List.Sorted.{IsPermutation}
use Rattle.mit_rows.specs.Bags.{RowOf, all_rows, bag_of}
use Rattle.mit_files.specs.Rows.{part_from, part_of}
use Rattle.mit_ops.specs.Answers.{BagOrFault, RowsOrKind, at_row, both, over, settled}
use Rattle.mit_ops.specs.Forms.{Form, add_key, deal, dealt, each_key, each_match, each_row, once, once_each, part_answer, rows_at, same_row, whole_answer, with_key}

-- the law of `mit_rows` by which a bag has the rows of its list
abbrev pub Moves : Type 0
Moves = (rows : List RowOf) → IsPermutation rows (bag_of rows)

-- each row that is given is so
abbrev pub Gives : {E : Type 0} → (RowOf → Type 0) → Result (List RowOf) E → Type 0
Gives P answer = IfOk answer (All P)

pub All-bag_of : Moves → (P : RowOf → Type 0) (rows : List RowOf) → All P rows → All P (bag_of rows)
All-bag_of moves P rows all = All-permutation P rows (bag_of rows) (moves rows) all

both_gives : Moves → (P : RowOf → Type 0) (a b : BagOrFault) → Gives P a → Gives P b → Gives P (both a b)
both_gives moves P (Ok a) (Ok b) given more = All-bag_of moves P (a ++ b) (All-append P a b given more)
both_gives moves P (Ok a) (Err fault) given more = tt
both_gives moves P (Err fault) (Ok b) given more = tt
both_gives moves P (Err a) (Err b) given more = tt

over_gives : Moves → (P : RowOf → Type 0) {X : Type 0} (answer : X → BagOrFault) (xs : List X) → All (λ x. Gives P (answer x)) xs → Gives P (over answer xs)
unfolding over
over_gives moves P answer [] all = All-nil P
over_gives moves P answer (x ∷ xs) all =
    both_gives moves P (answer x) (over answer xs) (All-head (λ x. Gives P (answer x)) x xs all) (over_gives moves P answer xs (All-tail (λ x. Gives P (answer x)) x xs all))

settled_gives : Moves → (P : RowOf → Type 0) (answer : BagOrFault) → Gives P answer → Gives P (settled answer)
settled_gives moves P (Ok rows) all = All-bag_of moves P rows all
settled_gives moves P (Err fault) all = tt

at_row_gives : (P : RowOf → Type 0) (at : RowOf) (found : RowsOrKind) → Gives P found → Gives P (at_row at found)
at_row_gives P at (Ok rows) all = all
at_row_gives P at (Err kind) all = tt

-- ---- the rows of a part, and keys

part_from_keeps : (P : RowOf → Type 0) (part parts number : ℕ) (rows : List RowOf) → All P rows → All P (part_from part parts number rows)
unfolding part_from
part_from_keeps P part parts number [] all = All-nil P
part_from_keeps P part parts number (row ∷ rows) all =
    let later = part_from_keeps P part parts (number + 1) rows (All-tail P row rows all) in
    elim (number % parts == part) as (λ b. All P (if b then row ∷ part_from part parts (number + 1) rows else part_from part parts (number + 1) rows)) [
      | true ↦ All-cons P row (part_from part parts (number + 1) rows) (All-head P row rows all) later
      | false ↦ later
    ]

deal_gives : Moves → (P : RowOf → Type 0) (parts part : ℕ) (found : BagOrFault) → Gives P found → Gives P (deal parts part found)
deal_gives moves P parts part (Ok rows) all = All-bag_of moves P (part_of part parts rows) (part_from_keeps P part parts 0 rows all)
deal_gives moves P parts part (Err fault) all = tt

add_key_keeps : (P : RowOf → Type 0) (seen : List RowOf) (key : RowOf) → All P seen → P key → All P (add_key seen key)
add_key_keeps P seen key all is = elim (list_any (same_row key) seen) as (λ b. All P (if b then seen else seen ++ key ∷ [])) [ true ↦ all | false ↦ All-push P seen key all is ]

add_keys_keep : (P : RowOf → Type 0) (seen keys : List RowOf) → All P seen → All P keys → All P (fold add_key seen keys)
add_keys_keep P seen [] all more = all
add_keys_keep P seen (key ∷ keys) all more =
    add_keys_keep P (add_key seen key) keys (add_key_keeps P seen key all (All-head P key keys more)) (All-tail P key keys more)

pub once_each_keeps : (P : RowOf → Type 0) (keys : List RowOf) → All P keys → All P (once_each keys)
once_each_keeps P keys all = add_keys_keep P [] keys (All-nil P) all

-- ---- forms

-- each row that a form gives over these lists is so
abbrev pub FormGives : (RowOf → Type 0) → Form → List (List RowOf) → Type 0
FormGives P (each_row give) bags = All (λ row. Gives P (give row)) (all_rows bags)
FormGives P (each_key key give) bags = All (λ k. Gives P (give k (with_key key k (rows_at bags 0)))) (once_each (map key (rows_at bags 0)))
FormGives P (each_match left right give) bags = All (λ row. Gives P (give row (with_key left (right row) (rows_at bags 0)))) (rows_at bags 1)
FormGives P (once give) bags = Gives P (give bags)
FormGives P (dealt found) bags = Gives P found

-- answers at each row, and then in all
at_rows_give : Moves → (P : RowOf → Type 0) (give : RowOf → RowsOrKind) (rows : List RowOf) → All (λ row. Gives P (give row)) rows → Gives P (over (λ row. at_row row (give row)) rows)
at_rows_give moves P give rows all = over_gives moves P (λ row. at_row row (give row)) rows (λ k d h. at_row_gives P _ _ (all k d h))

pub whole_gives : Moves → (P : RowOf → Type 0) (form : Form) (bags : List (List RowOf)) → FormGives P form bags → Gives P (whole_answer form bags)
whole_gives moves P (each_row give) bags all = at_rows_give moves P give (all_rows bags) all
whole_gives moves P (each_key key give) bags all = at_rows_give moves P (λ k. give k (with_key key k (rows_at bags 0))) (once_each (map key (rows_at bags 0))) all
whole_gives moves P (each_match left right give) bags all = at_rows_give moves P (λ row. give row (with_key left (right row) (rows_at bags 0))) (rows_at bags 1) all
whole_gives moves P (once give) bags all = settled_gives moves P (at_row [] (give bags)) (at_row_gives P [] (give bags) all)
whole_gives moves P (dealt found) bags all = settled_gives moves P found all

pub part_gives : Moves → (P : RowOf → Type 0) (form : Form) (parts part : ℕ) (bags : List (List RowOf)) → FormGives P form bags → Gives P (part_answer form parts part bags)
part_gives moves P (each_row give) parts part bags all = whole_gives moves P (each_row give) bags all
part_gives moves P (each_key key give) parts part bags all = whole_gives moves P (each_key key give) bags all
part_gives moves P (each_match left right give) parts part bags all = whole_gives moves P (each_match left right give) bags all
part_gives moves P (once give) parts part bags all =
    elim (part == 0) as (λ b. Gives P (if b then whole_answer (once give) bags else Ok [])) [ true ↦ whole_gives moves P (once give) bags all | false ↦ All-nil P ]
part_gives moves P (dealt found) parts part bags all = deal_gives moves P parts part found all
