-- The rows of bags in any order fit an operator as the bags do, and it gives the same over them.
use Rattle.std.proofs.Common.{◌≡◌, ◌∙◌, ◌<◌, ◌≤◌, List, [], ◌∷◌, ◌++◌, All, Contains, Result, ap, append-nil, arith, get_or, length, map, refl, subst, sym}
use Rattle.std.specs.FinMap as fin
use Rattle.std.specs.List.{AllZip}
use Rattle.std.specs.List.Sorted.{IsPermutation}
use Rattle.std.proofs.lemmas.List.Elements.{All-contains_itself}
use Rattle.std.proofs.lemmas.List.Sorted.{All-permutation, IsPermutation-sym, length_permutation}
use Rattle.mit_rows.specs.Bags.{BagOf, IsBag, RowOf, all_rows, bag_of, insert_row}
use Rattle.mit_rows.specs.declared.value.Value.{Value}
use Rattle.mit_files.specs.Files.{FileMap}
use Rattle.mit_ops.specs.Operators.{whole}
use Rattle.mit_ops.specs.Parts.{Fits, SameBags}
use Rattle.mit_ops.specs.declared.kinds.OpSpec.{OpSpec}
use Rattle.mit_step.specs.Stepping.{GivesWhole, with_captures}
use Rattle.mit_step.specs.declared.whole.WholeStop.{WholeStop}
use Rattle.mit_step.proofs.Wholes.{gives_same}

-- ---- what the laws tell
abbrev pub Moves : Type 0
Moves = (rows : List RowOf) → IsPermutation rows (bag_of rows)

abbrev pub Sorted : Type 0
Sorted = (rows : List RowOf) → IsBag (bag_of rows)

abbrev pub Fewer : Type 0
Fewer = (spec : OpSpec) (inputs others : List (List RowOf)) → Fits spec inputs → AllZip (λ fewer all. All (Contains all) fewer) others inputs → Fits spec others

abbrev pub Order : Type 0
Order = (spec : OpSpec) (inputs others : List (List RowOf)) (files : FileMap) → SameBags inputs others → whole spec inputs files ≡ whole spec others files

-- ---- one bag
-- a bag has as many rows
pub as_many : Moves → (rows : List RowOf) → length (bag_of rows) ≡ length rows
as_many moves rows = length_permutation rows (bag_of rows) (moves rows)

pub one_row : (rows : List RowOf) (row : RowOf) → rows ≡ row ∷ [] → bag_of rows ≡ row ∷ []
unfolding bag_of insert_row
one_row rows row is = ap bag_of is

-- the one row of a bag
pub only_row : (rows : List RowOf) (row : RowOf) (bag : BagOf) → length rows ≡ 1 → row ≡ get_or rows 0 row → bag_of rows ≡ bag → bag ≡ row ∷ []
only_row [] row bag one at is = cc
only_row (first ∷ []) row bag one at is = sym is ∙ (one_row (first ∷ []) first refl ∙ ap (λ (r : RowOf). r ∷ []) (sym at))
only_row (first ∷ other ∷ rows) row bag one at is = absurd (omega (arith, one))

contained : Moves → (rows : List RowOf) → All (Contains (bag_of rows)) rows
contained moves rows =
    All-permutation (Contains (bag_of rows)) (bag_of rows) rows (IsPermutation-sym rows (bag_of rows) (moves rows)) (All-contains_itself (bag_of rows))

-- ---- the inputs of an operator
abbrev Among : List RowOf → List RowOf → Type 0
Among fewer all = All (Contains all) fewer

themselves : (lists : List (List RowOf)) → AllZip Among lists lists
themselves [] = tt
themselves (rows ∷ lists) = (All-contains_itself rows, themselves lists)

all_contained : Moves → (lists : List (List RowOf)) (captures : List Value) → AllZip Among (with_captures lists captures) (with_captures (map bag_of lists) captures)
all_contained moves [] captures = themselves (with_captures [] captures)
all_contained moves (rows ∷ lists) captures = (contained moves rows, all_contained moves lists captures)

same_bags : Sorted → (lists : List (List RowOf)) (captures : List Value) → SameBags (with_captures lists captures) (with_captures (map bag_of lists) captures)
same_bags sorted [] captures = refl
same_bags sorted (rows ∷ lists) captures = λ i. sorted rows i ∷ same_bags sorted lists captures i

pub fits_loose : Moves → Fewer → (spec : OpSpec) (lists : List (List RowOf)) (bags : List BagOf) (captures : List Value) → map bag_of lists ≡ bags
    → Fits spec (with_captures bags captures) → Fits spec (with_captures lists captures)
fits_loose moves fewer spec lists bags captures are fits =
    fewer spec (with_captures (map bag_of lists) captures) (with_captures lists captures)
    (subst (λ (found : List BagOf). Fits spec (with_captures found captures)) (sym are) fits) (all_contained moves lists captures)

pub gives_loose : Sorted → Order → (spec : OpSpec) (lists : List (List RowOf)) (bags : List BagOf) (captures : List Value) (result : Result BagOf WholeStop) → map bag_of lists ≡ bags
    → GivesWhole (whole spec (with_captures lists captures) fin.empty) result → GivesWhole (whole spec (with_captures bags captures) fin.empty) result
gives_loose sorted order spec lists bags captures result are gives =
    gives_same (whole spec (with_captures bags captures) fin.empty) (whole spec (with_captures lists captures) fin.empty) result
    (ap (λ (found : List BagOf). whole spec (with_captures found captures) fin.empty) (sym are)
    ∙ sym (order spec (with_captures lists captures) (with_captures (map bag_of lists) captures) fin.empty (same_bags sorted lists captures))) gives

-- the rows of two bags
pub two_bags : (left right : List RowOf) → all_rows (left ∷ right ∷ []) ≡ left ++ right
unfolding all_rows
two_bags left right = ap (λ (more : List RowOf). left ++ more) (append-nil right)

-- ---- lists of bags by their length
pub map_none : {A B : Type 0} (f : A → B) (xs : List A) → length xs < 1 → map f xs ≡ []
map_none f [] short = refl
map_none f (x ∷ xs) short = absurd (omega (arith, short))

pub map_one : {A B : Type 0} (f : A → B) (xs : List A) (x : A) (y : B) → 1 ≤ length xs → length xs < 2 → x ≡ get_or xs 0 x → y ≡ f x → map f xs ≡ y ∷ []
map_one f [] x y long short at is = absurd (omega (arith, long))
map_one f (z ∷ []) x y long short at is = λ i. sym (is ∙ ap f at) i ∷ []
map_one f (z ∷ z' ∷ xs) x y long short at is = absurd (omega (arith, short))

pub map_two : {A B : Type 0} (f : A → B) (xs : List A) (x x' : A) (y y' : B) → 2 ≤ length xs → length xs < 3 → x ≡ get_or xs 0 x → x' ≡ get_or xs 1 x' → y ≡ f x → y' ≡ f x'
    → map f xs ≡ y ∷ y' ∷ []
map_two f [] x x' y y' long short at at' is is' = absurd (omega (arith, long))
map_two f (z ∷ []) x x' y y' long short at at' is is' = absurd (omega (arith, long))
map_two f (z ∷ z' ∷ []) x x' y y' long short at at' is is' = λ i. sym (is ∙ ap f at) i ∷ sym (is' ∙ ap f at') i ∷ []
map_two f (z ∷ z' ∷ z'' ∷ xs) x x' y y' long short at at' is is' = absurd (omega (arith, short))
