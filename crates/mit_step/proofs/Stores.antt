-- The bags of variables at the start.
use Rattle.std.proofs.Common.{◌≡◌, ◌∙◌, ◌+◌, ℕ, List, [], ◌∷◌, ◌++◌, ap, get_or, map, replicate, refl, zero, suc}
use Rattle.std.proofs.lemmas.List.{map-append, replicate-append-replicate}
use Rattle.mit_rows.specs.Bags.{BagOf}

-- one more empty bag
pub one_more : {A : Type 0} (bag_of : A → BagOf) (bags bags' : List A) (more : A) (count : ℕ) → map bag_of bags ≡ replicate count [] → bags' ≡ bags ++ more ∷ [] → bag_of more ≡ []
    → map bag_of bags' ≡ replicate (count + 1) []
one_more bag_of bags bags' more count so_far is empty =
    ap (map bag_of) is ∙ (map-append bag_of bags (more ∷ []) ∙ (rw (so_far, empty) (replicate-append-replicate count 1 [])))

-- every bag is empty
pub all_empty : (count variable : ℕ) → get_or (replicate {A = BagOf} count []) variable [] ≡ []
all_empty zero variable = refl
all_empty (suc count) zero = refl
all_empty (suc count) (suc variable) = all_empty count variable
