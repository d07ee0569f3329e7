-- What comes to a partition from all partitions is what comes from the senders of its route.
use Rattle.std.proofs.Common.{◌≡◌, ◌∙◌, ◌<◌, ◌≤◌, ◌+◌, ◌-◌, ℕ, zero, suc, List, [], ◌∷◌, ◌++◌, length, map, get_or, ap, sym, subst, refl, arith, Bool, true, false, cond, eqb, inl, inr}
use Rattle.std.specs.Prelude.{◌⊎◌}
use Rattle.std.specs.List.{range_with_len}
use Rattle.mit_rows.specs.Bags.{BagOf, RowOf, all_rows}
use Rattle.mit_ops.specs.Routes.{routed, senders_of, share}
use Rattle.mit_ops.specs.declared.routes.Route.{Route}
use Rattle.mit_ops.specs.declared.routes.Route.TheVariants.{Forward, Gather, Broadcast, ByKey}

-- the rows of a range of partitions
abbrev rows_from : (ℕ → List RowOf) → ℕ → ℕ → List RowOf
rows_from give from many = all_rows (map give (range_with_len from many))

no_rows : (give : ℕ → List RowOf) (from many : ℕ) → ((k : ℕ) → from ≤ k → k < from + many → give k ≡ []) → rows_from give from many ≡ []
unfolding all_rows
no_rows give from zero none = refl
no_rows give from (suc many) none =
    let here = none from (omega arith) (omega arith) in
    let rest = no_rows give (from + 1) many (λ k above below. none k (omega (arith, above)) (omega (arith, below))) in
    cc

-- none come from before the first
skip_front : (give : ℕ → List RowOf) (from few many : ℕ) → ((k : ℕ) → from ≤ k → k < from + few → give k ≡ []) → rows_from give from (few + many) ≡ rows_from give (from + few) many
unfolding all_rows
skip_front give from zero many none =
    let e : 0 + many ≡ many = omega arith in
    let g : from ≡ from + 0 = omega arith in
    ap (λ (n : ℕ). rows_from give from n) e ∙ ap (λ (a : ℕ). rows_from give a many) g
skip_front give from (suc few) many none =
    let e : suc few + many ≡ suc (few + many) = omega arith in
    let g : from + 1 + few ≡ from + suc few = omega arith in
    ap (λ (n : ℕ). rows_from give from n) e
    ∙ ap (λ (rows : List RowOf). rows ++ rows_from give (from + 1) (few + many)) (none from (omega arith) (omega arith))
    ∙ skip_front give (from + 1) few many (λ k above below. none k (omega (arith, above)) (omega (arith, below)))
    ∙ ap (λ (a : ℕ). rows_from give a many) g

-- and none from behind the last
skip_back : (give : ℕ → List RowOf) (from many more : ℕ) → ((k : ℕ) → from + many ≤ k → k < from + many + more → give k ≡ []) → rows_from give from (many + more) ≡ rows_from give from many
unfolding all_rows
skip_back give from zero more none =
    let e : 0 + more ≡ more = omega arith in
    ap (λ (n : ℕ). rows_from give from n) e ∙ no_rows give from more (λ k above below. none k (omega (arith, above)) (omega (arith, below)))
skip_back give from (suc many) more none =
    let e : suc many + more ≡ suc (many + more) = omega arith in
    ap (λ (n : ℕ). rows_from give from n) e
    ∙ ap (λ (rows : List RowOf). give from ++ rows) (skip_back give (from + 1) many more (λ k above below. none k (omega (arith, above)) (omega (arith, below))))

within_all : (give : ℕ → List RowOf) (parts first many : ℕ) → first + many ≤ parts → ((k : ℕ) → k < parts → (k < first) ⊎ (first + many ≤ k) → give k ≡ []) → rows_from give 0 parts ≡ rows_from give first many
within_all give parts first many within none =
    let e : parts ≡ first + (many + (parts - (first + many))) = omega (arith, within) in
    let g : 0 + first ≡ first = omega arith in
    ap (λ (n : ℕ). rows_from give 0 n) e
    ∙ skip_front give 0 first (many + (parts - (first + many))) (λ k above below. none k (omega (arith, below, within)) (inl (omega (arith, below))))
    ∙ ap (λ (a : ℕ). rows_from give a (many + (parts - (first + many)))) g
    ∙ skip_back give first many (parts - (first + many)) (λ k above below. none k (omega (arith, below, within)) (inr above))

-- the senders of a route are partitions
pub senders_within : (route : Route) (to parts : ℕ) → to < parts → (senders_of route to parts).0 + (senders_of route to parts).1 ≤ parts
senders_within Forward to parts below = omega (arith, below)
senders_within Gather to parts below = by_test (eqb to 0)
  where
    by_test : (first : Bool) → 0 + cond first parts 0 ≤ parts
    by_test true = omega arith
    by_test false = omega arith
senders_within Broadcast to parts below = omega arith
senders_within (ByKey columns) to parts below = omega arith

-- what comes of a list of parts, partition by partition
routed_is : (give : ℕ → List RowOf) (route : Route) (parts from to : ℕ) (cut : List (List RowOf)) → ((k : ℕ) → k < length cut → give (from + k) ≡ share (get_or cut k []) route parts (from + k) to)
    → routed route parts from to cut ≡ rows_from give from (length cut)
unfolding routed all_rows
routed_is give route parts from to [] each = refl
routed_is give route parts from to (rows ∷ cut) each =
    let g : from + 0 ≡ from = omega arith in
    let e : suc from ≡ from + 1 = omega arith in
    let here : share rows route parts from to ≡ give from = subst (λ (a : ℕ). share rows route parts a to ≡ give a) g (sym (each 0 (omega arith))) in
    ap (λ (first : List RowOf). first ++ routed route parts (suc from) to cut) here
    ∙ ap (λ (a : ℕ). give from ++ routed route parts a to cut) e
    ∙ ap (λ (rest : List RowOf). give from ++ rest) (routed_is give route parts (from + 1) to cut (λ k below. moved k (each (suc k) (omega (arith, below)))))
  where
    moved : (k : ℕ) → give (from + suc k) ≡ share (get_or cut k []) route parts (from + suc k) to → give (from + 1 + k) ≡ share (get_or cut k []) route parts (from + 1 + k) to
    moved k is = let e : from + suc k ≡ from + 1 + k = omega arith in subst (λ (a : ℕ). give a ≡ share (get_or cut k []) route parts a to) e is

-- what the senders of its route give is all that comes to a partition
pub from_senders : ((route : Route) (parts from to : ℕ) (rows : List RowOf) → from < parts → (from < (senders_of route to parts).0) ⊎ ((senders_of route to parts).0 + (senders_of route to parts).1 ≤ from) → share rows route parts from to ≡ [])
    → (route : Route) (parts to : ℕ) (cut : List BagOf) → to < parts → length cut ≡ parts
    → all_rows (map (λ from. share (get_or cut from []) route parts from to) (range_with_len (senders_of route to parts).0 (senders_of route to parts).1)) ≡ routed route parts 0 to cut
from_senders none route parts to cut below size =
    let give : ℕ → List RowOf = λ from. share (get_or cut from []) route parts from to in
    let senders = senders_of route to parts in
    sym (within_all give parts senders.0 senders.1 (senders_within route to parts below) (λ k less outside. none route parts k to (get_or cut k []) less outside))
    ∙ ap (λ (n : ℕ). rows_from give 0 n) (sym size)
    ∙ sym (routed_is give route parts 0 to cut (λ k less. zero_first k))
  where
    zero_first : (k : ℕ) → share (get_or cut (0 + k) []) route parts (0 + k) to ≡ share (get_or cut k []) route parts (0 + k) to
    zero_first k = let e : 0 + k ≡ k = omega arith in ap (λ (n : ℕ). share (get_or cut n []) route parts (0 + k) to) e
