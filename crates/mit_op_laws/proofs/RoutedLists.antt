-- The lists that come to a partition.
--     lists_same      they depend on the routes of these inputs alone
--     take-lists, drop-lists      those of the first inputs, and those of the others
--     lists_all      where every row comes to a partition
use Rattle.std.proofs.Common.{◌≡◌, ℕ, zero, suc, ◌+◌, ◌<◌, ◌≤◌, Bool, true, List, [], ◌∷◌, ◌++◌, map, length, take, drop, refl, ap, arith}
use Rattle.std.specs.List.{filter}
use Rattle.mit_rows.specs.Bags.{RowOf, all_rows}
use Rattle.mit_ops.specs.Routes.{goes, lists_at, routed}
use Rattle.mit_ops.specs.declared.routes.Route.{Route}

pub filter_all : {X : Type 0} (q : X → Bool) (xs : List X) → ((x : X) → q x ≡ true) → filter q xs ≡ xs
filter_all q [] h = refl
filter_all q (x ∷ xs) h = let here : q x ≡ true = h x in rw here (ap (λ t. x ∷ t) (filter_all q xs h))

pub lists_same : (routes others : ℕ → Route) (parts to from : ℕ) (cuts : List (List (List RowOf))) → ((input : ℕ) → from ≤ input → input < from + length cuts → routes input ≡ others input)
    → lists_at routes parts to from cuts ≡ lists_at others parts to from cuts
unfolding lists_at
lists_same routes others parts to from [] e = refl
lists_same routes others parts to from (cut ∷ later) e =
    λ i. routed (e from (omega arith) (omega arith) i) parts 0 to cut ∷ lists_same routes others parts to (suc from) later (λ input l h. e input (omega arith) (omega arith)) i

pub take-lists : (routes : ℕ → Route) (parts to from n : ℕ) (cuts : List (List (List RowOf))) → take n (lists_at routes parts to from cuts) ≡ lists_at routes parts to from (take n cuts)
unfolding lists_at
take-lists routes parts to from zero cuts = refl
take-lists routes parts to from (suc n) [] = refl
take-lists routes parts to from (suc n) (cut ∷ later) = ap (λ t. routed (routes from) parts 0 to cut ∷ t) (take-lists routes parts to (suc from) n later)

pub drop-lists : (routes : ℕ → Route) (parts to from n : ℕ) (cuts : List (List (List RowOf))) → drop n (lists_at routes parts to from cuts) ≡ lists_at routes parts to (from + n) (drop n cuts)
unfolding lists_at
drop-lists routes parts to from zero cuts = let same : from + 0 ≡ from = omega arith in rw same refl
drop-lists routes parts to from (suc n) [] = refl
drop-lists routes parts to from (suc n) (cut ∷ later) = let same : from + suc n ≡ suc from + n = omega arith in rw same (drop-lists routes parts to (suc from) n later)

routed_all : (route : Route) (parts from to : ℕ) (cut : List (List RowOf)) → ((from : ℕ) (row : RowOf) → goes route parts from to row ≡ true) → routed route parts from to cut ≡ all_rows cut
unfolding routed all_rows
routed_all route parts from to [] e = refl
routed_all route parts from to (rows ∷ later) e = λ i. filter_all (goes route parts from to) rows (e from) i ++ routed_all route parts (suc from) to later e i

pub lists_all : (routes : ℕ → Route) (parts to input : ℕ) (cuts : List (List (List RowOf))) → ((input from : ℕ) (row : RowOf) → goes (routes input) parts from to row ≡ true)
    → lists_at routes parts to input cuts ≡ map all_rows cuts
unfolding lists_at
lists_all routes parts to input [] e = refl
lists_all routes parts to input (cut ∷ later) e = λ i. routed_all (routes input) parts 0 to cut (e input) i ∷ lists_all routes parts to (suc input) later e i
