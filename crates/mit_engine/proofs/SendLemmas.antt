-- A bag that is sent along edges: copies before the last of them, and at this one the bag itself.
use Rattle.std.proofs.Common.{◌≡◌, ◌∙◌, ◌<◌, ◌+◌, ℕ, List, [], ◌∷◌, ◌++◌, length, drop, get_or, map, take, ap, eq-eqb, subst, sym, refl}
use Rattle.std.specs.Prelude.{Bool, true, false, ◌==◌, ◌||◌, slice_set}
use Rattle.std.specs.List.{list_any}
use Rattle.std.proofs.Math.Seq.{take-append_seam}
use Rattle.std.proofs.lemmas.List.{drop_more, get_or_default, map-append, take-append-drop}
use Rattle.std.proofs.lemmas.List.Edits.{map_over_more}
use Rattle.mit_rows.specs.Bags.{BagOf}
use Rattle.mit_engine.specs.Operators.{sends}
use Rattle.mit_engine.specs.declared.edges.Edge.{Edge}
use Rattle.mit_engine.proofs.OperatorLemmas.{untouched}

-- what a slice of all items writes back
pub written_back : {X : Type 0} (xs ys : List X) (n : ℕ) → n ≡ length xs → take n (xs ++ ys) ≡ xs
written_back xs ys n all = ap (λ m. take m (xs ++ ys)) all ∙ take-append_seam xs ys

-- an item that f leaves as it is joins those after it, which f leaves too
pub left_more : {X : Type 0} (f : X → X) (xs : List X) (at next : ℕ) (x : X) → next ≡ at + 1 → at < length xs → x ≡ get_or xs at x → f x ≡ x
    → map f (drop next xs) ≡ drop next xs → map f (drop at xs) ≡ drop at xs
left_more f xs at next x follows within is same left =
    let here : drop at xs ≡ x ∷ drop (at + 1) xs = drop_more xs at x within ∙ ap (λ y. y ∷ drop (at + 1) xs) (sym is) in
    ap (map f) here ∙ ap (λ y. y ∷ map f (drop (at + 1) xs)) same
    ∙ ap (λ rest. x ∷ rest) (subst (λ n. map f (drop n xs) ≡ drop n xs) follows left) ∙ sym here

-- the last item that f changes, where those before it are changed, and f leaves those after it
pub last_changed : {X : Type 0} (f : X → X) (xs ys : List X) (at next : ℕ) (x y : X) → next ≡ at + 1 → at < length xs
    → ys ≡ map f (take at xs) ++ drop at xs → x ≡ get_or ys at x → y ≡ f x → map f (drop next xs) ≡ drop next xs → slice_set ys at y ≡ map f xs
last_changed f xs ys at next x y follows within before is changed left =
    ap (slice_set ys at) changed ∙ map_over_more f xs ys at x within before is
    ∙ ap (λ rest. map f (take (at + 1) xs) ++ rest) (sym (subst (λ n. map f (drop n xs) ≡ drop n xs) follows left))
    ∙ sym (map-append f (take (at + 1) xs) (drop (at + 1) xs)) ∙ ap (map f) (take-append-drop (at + 1) xs)

-- an edge that leads from the operator takes the bag
takes_bag : (from : ℕ) (bag : BagOf) (edge : Edge) (parts : List BagOf) → edge.from ≡ from → parts ≡ edge.parts ++ bag ∷ []
    → record edge { parts = parts } ≡ sends from bag edge
takes_bag from bag edge parts leads put = rw (eq-eqb edge.from from leads) (ap (λ (p : List BagOf). record edge { parts = p }) put)

pub last_takes : (from : ℕ) (bag : BagOf) (xs ys : List Edge) (at : ℕ) (edge seen : Edge) (parts : List BagOf) → at < length xs
    → ys ≡ map (sends from bag) (take at xs) ++ drop at xs → edge ≡ get_or ys at edge → seen ≡ get_or xs at seen → seen.from ≡ from
    → parts ≡ edge.parts ++ bag ∷ [] → record edge { parts = parts } ≡ sends from bag edge
last_takes from bag xs ys at edge seen parts within before is this leads put =
    let same : edge ≡ seen = untouched (sends from bag) xs ys at edge within before is ∙ get_or_default xs at edge seen within ∙ sym this in
    takes_bag from bag edge parts (ap (λ (e : Edge). e.from) same ∙ leads) put

-- edges none of which leads from the operator stay as they are
pub edges_stay : (from : ℕ) (bag : BagOf) (edges : List Edge) → list_any (λ (edge : Edge). edge.from == from) edges ≡ false → map (sends from bag) edges ≡ edges
edges_stay from bag [] none = refl
edges_stay from bag (edge ∷ edges) none = by_test (edge.from == from) refl none (edges_stay from bag edges)
  where
    by_test : (leads : Bool) → (edge.from == from) ≡ leads → (leads || list_any (λ (e : Edge). e.from == from) edges) ≡ false
        → (list_any (λ (e : Edge). e.from == from) edges ≡ false → map (sends from bag) edges ≡ edges) → map (sends from bag) (edge ∷ edges) ≡ edge ∷ edges
    by_test true is none later = cc
    by_test false is none later = rw is (ap (λ rest. edge ∷ rest) (later none))
