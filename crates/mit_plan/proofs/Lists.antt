-- The lists of a plan's operators, with one edge more.
use Rattle.std.proofs.Common.{◌≡◌, ◌≢◌, ◌==◌, ℕ, ◌<◌, ◌≤◌, List, [], ◌∷◌, ◌++◌, length, take, replicate, slice_get, Some, subst, get_or, set, ap, ◌∙◌, sym, ⊎_elim, arith, append-nil, zero-add, ◌+◌}
use Rattle.std.proofs.Math.ListN.{length-set}
use Rattle.std.specs.List.{All}
use Rattle.std.proofs.lemmas.List.{take_more, get_or-replicate, get_or-set_same, get_or-set_other, length-replicate, length-take-le}
use Rattle.std.proofs.lemmas.Option.{get_or_from_slice_get, slice_get_within}
use Rattle.std.proofs.lemmas.Bool.{cases_eq, cases_lt, eq-eqb, le-ltb, lt-ltb, ne_eqb}
use Rattle.mit_plan.specs.Plans.{numbers_where}
use Rattle.mit_plan.specs.Indexed.{AreLists, added_to_list}
use Rattle.mit_plan.specs.declared.plan.Edge.{Edge}
use Rattle.mit_plan.proofs.Numbers.{numbers_where-below, numbers_where-push, one_where}

-- the numbers by name, with an edge of this name and of another one
pub numbers-same : (name_of : Edge → ℕ) (op : ℕ) (edges : List Edge) (edge : Edge) → name_of edge ≡ op
    → numbers_where (λ one. name_of one == op) 0 (edges ++ edge ∷ []) ≡ numbers_where (λ one. name_of one == op) 0 edges ++ length edges ∷ []
numbers-same name_of op edges edge same =
    numbers_where-push (λ one. name_of one == op) 0 edges edge
    ∙ ap (λ holds. numbers_where (λ one. name_of one == op) 0 edges ++ one_where holds (0 + length edges)) (eq-eqb (name_of edge) op same)
    ∙ ap (λ at. numbers_where (λ one. name_of one == op) 0 edges ++ at ∷ []) (zero-add (length edges))

pub numbers-other : (name_of : Edge → ℕ) (op : ℕ) (edges : List Edge) (edge : Edge) → name_of edge ≢ op
    → numbers_where (λ one. name_of one == op) 0 (edges ++ edge ∷ []) ≡ numbers_where (λ one. name_of one == op) 0 edges
numbers-other name_of op edges edge other =
    numbers_where-push (λ one. name_of one == op) 0 edges edge
    ∙ ap (λ holds. numbers_where (λ one. name_of one == op) 0 edges ++ one_where holds (0 + length edges)) (ne_eqb (name_of edge) op other)
    ∙ append-nil _

-- the list of a number after an edge
abbrev set_to : List (List ℕ) → ℕ → ℕ → List (List ℕ)
set_to lists name number = set lists name (get_or lists name [] ++ number ∷ [])

each-set : (name_of : Edge → ℕ) (count : ℕ) (edges : List Edge) (edge : Edge) (lists : List (List ℕ))
    → AreLists name_of count edges lists → name_of edge < length lists
    → (op : ℕ) → op < count → get_or (set_to lists (name_of edge) (length edges)) op [] ≡ numbers_where (λ one. name_of one == op) 0 (edges ++ edge ∷ [])
each-set name_of count edges edge lists before within op below =
    ⊎_elim
    (λ (same : name_of edge ≡ op).
    ap (λ at. get_or (set lists (name_of edge) (get_or lists (name_of edge) [] ++ length edges ∷ [])) at []) (sym same)
    ∙ get_or-set_same lists (name_of edge) _ [] within
    ∙ ap (λ at. get_or lists at [] ++ length edges ∷ []) same
    ∙ ap (λ numbers. numbers ++ length edges ∷ []) (before.each op below)
    ∙ sym (numbers-same name_of op edges edge same))
    (λ (other : name_of edge ≢ op).
    get_or-set_other lists (name_of edge) op _ [] (λ e. other (sym e))
    ∙ before.each op below
    ∙ sym (numbers-other name_of op edges edge other))
    (cases_eq (name_of edge) op)

inside : (name_of : Edge → ℕ) (count : ℕ) (edges : List Edge) (edge : Edge) (lists : List (List ℕ))
    → AreLists name_of count edges lists → name_of edge < length lists
    → AreLists name_of count (edges ++ edge ∷ []) (added_to_list lists (name_of edge) (length edges))
inside name_of count edges edge lists before within =
    rw (lt-ltb (name_of edge) (length lists) within) (record {
      many = length-set lists (name_of edge) _ ∙ before.many;
      each = each-set name_of count edges edge lists before within;
    })

outside : (name_of : Edge → ℕ) (count : ℕ) (edges : List Edge) (edge : Edge) (lists : List (List ℕ))
    → AreLists name_of count edges lists → length lists ≤ name_of edge
    → AreLists name_of count (edges ++ edge ∷ []) (added_to_list lists (name_of edge) (length edges))
outside name_of count edges edge lists before above =
    rw (le-ltb (name_of edge) (length lists) above) (record {
      many = before.many;
      each = λ op below.
          let many = before.many in
          let other : name_of edge ≢ op = omega arith in
          before.each op below ∙ sym (numbers-other name_of op edges edge other);
    })

pub AreLists-more : (name_of : Edge → ℕ) (count : ℕ) (edges : List Edge) (edge : Edge) (lists : List (List ℕ))
    → AreLists name_of count edges lists → AreLists name_of count (edges ++ edge ∷ []) (added_to_list lists (name_of edge) (length edges))
AreLists-more name_of count edges edge lists before =
    ⊎_elim (inside name_of count edges edge lists before) (outside name_of count edges edge lists before)
    (cases_lt (name_of edge) (length lists))

-- a list's numbers are those of edges
pub AreLists-below : (name_of : Edge → ℕ) (count : ℕ) (edges : List Edge) (lists : List (List ℕ)) (op : ℕ) → AreLists name_of count edges lists
    → op < length lists → All (λ n. n < length edges) (get_or lists op [])
AreLists-below name_of count edges lists op are below =
    let many = are.many in
    let within : op < count = omega arith in
    rw (are.each op within) (numbers_where-below (λ edge. name_of edge == op) 0 edges (length edges) (omega arith))

-- an empty list for each name, of no edges
pub AreLists-none : (name_of : Edge → ℕ) (count : ℕ) → AreLists name_of count [] (replicate count [])
unfolding numbers_where
AreLists-none name_of count = record {
  many = length-replicate count [];
  each = λ op below. get_or-replicate count op [] [] below;
}

-- the list that is found at a name
pub AreLists-found : (name_of : Edge → ℕ) (count : ℕ) (edges : List Edge) (lists : List (List ℕ)) (op : ℕ) (list : List ℕ)
    → AreLists name_of count edges lists → slice_get lists op ≡ Some list → All (λ n. n < length edges) list
AreLists-found name_of count edges lists op list are found =
    let P : List ℕ → Type 0 = λ numbers. All (λ n. n < length edges) numbers in
    subst P (get_or_from_slice_get lists op list [] found)
    (AreLists-below name_of count edges lists op are (slice_get_within lists op list found))

-- the lists after one edge more of a list
pub AreLists-step : (name_of : Edge → ℕ) (count : ℕ) (edges : List Edge) (number : ℕ) (edge : Edge) (lists longer : List (List ℕ))
    → number < length edges → edge ≡ get_or edges number edge → AreLists name_of count (take number edges) lists
    → longer ≡ added_to_list lists (name_of edge) number → AreLists name_of count (take (number + 1) edges) longer
AreLists-step name_of count edges number edge lists longer below is before longer_is =
    let many : length (take number edges) ≡ number = length-take-le number edges (omega arith) in
    let more = rw many at (AreLists-more name_of count (take number edges) edge lists before) in
    let same : take (number + 1) edges ≡ take number edges ++ edge ∷ [] =
    take_more edges number edge below ∙ ap (λ one. take number edges ++ one ∷ []) (sym is) in
    rw (same, longer_is) more
