-- The edges that lead to an operator, by their numbers: which inputs they lead to, and from which blocks.
use Rattle.std.proofs.Common.{◌≡◌, ◌∙◌, ◌<◌, ◌+◌, ℕ, List, length, map, get_or, ap, sym, arith}
use Rattle.std.specs.List.{range_with_len}
use Rattle.std.proofs.lemmas.List.{get_or-map, length-map}
use Rattle.std.proofs.lemmas.List.FromFn.{get_or-range_with_len, length-range_with_len}
use Rattle.std.proofs.lemmas.Grind.{same_number_lists}
use Rattle.mit_plan.specs.Plans.{PlanOf, edge_at, edges_to, no_edge, source_block}
use Rattle.mit_plan.specs.Valid.{source_blocks}
use Rattle.mit_plan.specs.declared.plan.Edge.{Edge}

-- what a function gives for the edges of these numbers
abbrev pub each_of : (Edge → ℕ) → List Edge → List ℕ → List ℕ
each_of f edges numbers = map f (map (λ number. get_or edges number no_edge) numbers)

pub length-each_of : (f : Edge → ℕ) (edges : List Edge) (numbers : List ℕ) → length (each_of f edges numbers) ≡ length numbers
length-each_of f edges numbers =
    length-map (map (λ number. get_or edges number no_edge) numbers) f ∙ length-map numbers (λ number. get_or edges number no_edge)

pub get_or-each_of : (f : Edge → ℕ) (edges : List Edge) (numbers : List ℕ) (at : ℕ) → at < length numbers
    → get_or (each_of f edges numbers) at 0 ≡ f (get_or edges (get_or numbers at 0) no_edge)
get_or-each_of f edges numbers at below =
    let over = map (λ number. get_or edges number no_edge) numbers in
    let size = length-map numbers (λ number. get_or edges number no_edge) in
    get_or-map f over at no_edge 0 (omega (arith, size, below)) ∙ ap f (get_or-map (λ number. get_or edges number no_edge) numbers at 0 no_edge below)

-- the inputs are those from 0 on where each edge leads to the input of its place
pub counts_up : (edges : List Edge) (numbers : List ℕ) → ((at : ℕ) → at < length numbers → (get_or edges (get_or numbers at 0) no_edge).input ≡ at)
    → each_of (λ edge. edge.input) edges numbers ≡ range_with_len 0 (length numbers)
counts_up edges numbers each =
    let size = length-each_of (λ edge. edge.input) edges numbers in
    same_number_lists _ _ (size ∙ sym (length-range_with_len 0 (length numbers)))
    (λ at less.
    let below : at < length numbers = omega (arith, size, less) in
    let e : at ≡ 0 + at = omega arith in
    get_or-each_of (λ edge. edge.input) edges numbers at below ∙ each at below ∙ e ∙ sym (get_or-range_with_len 0 (length numbers) at 0 below))

pub at_input : (edges : List Edge) (numbers : List ℕ) (at : ℕ) → each_of (λ edge. edge.input) edges numbers ≡ range_with_len 0 (length numbers) → at < length numbers
    → (get_or edges (get_or numbers at 0) no_edge).input ≡ at
at_input edges numbers at all below =
    let e : 0 + at ≡ at = omega arith in
    sym (get_or-each_of (λ edge. edge.input) edges numbers at below) ∙ ap (λ (list : List ℕ). get_or list at 0) all
    ∙ get_or-range_with_len 0 (length numbers) at 0 below ∙ e

-- so many of them there are
pub as_many : (edges : List Edge) (numbers : List ℕ) (wanted : ℕ) → each_of (λ edge. edge.input) edges numbers ≡ range_with_len 0 wanted → length numbers ≡ wanted
as_many edges numbers wanted all =
    sym (length-each_of (λ edge. edge.input) edges numbers) ∙ ap (λ (list : List ℕ). length list) all ∙ length-range_with_len 0 wanted

-- ---- the blocks from which they come

pub length-source_blocks : (plan : PlanOf) (op : ℕ) (numbers : List ℕ) → numbers ≡ edges_to plan op → length (source_blocks plan op) ≡ length numbers
length-source_blocks plan op numbers are =
    length-each_of (source_block plan) plan.edges (edges_to plan op) ∙ ap (λ (list : List ℕ). length list) (sym are)

pub source_at : (plan : PlanOf) (op at block : ℕ) (numbers : List ℕ) → numbers ≡ edges_to plan op → at < length numbers
    → block ≡ source_block plan (edge_at plan (get_or numbers at 0)) → get_or (source_blocks plan op) at 0 ≡ block
source_at plan op at block numbers are below is =
    let size = ap (λ (list : List ℕ). length list) are in
    get_or-each_of (source_block plan) plan.edges (edges_to plan op) at (omega (arith, size, below))
    ∙ ap (λ (list : List ℕ). source_block plan (edge_at plan (get_or list at 0))) (sym are) ∙ sym is
