-- Which edges of a plan lead to an operator.
use Rattle.std.proofs.Common.{◌≡◌, ◌∙◌, ◌<◌, ◌+◌, ℕ, zero, suc, List, [], ◌∷◌, ◌++◌, length, map, get_or, ap, subst, refl, arith, cond, eqb, Bool, true, false, append-nil, All, Contains}
use Rattle.std.specs.List.{filter}
use Rattle.std.proofs.lemmas.Bool.Decides.{nat_tests}
use Rattle.mit_plan.specs.Plans.{PlanOf, edge_at, inputs_of, no_edge, numbers_where, op_at, source_block}
use Rattle.mit_plan.specs.Valid.{source_blocks}
use Rattle.mit_plan.specs.declared.plan.Edge.{Edge}
use Rattle.mit_ssa.specs.PlanFor.{edges_in, operator_edges}
use Rattle.mit_ssa.specs.declared.block.Operator.{Operator}
use Rattle.mit_ssa.specs.declared.block.Source.{Source}
use Rattle.mit_ssa.proofs.DefinitionsPhis.{Each}
use Rattle.mit_ssa.proofs.DefinitionsNumbered.{no_operator}

-- ---- what holds of each

pub each_all : {A : Type 0} (P : A → Type 0) (xs : List A) → Each P xs → All P xs
unfolding Each
each_all P [] each = λ k d below. absurd (omega arith)
each_all {A} P (x ∷ xs) each = λ k d below. at k d below (each_all P xs each.1)
  where
    at : (k : ℕ) (d : A) → k < length (x ∷ xs) → All P xs → P (get_or (x ∷ xs) k d)
    at zero d below rest = each.0
    at (suc k) d below rest = rest k d (omega arith)

pub each_contains : {A : Type 0} (P : A → Type 0) (xs : List A) (x : A) → Each P xs → Contains xs x → P x
each_contains P xs x each found = subst P found.2 (each_all P xs each found.0 x found.1)

pub each_append : {A : Type 0} (P : A → Type 0) (xs ys : List A) → Each P xs → Each P ys → Each P (xs ++ ys)
unfolding Each
each_append P [] ys first second = second
each_append P (x ∷ xs) ys first second = (first.0, each_append P xs ys first.1 second)

-- ---- the edges to an operator

map_numbers : (f : ℕ → Edge) (p : Edge → Bool) (number : ℕ) (xs : List Edge) → ((k : ℕ) → k < length xs → f (number + k) ≡ get_or xs k no_edge)
    → map f (numbers_where p number xs) ≡ filter p xs
unfolding numbers_where
map_numbers f p number [] at = refl
map_numbers f p number (x ∷ xs) at =
    by_test (p x) (map_numbers f p (suc number) xs (λ k below. let e : suc number + k ≡ number + suc k = omega arith in ap f e ∙ at (suc k) (omega arith)))
  where
    head : f number ≡ x
    head = let e : number ≡ number + 0 = omega arith in ap f e ∙ at 0 (omega arith)

    by_test : (b : Bool) → map f (numbers_where p (suc number) xs) ≡ filter p xs
        → map f (cond b (number ∷ numbers_where p (suc number) xs) (numbers_where p (suc number) xs)) ≡ cond b (x ∷ filter p xs) (filter p xs)
    by_test true rest = λ i. head i ∷ rest i
    by_test false rest = rest

filter_append : {A : Type 0} (p : A → Bool) (xs ys : List A) → filter p (xs ++ ys) ≡ filter p xs ++ filter p ys
filter_append p [] ys = refl
filter_append p (x ∷ xs) ys = by_test (p x) (filter_append p xs ys)
  where
    by_test : (b : Bool) → filter p (xs ++ ys) ≡ filter p xs ++ filter p ys
        → cond b (x ∷ filter p (xs ++ ys)) (filter p (xs ++ ys)) ≡ cond b (x ∷ filter p xs) (filter p xs) ++ filter p ys
    by_test true rest = ap (λ l. x ∷ l) rest
    by_test false rest = rest

leads_to : ℕ → Edge → Bool
leads_to op edge = eqb edge.to op

edges_in_same : (op number input : ℕ) (sources : List Source) → number ≡ op → filter (leads_to op) (edges_in number input sources) ≡ edges_in op input sources
unfolding edges_in leads_to
edges_in_same op number input [] same = refl
edges_in_same op number input (source ∷ sources) same =
    let is : eqb number op ≡ true = grind (arith, nat_tests) in
    rw is (λ i. record { from = source.from; to = same i; input = input; route = source.route } ∷ edges_in_same op number (suc input) sources same i)

edges_in_other : (op number input : ℕ) (sources : List Source) → eqb number op ≡ false → filter (leads_to op) (edges_in number input sources) ≡ []
unfolding edges_in leads_to
edges_in_other op number input [] other = refl
edges_in_other op number input (source ∷ sources) other = rw other (edges_in_other op number (suc input) sources other)

edges_from_later : (op number : ℕ) (operators : List Operator) → op < number → filter (leads_to op) (operator_edges number operators) ≡ []
unfolding operator_edges
edges_from_later op number [] below = refl
edges_from_later op number (operator ∷ operators) below =
    let other : eqb number op ≡ false = grind (arith, nat_tests) in
    filter_append (leads_to op) (edges_in number 0 operator.inputs) (operator_edges (suc number) operators)
    ∙ (ap (λ l. l ++ filter (leads_to op) (operator_edges (suc number) operators)) (edges_in_other op number 0 operator.inputs other)
    ∙ edges_from_later op (suc number) operators (omega arith))

edges_from_at : (op number k : ℕ) (operators : List Operator) → number + k ≡ op → k < length operators
    → filter (leads_to op) (operator_edges number operators) ≡ edges_in op 0 (get_or operators k no_operator).inputs
unfolding operator_edges
edges_from_at op number k [] same below = absurd (omega arith)
edges_from_at op number zero (operator ∷ operators) same below =
    filter_append (leads_to op) (edges_in number 0 operator.inputs) (operator_edges (suc number) operators)
    ∙ ((λ i. edges_in_same op number 0 operator.inputs (omega (arith, same)) i ++ edges_from_later op (suc number) operators (omega (arith, same)) i)
    ∙ append-nil (edges_in op 0 operator.inputs))
edges_from_at op number (suc k) (operator ∷ operators) same below =
    let other : eqb number op ≡ false = grind (arith, nat_tests) in
    filter_append (leads_to op) (edges_in number 0 operator.inputs) (operator_edges (suc number) operators)
    ∙ (ap (λ l. l ++ filter (leads_to op) (operator_edges (suc number) operators)) (edges_in_other op number 0 operator.inputs other)
    ∙ edges_from_at op (suc number) k operators (omega (arith, same)) (omega arith))

blocks_in : (plan : PlanOf) (op input : ℕ) (sources : List Source)
    → map (source_block plan) (edges_in op input sources) ≡ map (λ source. (op_at plan source.from).block) sources
unfolding edges_in
blocks_in plan op input [] = refl
blocks_in plan op input (source ∷ sources) = ap (λ l. (op_at plan source.from).block ∷ l) (blocks_in plan op (suc input) sources)

-- the edges to an operator are those of its inputs
pub inputs_are : (plan : PlanOf) (operators : List Operator) (op : ℕ) → plan.edges ≡ operator_edges 0 operators → op < length operators
    → inputs_of plan op ≡ edges_in op 0 (get_or operators op no_operator).inputs
unfolding leads_to
inputs_are plan operators op edges below =
    map_numbers (edge_at plan) (leads_to op) 0 plan.edges (λ k lt. let e : 0 + k ≡ k = omega arith in ap (edge_at plan) e)
    ∙ (ap (filter (leads_to op)) edges ∙ edges_from_at op 0 op operators (omega arith) below)

pub source_blocks_are : (plan : PlanOf) (operators : List Operator) (op : ℕ) → plan.edges ≡ operator_edges 0 operators → op < length operators
    → source_blocks plan op ≡ map (λ source. (op_at plan source.from).block) (get_or operators op no_operator).inputs
source_blocks_are plan operators op edges below =
    ap (map (source_block plan)) (inputs_are plan operators op edges below) ∙ blocks_in plan op 0 (get_or operators op no_operator).inputs

-- ---- each edge

pub each_edge : (P : Edge → Type 0) (number : ℕ) (operators : List Operator)
    → ((k : ℕ) → k < length operators → Each P (edges_in (number + k) 0 (get_or operators k no_operator).inputs)) → Each P (operator_edges number operators)
unfolding operator_edges Each
each_edge P number [] each = tt
each_edge P number (operator ∷ operators) each =
    each_append P (edges_in number 0 operator.inputs) (operator_edges (suc number) operators)
    (let e : number + 0 ≡ number = omega arith in subst (λ (n : ℕ). Each P (edges_in n 0 operator.inputs)) e (each 0 (omega arith)))
    (each_edge P (suc number) operators (λ k below.
    let e : number + suc k ≡ suc number + k = omega arith in
    subst (λ (n : ℕ). Each P (edges_in n 0 (get_or operators k no_operator).inputs)) e (each (suc k) (omega arith))))

pub each_in : (P : Edge → Type 0) (Q : Source → Type 0) (op input : ℕ) (sources : List Source)
    → ((source : Source) (number : ℕ) → Q source → P (record { from = source.from; to = op; input = number; route = source.route }))
    → Each Q sources → Each P (edges_in op input sources)
unfolding edges_in Each
each_in P Q op input [] change each = tt
each_in P Q op input (source ∷ sources) change each = (change source input each.0, each_in P Q op (suc input) sources change each.1)

pub each_any : {A : Type 0} (P : A → Type 0) (xs : List A) → ((x : A) → P x) → Each P xs
unfolding Each
each_any P [] all = tt
each_any P (x ∷ xs) all = (all x, each_any P xs all)
