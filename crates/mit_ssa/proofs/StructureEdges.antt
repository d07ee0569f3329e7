-- What holds of the edges of a plan, whatever its blocks are: their order, and which lead to an operator.
use Rattle.std.proofs.Common.{◌≡◌, ◌∙◌, ◌≤◌, ◌<◌, ◌+◌, ℕ, zero, suc, List, [], ◌∷◌, ◌++◌, length, get_or, map, ap, ap₂, sym, refl, arith, Bool, true, false, cond, inl, inr, add-one}
use Rattle.std.specs.Prelude.{◌==◌, All, AllPairs}
use Rattle.std.specs.List.{filter, range_with_len}
use Rattle.std.proofs.lemmas.Bool.{eq-eqb, ne_eqb}
use Rattle.std.proofs.lemmas.List.{append-nil}
use Rattle.std.proofs.lemmas.List.Elements.{All-append, All-cons, All-head, All-nil, All-tail, All-weaker, filter-append}
use Rattle.mit_ops.specs.declared.kinds.OpSpec.TheVariants.{Copy}
use Rattle.mit_plan.specs.Plans.{PlanOf, inputs_of, no_edge, numbers_where}
use Rattle.mit_plan.specs.Valid.{Before, EdgesInOrder}
use Rattle.mit_plan.specs.declared.plan.Edge.{Edge}
use Rattle.mit_ssa.specs.PlanFor.{edges_in, operator_edges, operators_of, plan_of_blocks}
use Rattle.mit_ssa.specs.declared.block.Block.{Block}
use Rattle.mit_ssa.specs.declared.block.Operator.{Operator}
use Rattle.mit_ssa.specs.declared.block.Source.{Source}

-- ---- pairs in order

pairs_cons : {A : Type 0} (R : A → A → Type 0) (x : A) (xs : List A) → All (R x) xs → AllPairs R xs → AllPairs R (x ∷ xs)
pairs_cons R x xs first later zero zero d less short = absurd (omega (arith, less))
pairs_cons R x xs first later zero (suc j) d less short = first j d (omega (arith, short))
pairs_cons R x xs first later (suc i) zero d less short = absurd (omega (arith, less))
pairs_cons R x xs first later (suc i) (suc j) d less short = later i j d (omega (arith, less)) (omega (arith, short))

pairs_head : {A : Type 0} (R : A → A → Type 0) (x : A) (xs : List A) → AllPairs R (x ∷ xs) → All (R x) xs
pairs_head R x xs pairs k d short = pairs 0 (suc k) d (omega arith) (omega (arith, short))

pairs_tail : {A : Type 0} (R : A → A → Type 0) (x : A) (xs : List A) → AllPairs R (x ∷ xs) → AllPairs R xs
pairs_tail R x xs pairs i j d less short = pairs (suc i) (suc j) d (omega (arith, less)) (omega (arith, short))

pairs_nil : {A : Type 0} (R : A → A → Type 0) → AllPairs R []
pairs_nil R i j d less short = absurd (omega (arith, short))

pairs_append : {A : Type 0} (R : A → A → Type 0) (xs ys : List A) → AllPairs R xs → AllPairs R ys → All (λ x. All (R x) ys) xs → AllPairs R (xs ++ ys)
pairs_append R [] ys one other across = other
pairs_append R (x ∷ xs) ys one other across =
    pairs_cons R x (xs ++ ys) (All-append (R x) xs ys (pairs_head R x xs one) (All-head (λ y. All (R y) ys) x xs across))
    (pairs_append R xs ys (pairs_tail R x xs one) other (All-tail (λ y. All (R y) ys) x xs across))

-- ---- the order of edges

-- an edge to this operator, at this input or a later one
abbrev LeadsIn : ℕ → ℕ → Edge → Type 0
LeadsIn op input edge = (edge.to ≡ op) × (input ≤ edge.input)

all_in : (op : ℕ) (sources : List Source) (input : ℕ) → All (LeadsIn op input) (edges_in op input sources)
unfolding edges_in
all_in op [] input = All-nil (LeadsIn op input)
all_in op (source ∷ sources) input =
    All-cons (LeadsIn op input) (record { from = source.from; to = op; input = input; route = source.route }) (edges_in op (suc input) sources)
    (refl, omega arith)
    (All-weaker (LeadsIn op (suc input)) (LeadsIn op input) (λ edge leads. let a = leads.1 in (leads.0, omega (arith, a)))
    (edges_in op (suc input) sources) (all_in op sources (suc input)))

order_in : (op : ℕ) (sources : List Source) (input : ℕ) → AllPairs Before (edges_in op input sources)
unfolding edges_in
order_in op [] input = pairs_nil Before
order_in op (source ∷ sources) input =
    let one : Edge = record { from = source.from; to = op; input = input; route = source.route } in
    pairs_cons Before one (edges_in op (suc input) sources)
    (All-weaker (LeadsIn op (suc input)) (Before one) (λ edge leads. let a = leads.1 in inr (sym leads.0, omega (arith, a)))
    (edges_in op (suc input) sources) (all_in op sources (suc input)))
    (order_in op sources (suc input))

abbrev LeadsFrom : ℕ → Edge → Type 0
LeadsFrom op edge = op ≤ edge.to

all_from : (operators : List Operator) (number : ℕ) → All (LeadsFrom number) (operator_edges number operators)
unfolding operator_edges
all_from [] number = All-nil (LeadsFrom number)
all_from (operator ∷ operators) number =
    All-append (LeadsFrom number) (edges_in number 0 operator.inputs) (operator_edges (suc number) operators)
    (All-weaker (LeadsIn number 0) (LeadsFrom number) (λ edge leads. let a = leads.0 in omega (arith, a))
    (edges_in number 0 operator.inputs) (all_in number operator.inputs 0))
    (All-weaker (LeadsFrom (suc number)) (LeadsFrom number) (λ edge later. omega (arith, later))
    (operator_edges (suc number) operators) (all_from operators (suc number)))

order_from : (operators : List Operator) (number : ℕ) → AllPairs Before (operator_edges number operators)
unfolding operator_edges
order_from [] number = pairs_nil Before
order_from (operator ∷ operators) number =
    let these = edges_in number 0 operator.inputs in let later = operator_edges (suc number) operators in
    pairs_append Before these later (order_in number operator.inputs 0) (order_from operators (suc number))
    (All-weaker (LeadsIn number 0) (λ edge. All (Before edge) later)
    (λ edge leads. All-weaker (LeadsFrom (suc number)) (Before edge) (λ other above. let a = leads.0 in inl (omega (arith, a, above)))
    later (all_from operators (suc number)))
    these (all_in number operator.inputs 0))

pub edges_in_order : (blocks : List Block) → EdgesInOrder (plan_of_blocks blocks)
edges_in_order blocks edge less = order_from (operators_of blocks) 0 edge (edge + 1) no_edge (omega arith) less

-- ---- what all edges keep

-- a fact of where an edge comes from, by the sources
sources_in : (P : ℕ → Type 0) (number : ℕ) (sources : List Source) (input : ℕ) → All (λ source. P source.from) sources
    → All (λ edge. P edge.from) (edges_in number input sources)
unfolding edges_in
sources_in P number [] input each = All-nil (λ (edge : Edge). P edge.from)
sources_in P number (source ∷ sources) input each =
    All-cons (λ (edge : Edge). P edge.from) (record { from = source.from; to = number; input = input; route = source.route }) (edges_in number (suc input) sources)
    (All-head (λ (one : Source). P one.from) source sources each)
    (sources_in P number sources (suc input) (All-tail (λ (one : Source). P one.from) source sources each))

pub sources_all : (P : ℕ → Type 0) (operators : List Operator) (number : ℕ) → All (λ operator. All (λ source. P source.from) operator.inputs) operators
    → All (λ edge. P edge.from) (operator_edges number operators)
unfolding operator_edges
sources_all P [] number all = All-nil (λ (edge : Edge). P edge.from)
sources_all P (operator ∷ operators) number all =
    All-append (λ (edge : Edge). P edge.from) (edges_in number 0 operator.inputs) (operator_edges (suc number) operators)
    (sources_in P number operator.inputs 0 (All-head (λ (one : Operator). All (λ (source : Source). P source.from) one.inputs) operator operators all))
    (sources_all P operators (suc number) (All-tail (λ (one : Operator). All (λ (source : Source). P source.from) one.inputs) operator operators all))

-- each leads to one of the operators
pub targets_all : (operators : List Operator) (number end : ℕ) → number + length operators ≡ end → All (λ edge. edge.to < end) (operator_edges number operators)
unfolding operator_edges
targets_all [] number end whole = All-nil (λ (edge : Edge). edge.to < end)
targets_all (operator ∷ operators) number end whole =
    All-append (λ (edge : Edge). edge.to < end) (edges_in number 0 operator.inputs) (operator_edges (suc number) operators)
    (All-weaker (LeadsIn number 0) (λ edge. edge.to < end) (λ edge leads. let a = leads.0 in omega (arith, a, whole))
    (edges_in number 0 operator.inputs) (all_in number operator.inputs 0))
    (targets_all operators (suc number) end (omega (arith, whole)))

-- ---- the edges that lead to an operator

passing_one : {A : Type 0} (d : A) (all kept : List A) (x : A) (n : ℕ) (numbers : List ℕ) → get_or all n d ≡ x → map (λ k. get_or all k d) numbers ≡ kept
    → (pass : Bool) → map (λ k. get_or all k d) (cond pass (n ∷ numbers) numbers) ≡ cond pass (x ∷ kept) kept
passing_one d all kept x n numbers first later true = ap₂ (λ y ys. y ∷ ys) first later
passing_one d all kept x n numbers first later false = later

-- what stands at the numbers of those that pass are those that pass
passing : {A : Type 0} (passes : A → Bool) (d : A) (all xs : List A) (n : ℕ) → ((i : ℕ) → i < length xs → get_or all (n + i) d ≡ get_or xs i d)
    → map (λ k. get_or all k d) (numbers_where passes n xs) ≡ filter passes xs
unfolding numbers_where
passing passes d all [] n stands = refl
passing passes d all (x ∷ xs) n stands =
    let e : n ≡ n + 0 = omega arith in
    passing_one d all (filter passes xs) x n (numbers_where passes (suc n) xs) (ap (λ k. get_or all k d) e ∙ stands 0 (omega arith))
    (passing passes d all xs (suc n) (λ i short.
    let f : suc n + i ≡ n + suc i = omega arith in ap (λ k. get_or all k d) f ∙ stands (suc i) (omega (arith, short))))
    (passes x)

pub inputs_are : (plan : PlanOf) (op : ℕ) → inputs_of plan op ≡ filter (λ edge. edge.to == op) plan.edges
inputs_are plan op = passing (λ (edge : Edge). edge.to == op) no_edge plan.edges plan.edges 0 (λ i short.
    let e : 0 + i ≡ i = omega arith in ap (λ k. get_or plan.edges k no_edge) e)

kept_all : {A : Type 0} (passes : A → Bool) (xs : List A) → All (λ x. passes x ≡ true) xs → filter passes xs ≡ xs
kept_all passes [] all = refl
kept_all passes (x ∷ xs) all =
    ap (λ pass. cond pass (x ∷ filter passes xs) (filter passes xs)) (All-head (λ y. passes y ≡ true) x xs all)
    ∙ ap (λ ys. x ∷ ys) (kept_all passes xs (All-tail (λ y. passes y ≡ true) x xs all))

kept_none : {A : Type 0} (passes : A → Bool) (xs : List A) → All (λ x. passes x ≡ false) xs → filter passes xs ≡ []
kept_none passes [] all = refl
kept_none passes (x ∷ xs) all =
    ap (λ pass. cond pass (x ∷ filter passes xs) (filter passes xs)) (All-head (λ y. passes y ≡ false) x xs all)
    ∙ kept_none passes xs (All-tail (λ y. passes y ≡ false) x xs all)

abbrev to_is : ℕ → Edge → Bool
to_is op edge = edge.to == op

-- an operator that stands for none
abbrev pub no_operator : Operator
no_operator = record { statement = 0; spec = Copy; phi = 0; inputs = [] }

edges_there : (op : ℕ) (operators : List Operator) (number i : ℕ) → op ≡ number + i → i < length operators
    → filter (to_is op) (operator_edges number operators) ≡ edges_in op 0 (get_or operators i no_operator).inputs
unfolding operator_edges
edges_there op [] number i is short = absurd (omega (arith, short))
edges_there op (operator ∷ operators) number zero is short =
    let these = edges_in number 0 operator.inputs in let later = operator_edges (suc number) operators in
    let same : number ≡ op = omega (arith, is) in
    filter-append (to_is op) these later
    ∙ ap (λ ys. filter (to_is op) these ++ ys) (kept_none (to_is op) later
    (All-weaker (LeadsFrom (suc number)) (λ edge. to_is op edge ≡ false) (λ edge above. ne_eqb edge.to op (λ e. omega (arith, above, e, is)))
    later (all_from operators (suc number))))
    ∙ append-nil (filter (to_is op) these)
    ∙ kept_all (to_is op) these
    (All-weaker (LeadsIn number 0) (λ edge. to_is op edge ≡ true) (λ edge leads. eq-eqb edge.to op (leads.0 ∙ same))
    these (all_in number operator.inputs 0))
    ∙ ap (λ n. edges_in n 0 operator.inputs) same
edges_there op (operator ∷ operators) number (suc i) is short =
    let these = edges_in number 0 operator.inputs in let later = operator_edges (suc number) operators in
    filter-append (to_is op) these later
    ∙ ap (λ ys. ys ++ filter (to_is op) later) (kept_none (to_is op) these
    (All-weaker (LeadsIn number 0) (λ edge. to_is op edge ≡ false) (λ edge leads. let a = leads.0 in ne_eqb edge.to op (λ e. omega (arith, a, e, is)))
    these (all_in number operator.inputs 0)))
    ∙ edges_there op operators (suc number) i (omega (arith, is)) (omega (arith, short))

-- the inputs of an operator are its edges
pub inputs_there : (blocks : List Block) (op : ℕ) → op < length (operators_of blocks)
    → inputs_of (plan_of_blocks blocks) op ≡ edges_in op 0 (get_or (operators_of blocks) op no_operator).inputs
inputs_there blocks op short =
    inputs_are (plan_of_blocks blocks) op ∙ edges_there op (operators_of blocks) 0 op (omega arith) short

-- they are numbered from 0 on
pub inputs_numbered : (op : ℕ) (sources : List Source) (input : ℕ) → map (λ edge. edge.input) (edges_in op input sources) ≡ range_with_len input (length sources)
unfolding edges_in
inputs_numbered op [] input = refl
inputs_numbered op (source ∷ sources) input =
    ap (λ ys. input ∷ ys) (inputs_numbered op sources (suc input))
    ∙ ap (λ n. input ∷ range_with_len n (length sources)) (sym (add-one input))
