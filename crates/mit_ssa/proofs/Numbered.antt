-- The lists of a plan, by more blocks and operators.
use Rattle.std.proofs.Common.{◌≡◌, ◌∙◌, ◌≤◌, ◌<◌, ◌+◌, ℕ, suc, List, [], ◌∷◌, ◌++◌, length, map, take, drop, get_or, ap, sym, refl, arith, append_assoc, length-append, map-id, ◌⊎◌, inl, inr}
use Rattle.std.proofs.lemmas.List.{append-nil, drop_more, take-append-drop}
use Rattle.std.proofs.lemmas.List.Concat.{flat_map-append}
use Rattle.mit_plan.specs.Plans.{PlanOf}
use Rattle.mit_plan.specs.declared.plan.Edge.{Edge}
use Rattle.mit_plan.specs.declared.plan.TheConstants.{MAX_EDGES, MAX_OPS}
use Rattle.mit_ssa.specs.Numbering.{AddsBlock, AddsOperator, AddsOperators}
use Rattle.mit_ssa.specs.PlanFor.{IsLarge, TellsLarge, blocks_from, edges_in, operator_edges, operators_of, ops_from, ops_in, plan_of_blocks}
use Rattle.mit_ssa.specs.Weaving.{IfLarge}
use Rattle.mit_ssa.specs.declared.block.Block.{Block}
use Rattle.mit_ssa.specs.declared.block.Operator.{Operator}
use Rattle.mit_ssa.specs.declared.block.Source.{Source}
use Rattle.mit_ssa.specs.declared.number.Lists.{Lists}
use Rattle.mit_ssa.specs.declared.stop.PlanStop.{PlanStop}
use Rattle.mit_ssa.specs.declared.stop.PlanStop.TheVariants.{TooLarge, NoMemory}
use Rattle.mit_ssa.proofs.Counted.{size, size_append, size_is, size_more}

-- ---- lengths

pub length-edges_in : (operator input : ℕ) (sources : List Source) → length (edges_in operator input sources) ≡ length sources
unfolding edges_in
length-edges_in operator input [] = refl
length-edges_in operator input (source ∷ sources) = ap suc (length-edges_in operator (suc input) sources)

pub length-ops_in : (block index : ℕ) (operators : List Operator) → length (ops_in block index operators) ≡ length operators
unfolding ops_in
length-ops_in block index [] = refl
length-ops_in block index (operator ∷ operators) = ap suc (length-ops_in block (suc index) operators)

pub length-ops_from : (number : ℕ) (blocks : List Block) → length (ops_from number blocks) ≡ size blocks
unfolding ops_from
length-ops_from number [] = sym (size_is [])
length-ops_from number (block ∷ blocks) =
    let a = length-append (ops_in number 0 block.operators) (ops_from (suc number) blocks) in
    let b = length-ops_in number 0 block.operators in
    let c = length-ops_from (suc number) blocks in
    let d = size_more block blocks in
    omega (arith, a, b, c, d)

pub length-blocks_from : (first : ℕ) (blocks : List Block) → length (blocks_from first blocks) ≡ length blocks
unfolding blocks_from
length-blocks_from first [] = refl
length-blocks_from first (block ∷ blocks) = ap suc (length-blocks_from (first + length block.operators) blocks)

-- ---- one more

pub edges_in-push : (operator input number : ℕ) (sources : List Source) (source : Source) → input + length sources ≡ number
    → edges_in operator input (sources ++ source ∷ [])
    ≡ edges_in operator input sources ++ record { from = source.from; to = operator; input = number; route = source.route } ∷ []
unfolding edges_in
edges_in-push operator input number [] source is = let e : input ≡ number = omega (arith, is) in
    λ i. record { from = source.from; to = operator; input = e i; route = source.route } ∷ []
edges_in-push operator input number (one ∷ sources) source is =
    ap (λ list. record { from = one.from; to = operator; input = input; route = one.route } ∷ list)
    (edges_in-push operator (suc input) number sources source (omega (arith, is)))

pub ops_in-push : (block index number : ℕ) (operators : List Operator) (operator : Operator) → index + length operators ≡ number
    → ops_in block index (operators ++ operator ∷ [])
    ≡ ops_in block index operators
    ++ record { block = block; index = number; statement = operator.statement; spec = operator.spec; phi = operator.phi } ∷ []
unfolding ops_in
ops_in-push block index number [] operator is = let e : index ≡ number = omega (arith, is) in
    λ i. record { block = block; index = e i; statement = operator.statement; spec = operator.spec; phi = operator.phi } ∷ []
ops_in-push block index number (one ∷ operators) operator is =
    ap (λ list. record { block = block; index = index; statement = one.statement; spec = one.spec; phi = one.phi } ∷ list)
    (ops_in-push block (suc index) number operators operator (omega (arith, is)))

pub edges_from-append : (number next : ℕ) (xs ys : List Operator) → number + length xs ≡ next
    → operator_edges number (xs ++ ys) ≡ operator_edges number xs ++ operator_edges next ys
unfolding operator_edges
edges_from-append number next [] ys is = let e : number ≡ next = omega (arith, is) in ap (λ n. operator_edges n ys) e
edges_from-append number next (x ∷ xs) ys is =
    ap (λ list. edges_in number 0 x.inputs ++ list) (edges_from-append (suc number) next xs ys (omega (arith, is)))
    ∙ sym (append_assoc (edges_in number 0 x.inputs) (operator_edges (suc number) xs) (operator_edges next ys))

pub edges_from-one : (number : ℕ) (operator : Operator) → operator_edges number (operator ∷ []) ≡ edges_in number 0 operator.inputs
unfolding operator_edges
edges_from-one number operator = append-nil (edges_in number 0 operator.inputs)

pub blocks_from-push : (first next : ℕ) (blocks : List Block) (block : Block) → first + size blocks ≡ next
    → blocks_from first (blocks ++ block ∷ [])
    ≡ blocks_from first blocks ++ record { first = next; count = length block.operators; leave = block.leave } ∷ []
unfolding blocks_from
blocks_from-push first next [] block is =
    let none = size_is [] in
    let e : first ≡ next = omega (arith, is, none) in
    λ i. record { first = e i; count = length block.operators; leave = block.leave } ∷ []
blocks_from-push first next (one ∷ blocks) block is =
    let more = size_more one blocks in
    ap (λ list. record { first = first; count = length one.operators; leave = one.leave } ∷ list)
    (blocks_from-push (first + length one.operators) next blocks block (omega (arith, is, more)))

pub ops_from-push : (number next : ℕ) (blocks : List Block) (block : Block) → number + length blocks ≡ next
    → ops_from number (blocks ++ block ∷ []) ≡ ops_from number blocks ++ ops_in next 0 block.operators
unfolding ops_from
ops_from-push number next [] block is =
    let e : number ≡ next = omega (arith, is) in ap (λ n. ops_in n 0 block.operators ++ []) e ∙ append-nil (ops_in next 0 block.operators)
ops_from-push number next (one ∷ blocks) block is =
    ap (λ list. ops_in number 0 one.operators ++ list) (ops_from-push (suc number) next blocks block (omega (arith, is)))
    ∙ sym (append_assoc (ops_in number 0 one.operators) (ops_from (suc number) blocks) (ops_in next 0 block.operators))

-- ---- loops that take their items

-- the items so far, this one and the others are all
pub taken_apart : {A : Type 0} (all yielded : List A) (item : A) → map (λ (y : A). y) yielded ≡ take (length yielded) all → length yielded < length all
    → item ≡ get_or all (length yielded) item → yielded ++ item ∷ drop (length yielded + 1) all ≡ all
taken_apart all yielded item so_far within is =
    ap (λ list. list ++ item ∷ drop (length yielded + 1) all) (sym (map-id yielded) ∙ so_far)
    ∙ (ap (λ x. take (length yielded) all ++ x ∷ drop (length yielded + 1) all) is
    ∙ (ap (λ list. take (length yielded) all ++ list) (sym (drop_more all (length yielded) item within))
    ∙ take-append-drop (length yielded) all))

large_more : (few many : ℕ) (stop : PlanStop) → few ≤ many → IfLarge (MAX_EDGES < few) stop → IfLarge (MAX_EDGES < many) stop
large_more few many TooLarge less large = omega (arith, less, large)
large_more few many NoMemory less large = large

-- an operator stops, and so do all
pub operators_stop : (first : ℕ) (done rest all : List Operator) (operator : Operator) (edges now : List Edge) (stop : PlanStop)
    → now ≡ edges ++ operator_edges first done → done ++ operator ∷ rest ≡ all
    → IfLarge (MAX_EDGES < length now + length operator.inputs) stop → IfLarge (MAX_EDGES < length edges + length (operator_edges first all)) stop
unfolding operator_edges
operators_stop first done rest all operator edges now stop so_far whole stops =
    let a = ap length so_far in
    let b = length-append edges (operator_edges first done) in
    let c = ap (λ list. length (operator_edges first list)) whole in
    let d = ap length (edges_from-append first (first + length done) done (operator ∷ rest) refl) in
    let e = length-append (operator_edges first done) (operator_edges (first + length done) (operator ∷ rest)) in
    let f = length-append (edges_in (first + length done) 0 operator.inputs) (operator_edges (suc (first + length done)) rest) in
    let g = length-edges_in (first + length done) 0 operator.inputs in
    large_more _ _ stop (omega (arith, a, b, c, d, e, f, g)) stops

-- one operator more
pub operators_more : (block first : ℕ) (done : List Operator) (operator : Operator) (old now new : Lists) (index : ℕ)
    → first ≡ length old.ops.items → index ≡ length done
    → now.blocks.items ≡ old.blocks.items → now.ops.items ≡ old.ops.items ++ ops_in block 0 done → now.edges.items ≡ old.edges.items ++ operator_edges first done
    → AddsOperator block index operator now new
    → (new.blocks.items ≡ old.blocks.items) × (new.ops.items ≡ old.ops.items ++ ops_in block 0 (done ++ operator ∷ []))
    × (new.edges.items ≡ old.edges.items ++ operator_edges first (done ++ operator ∷ []))
operators_more block first done operator old now new index is_first is_index blocks ops edges added =
    let number : length now.ops.items ≡ first + length done =
    let a = ap length ops in let b = length-append old.ops.items (ops_in block 0 done) in let c = length-ops_in block 0 done in
    omega (arith, a, b, c, is_first) in (
      added.blocks ∙ blocks,
      added.ops ∙ (ap (λ list. list ++ record { block = block; index = index; statement = operator.statement; spec = operator.spec; phi = operator.phi } ∷ []) ops
          ∙ (append_assoc old.ops.items (ops_in block 0 done) _ ∙ ap (λ list. old.ops.items ++ list) (sym (ops_in-push block 0 index done operator (omega (arith, is_index)))))),
      added.edges ∙ ((λ i. edges i ++ edges_in (number i) 0 operator.inputs)
          ∙ (append_assoc old.edges.items (operator_edges first done) (edges_in (first + length done) 0 operator.inputs)
          ∙ ap (λ list. old.edges.items ++ list)
          (ap (λ list. operator_edges first done ++ list) (sym (edges_from-one (first + length done) operator))
          ∙ sym (edges_from-append first (first + length done) done (operator ∷ []) refl)))),
    )

-- ---- the blocks of a plan

-- the lists of a plan, of these blocks so far
pub record Numbers (done : List Block) (lists : Lists) : Type 0 where
  pub blocks : lists.blocks.items ≡ blocks_from 0 done
  pub ops : lists.ops.items ≡ ops_from 0 done
  pub edges : lists.edges.items ≡ operator_edges 0 (operators_of done)
  pub few_ops : length lists.ops.items ≤ MAX_OPS
  pub few : length lists.edges.items ≤ MAX_EDGES

operators_more_of : (done : List Block) (block : Block) → operators_of (done ++ block ∷ []) ≡ operators_of done ++ block.operators
operators_more_of done block =
    flat_map-append (λ (one : Block). one.operators) done (block ∷ []) ∙ ap (λ list. operators_of done ++ list) (append-nil block.operators)

number_of : (done : List Block) (lists : Lists) → Numbers done lists → length lists.ops.items ≡ length (operators_of done)
number_of done lists numbers = ap length numbers.ops ∙ (length-ops_from 0 done ∙ size_is done)

pub blocks_more : (done : List Block) (block : Block) (now new : Lists) → Numbers done now → AddsBlock block now new → Numbers (done ++ block ∷ []) new
blocks_more done block now new numbers added =
    let number = number_of done now numbers in
    let size_of = size_is done in
    let many : length now.blocks.items ≡ length done = ap length numbers.blocks ∙ length-blocks_from 0 done in
    record {
      blocks = added.blocks ∙ (ap (λ list. list ++ record { first = length now.ops.items; count = length block.operators; leave = block.leave } ∷ []) numbers.blocks
          ∙ sym (blocks_from-push 0 (length now.ops.items) done block (omega (arith, number, size_of))));
      ops = added.ops ∙ (ap (λ list. list ++ ops_in (length now.blocks.items) 0 block.operators) numbers.ops
          ∙ sym (ops_from-push 0 (length now.blocks.items) done block (omega (arith, many))));
      edges = added.edges ∙ (ap (λ list. list ++ operator_edges (length now.ops.items) block.operators) numbers.edges
          ∙ (sym (edges_from-append 0 (length now.ops.items) (operators_of done) block.operators (omega (arith, number)))
          ∙ ap (λ list. operator_edges 0 list) (sym (operators_more_of done block))));
      few_ops = added.few_ops;
      few = added.few;
    }

-- a block stops, since the plan is too large
pub blocks_stop : (done rest all : List Block) (block : Block) (lists : Lists) (stop : PlanStop) → Numbers done lists → done ++ block ∷ rest ≡ all
    → IfLarge ((MAX_OPS < length lists.ops.items + length block.operators)
    ⊎ (MAX_EDGES < length lists.edges.items + length (operator_edges (length lists.ops.items) block.operators))) stop
    → TellsLarge (plan_of_blocks all) stop
blocks_stop done rest all block lists NoMemory numbers whole stops = stops
blocks_stop done rest all block lists TooLarge numbers whole stops = by_cause stops
  where
    size_of : size all ≡ size done + (length block.operators + size rest)
    size_of = ap size (sym whole) ∙ (size_append done (block ∷ rest) ∙ ap (λ n. size done + n) (size_more block rest))

    ops_are : length (ops_from 0 all) ≡ length lists.ops.items + (length block.operators + size rest)
    ops_are =
        let a = length-ops_from 0 all in let b = number_of done lists numbers in let c = size_is done in omega (arith, a, b, c, size_of)

    operators_are : operators_of all ≡ operators_of done ++ (block.operators ++ operators_of rest)
    operators_are = ap operators_of (sym whole) ∙ flat_map-append (λ (one : Block). one.operators) done (block ∷ rest)

    edges_are : length (operator_edges 0 (operators_of all)) ≡ length lists.edges.items + length (operator_edges (length lists.ops.items) (block.operators ++ operators_of rest))
    edges_are =
        ap (λ list. length (operator_edges 0 list)) operators_are
        ∙ (ap length (edges_from-append 0 (length lists.ops.items) (operators_of done) (block.operators ++ operators_of rest)
        (let a = number_of done lists numbers in omega (arith, a)))
        ∙ (length-append (operator_edges 0 (operators_of done)) _ ∙ ap (λ (list : List Edge). length list + length (operator_edges (length lists.ops.items) (block.operators ++ operators_of rest))) (sym numbers.edges)))

    by_cause : (MAX_OPS < length lists.ops.items + length block.operators)
        ⊎ (MAX_EDGES < length lists.edges.items + length (operator_edges (length lists.ops.items) block.operators)) → TellsLarge (plan_of_blocks all) TooLarge
    by_cause (inl many) = inl (omega (arith, many, ops_are))
    by_cause (inr many) =
        let a = ap length (edges_from-append (length lists.ops.items) (length lists.ops.items + length block.operators) block.operators (operators_of rest) refl) in
        let b = length-append (operator_edges (length lists.ops.items) block.operators) (operator_edges (length lists.ops.items + length block.operators) (operators_of rest)) in
        inr (omega (arith, many, edges_are, a, b))

pub numbers_none : (lists : Lists) → lists.blocks.items ≡ [] → lists.ops.items ≡ [] → lists.edges.items ≡ [] → Numbers [] lists
unfolding blocks_from ops_from operator_edges
numbers_none lists blocks ops edges = record {
  blocks = blocks;
  ops = ops;
  edges = edges;
  few_ops = let a = ap length ops in omega (arith, a);
  few = let a = ap length edges in omega (arith, a);
}

pub plan_is : (all : List Block) (lists : Lists) (plan : PlanOf) → Numbers all lists → plan.blocks ≡ lists.blocks.items → plan.ops ≡ lists.ops.items
    → plan.edges ≡ lists.edges.items → plan ≡ plan_of_blocks all
plan_is all lists plan numbers blocks ops edges =
    λ i. record { blocks = (blocks ∙ numbers.blocks) i; ops = (ops ∙ numbers.ops) i; edges = (edges ∙ numbers.edges) i }

pub plan_fits : (all : List Block) (lists : Lists) (plan : PlanOf) → Numbers all lists → plan.ops ≡ lists.ops.items → plan.edges ≡ lists.edges.items
    → IsLarge plan → ⊥
plan_fits all lists plan numbers ops edges (inl many) = let a = ap length ops in let b = numbers.few_ops in omega (arith, many, a, b)
plan_fits all lists plan numbers ops edges (inr many) = let a = ap length edges in let b = numbers.few in omega (arith, many, a, b)

-- a block and its operators
pub block_added : (block : Block) (old middle new : Lists) (number : ℕ) (operators : List Operator) → number ≡ length old.blocks.items
    → operators ≡ block.operators
    → middle.blocks.items ≡ old.blocks.items ++ record { first = length old.ops.items; count = length block.operators; leave = block.leave } ∷ []
    → middle.ops.items ≡ old.ops.items → middle.edges.items ≡ old.edges.items → length old.ops.items + length operators ≤ MAX_OPS
    → AddsOperators number operators middle new → AddsBlock block old new
block_added block old middle new number operators is_number are blocks ops edges few added = record {
  blocks = added.blocks ∙ blocks;
  ops = added.ops ∙ (λ i. ops i ++ ops_in (is_number i) 0 (are i));
  edges = added.edges ∙ (λ i. edges i ++ operator_edges (length (ops i)) (are i));
  few_ops =
      let a = ap length added.ops in let b = length-append middle.ops.items (ops_in number 0 operators) in
      let c = length-ops_in number 0 operators in let d = ap length ops in
      omega (arith, a, b, c, d, few);
  few = added.few;
}
