-- Plans of blocks whose types fit: they have types, all that fit are those, and the routes and branches go by them.
use Rattle.std.proofs.Common.{◌≡◌, ◌∙◌, ◌<◌, ◌+◌, ℕ, zero, suc, List, [], ◌∷◌, ◌++◌, length, map, take, drop, get_or, ap, sym, subst, refl, arith, cond, nat_lt, Bool, true, false, IsTrue, MatchBool, Result, Ok, inl, inr, All, length-append}
use Rattle.mit_rows.specs.declared.value.ColType.{ColType}
use Rattle.mit_rows.specs.declared.value.ColType.TheVariants.{Bool as Truth}
use Rattle.mit_ops.specs.Kinds.{bag_inputs_of}
use Rattle.mit_ops.specs.Results.{Refusal, bag, scalar, typed_as}
use Rattle.mit_ops.specs.Routes.{route_to}
use Rattle.mit_ops.specs.declared.kinds.OpSpec.{OpSpec}
use Rattle.mit_ops.specs.declared.routes.Route.TheVariants.{Forward}
use Rattle.mit_ops.specs.declared.types.VarType.{VarType}
use Rattle.mit_plan.specs.Plans.{PlanOf, block_at, inputs_of, is_phi, no_block, no_edge, no_op, op_at}
use Rattle.mit_plan.specs.Types.{AreTypes, HasOperands, IsTypedOperator, TypeFits, source_types, type_at}
use Rattle.mit_plan.specs.Valid.{BranchesDecide, GivesTruth, HasLast, HasTypes, RoutesFit, is_branch, last_of, route_wanted}
use Rattle.mit_plan.specs.declared.plan.PlanBlock.{PlanBlock}
use Rattle.mit_plan.specs.declared.plan.PlanOp.{PlanOp}
use Rattle.mit_ssa.specs.PlanFor.{blocks_from, edges_in, operator_edges, operators_of, ops_from, ops_in, plan_of_blocks}
use Rattle.mit_ssa.specs.declared.block.Block.{Block}
use Rattle.mit_ssa.specs.declared.block.Operator.{Operator}
use Rattle.mit_ssa.specs.declared.block.Source.{Source}
use Rattle.mit_ssa.proofs.DefinitionsPhis.{Each}
use Rattle.mit_ssa.proofs.DefinitionsNumbered.{no_operator, ops_length}
use Rattle.mit_ssa.proofs.DefinitionsEdges.{each_all, each_edge, inputs_are}
use Rattle.mit_ssa.proofs.TypesOps.{IsPlain, Last, Looks, Routed, TypedBlocks, TypedOp, TypedOps, ops_append, source_kinds}

-- ---- a plan of such operators

-- an operator of a plan is this one
pub record IsOf (op : PlanOp) (operator : Operator) : Type 0 where
  pub spec : op.spec ≡ operator.spec
  pub phi : op.phi ≡ operator.phi

pub record IsTypedPlan (look : Looks) (plan : PlanOf) (operators : List Operator) : Type 0 where
  pub edges : plan.edges ≡ operator_edges 0 operators
  pub many : length plan.ops ≡ length operators
  pub ops : (op : ℕ) → IsOf (op_at plan op) (get_or operators op no_operator)
  pub typed : (op : ℕ) → op < length operators → TypedOp look op (get_or operators op no_operator)

-- what comes by the edges to an operator
source_types_in : (types : List VarType) (op input : ℕ) (sources : List Source)
    → source_types types (edges_in op input sources) ≡ source_kinds (type_at types) sources
unfolding edges_in
source_types_in types op input [] = refl
source_types_in types op input (source ∷ sources) = ap (λ (l : List VarType). type_at types source.from ∷ l) (source_types_in types op (suc input) sources)

types_come : (look : Looks) (plan : PlanOf) (operators : List Operator) (op : ℕ) (types : List VarType) → IsTypedPlan look plan operators → op < length plan.ops
    → source_types types (inputs_of plan op) ≡ source_kinds (type_at types) (get_or operators op no_operator).inputs
types_come look plan operators op types typed below =
    ap (source_types types) (inputs_are plan operators op typed.edges (let e = typed.many in omega (arith, e, below)))
    ∙ source_types_in types op 0 (get_or operators op no_operator).inputs

phi_of_two : (op : PlanOp) (operator : Operator) → op.phi ≡ operator.phi → operator.phi ≡ 2 → is_phi op ≡ true
phi_of_two op operator same two = let e : op.phi ≡ 2 = same ∙ two in ap (λ (n : ℕ). nat_lt 0 n) e

phi_of_none : (op : PlanOp) (operator : Operator) → op.phi ≡ operator.phi → operator.phi ≡ 0 → is_phi op ≡ false
phi_of_none op operator same none = let e : op.phi ≡ 0 = same ∙ none in ap (λ (n : ℕ). nat_lt 0 n) e

if_true : (P Q : Type 0) (b : Bool) → b ≡ true → P → MatchBool b P Q
if_true P Q true is holds = holds
if_true P Q false is holds = absurd cc

if_false : (P Q : Type 0) (b : Bool) → b ≡ false → Q → MatchBool b P Q
if_false P Q true is holds = absurd cc
if_false P Q false is holds = holds

of_true : (P Q : Type 0) (b : Bool) → b ≡ true → MatchBool b P Q → P
of_true P Q true is holds = holds
of_true P Q false is holds = absurd cc

of_false : (P Q : Type 0) (b : Bool) → b ≡ false → MatchBool b P Q → Q
of_false P Q true is holds = absurd cc
of_false P Q false is holds = holds

two_hold : (a b c : VarType) → a ≡ c → b ≡ c → All (λ type. type ≡ c) (a ∷ b ∷ [])
unfolding Each
two_hold a b c first second = each_all (λ type. type ≡ c) (a ∷ b ∷ []) (first, (second, tt))

-- ---- the types fit

fits : (look : Looks) (plan : PlanOf) (operators : List Operator) (op : ℕ) (types : List VarType) → IsTypedPlan look plan operators → op < length plan.ops
    → ((n : ℕ) → type_at types n ≡ look n) → TypeFits plan types op
fits look plan operators op types typed below same = by_kind (typed.typed op (let e = typed.many in omega (arith, e, below)))
  where
    operator : Operator
    operator = get_or operators op no_operator

    kinds : (sources : List Source) → source_kinds (type_at types) sources ≡ source_kinds look sources
    kinds [] = refl
    kinds (source ∷ sources) = let head = same source.from in let tail = kinds sources in λ i. head i ∷ tail i

    come : source_types types (inputs_of plan op) ≡ source_kinds look operator.inputs
    come = types_come look plan operators op types typed below ∙ kinds operator.inputs

    bags : bag_inputs_of (op_at plan op).spec ≡ bag_inputs_of operator.spec
    bags = ap bag_inputs_of (typed.ops op).spec

    by_kind : TypedOp look op operator → TypeFits plan types op
    by_kind (inl plain) = if_false (HasOperands plan types op) (IsTypedOperator plan types op) (is_phi (op_at plan op)) (phi_of_none (op_at plan op) operator (typed.ops op).phi plain.no_phi) (record {
      captures = plain.captures;
      scalars = (λ i. drop (bags i) (come i)) ∙ plain.scalars;
      gives = (let s = (typed.ops op).spec in λ i. typed_as (s i) (take (bags i) (come i)) plain.captures)
          ∙ (plain.gives ∙ ap (λ (t : VarType). ok t) (sym (same op)));
    })
      where
        ok : VarType → Result VarType Refusal
        ok t = Ok t
    by_kind (inr meeting) = if_true (HasOperands plan types op) (IsTypedOperator plan types op) (is_phi (op_at plan op)) (phi_of_two (op_at plan op) operator (typed.ops op).phi meeting.phi)
        (subst (All (λ type. type ≡ type_at types op)) (sym (come ∙ ap (source_kinds look) meeting.inputs))
        (two_hold _ _ (type_at types op) (meeting.first_is ∙ sym (same op)) (meeting.second_is ∙ sym (same op))))

-- the types of all numbers
pub has_types : (kinds : List VarType) (plan : PlanOf) (operators : List Operator) → IsTypedPlan (type_at kinds) plan operators → length kinds ≡ length plan.ops
    → HasTypes plan
has_types kinds plan operators typed many =
    (kinds, record { many = many; each = λ op below. fits (type_at kinds) plan operators op kinds typed below (λ n. refl) })

-- ---- no other types fit

scalars_same : (one other : List ColType) → map scalar one ≡ map scalar other → one ≡ other
scalars_same one other same = sym (cols_of one) ∙ (ap (λ (types : List VarType). all_cols types) same ∙ cols_of other)
  where
    all_cols : List VarType → List ColType
    all_cols [] = []
    all_cols (type ∷ types) = type.cols ++ all_cols types

    cols_of : (xs : List ColType) → all_cols (map scalar xs) ≡ xs
    cols_of [] = refl
    cols_of (x ∷ xs) = ap (λ (l : List ColType). x ∷ l) (cols_of xs)

ok_same : (a b : VarType) → ◌≡◌ {A = Result VarType Refusal} (Ok a) (Ok b) → a ≡ b
ok_same a b same = cc

kinds_below : (look : Looks) (types : List VarType) (bound : ℕ) (sources : List Source) → Each (λ source. source.from < bound) sources
    → ((n : ℕ) → n < bound → type_at types n ≡ look n) → source_kinds (type_at types) sources ≡ source_kinds look sources
unfolding Each
kinds_below look types bound [] each same = refl
kinds_below look types bound (source ∷ sources) each same =
    let head = same source.from each.0 in let tail = kinds_below look types bound sources each.1 same in λ i. head i ∷ tail i

one_is : (look : Looks) (plan : PlanOf) (operators : List Operator) (op : ℕ) (types : List VarType) → IsTypedPlan look plan operators → AreTypes plan types
    → op < length plan.ops → ((n : ℕ) → n < op → type_at types n ≡ look n) → type_at types op ≡ look op
one_is look plan operators op types typed are below same = by_kind (typed.typed op (let e = typed.many in omega (arith, e, below)))
  where
    operator : Operator
    operator = get_or operators op no_operator

    come : source_types types (inputs_of plan op) ≡ source_kinds (type_at types) operator.inputs
    come = types_come look plan operators op types typed below

    bags : bag_inputs_of (op_at plan op).spec ≡ bag_inputs_of operator.spec
    bags = ap bag_inputs_of (typed.ops op).spec

    by_plain : IsPlain look op operator → IsTypedOperator plan types op → type_at types op ≡ look op
    by_plain plain is =
        let kinds = come ∙ kinds_below look types op operator.inputs plain.lower same in
        let captures : is.captures ≡ plain.captures
        = scalars_same is.captures plain.captures (sym is.scalars ∙ ((λ i. drop (bags i) (kinds i)) ∙ plain.scalars)) in
        let s = (typed.ops op).spec in
        ok_same (type_at types op) (look op) (sym is.gives ∙ ((λ i. typed_as (s i) (take (bags i) (kinds i)) (captures i)) ∙ plain.gives))

    by_kind : TypedOp look op operator → type_at types op ≡ look op
    by_kind (inl plain) =
        by_plain plain (of_false (HasOperands plan types op) (IsTypedOperator plan types op) (is_phi (op_at plan op)) (phi_of_none (op_at plan op) operator (typed.ops op).phi plain.no_phi) (are.each op below))
    by_kind (inr meeting) =
        let has = of_true (HasOperands plan types op) (IsTypedOperator plan types op) (is_phi (op_at plan op)) (phi_of_two (op_at plan op) operator (typed.ops op).phi meeting.phi) (are.each op below) in
        let listed = subst (All (λ type. type ≡ type_at types op)) (come ∙ ap (source_kinds (type_at types)) meeting.inputs) has in
        sym (listed 0 (bag []) (omega arith)) ∙ (same _ meeting.lower ∙ meeting.first_is)

all_are : (look : Looks) (plan : PlanOf) (operators : List Operator) (types : List VarType) → IsTypedPlan look plan operators → AreTypes plan types
    → (bound op : ℕ) → op < bound → op < length plan.ops → type_at types op ≡ look op
all_are look plan operators types typed are zero op below is_op = absurd (omega arith)
all_are look plan operators types typed are (suc bound) op below is_op =
    one_is look plan operators op types typed are is_op
    (λ n lower. all_are look plan operators types typed are bound n (omega (arith, below, lower)) (omega (arith, lower, is_op)))

pub types_are : (look : Looks) (plan : PlanOf) (operators : List Operator) (types : List VarType) → IsTypedPlan look plan operators → AreTypes plan types
    → (op : ℕ) → op < length plan.ops → type_at types op ≡ look op
types_are look plan operators types typed are op below = all_are look plan operators types typed are (suc op) op (omega arith) below

-- ---- routes

routes_in : (look : Looks) (plan : PlanOf) (types : List VarType) (op input bound : ℕ) (spec : OpSpec) (sources : List Source)
    → (op_at plan op).spec ≡ spec → is_phi (op_at plan op) ≡ false → Each (λ source. source.from < bound) sources
    → ((n : ℕ) → n < bound → type_at types n ≡ look n) → Routed look spec input sources
    → Each (λ edge. edge.route ≡ route_wanted plan types edge) (edges_in op input sources)
unfolding edges_in Each Routed
routes_in look plan types op input bound spec [] is none lower same routed = tt
routes_in look plan types op input bound spec (source ∷ sources) is none lower same routed =
    (at_one, routes_in look plan types op (suc input) bound spec sources is none lower.1 same routed.1)
  where
    at_one : source.route ≡ cond (is_phi (op_at plan op)) Forward (route_to (op_at plan op).spec input (length (type_at types source.from).cols))
    at_one =
        let k = same source.from lower.0 in
        rw none (routed.0 ∙ (λ i. route_to (sym is i) input (length (sym k i).cols)))

phi_routes : (plan : PlanOf) (types : List VarType) (op one other : ℕ) → is_phi (op_at plan op) ≡ true
    → Each (λ edge. edge.route ≡ route_wanted plan types edge)
    (edges_in op 0 (record { from = one; route = Forward } ∷ record { from = other; route = Forward } ∷ []))
unfolding edges_in Each
phi_routes plan types op one other is = (rw is refl, (rw is refl, tt))

pub routes_fit : (look : Looks) (plan : PlanOf) (operators : List Operator) → IsTypedPlan look plan operators → RoutesFit plan
routes_fit look plan operators typed = λ types are edge below.
    each_all (λ edge. edge.route ≡ route_wanted plan types edge) plan.edges
    (subst (Each (λ edge. edge.route ≡ route_wanted plan types edge)) (sym typed.edges)
    (each_edge (λ edge. edge.route ≡ route_wanted plan types edge) 0 operators (of_op types are))) edge no_edge below
  where
    of_op : (types : List VarType) → AreTypes plan types → (op : ℕ) → op < length operators
        → Each (λ edge. edge.route ≡ route_wanted plan types edge) (edges_in (0 + op) 0 (get_or operators op no_operator).inputs)
    of_op types are op below =
        let e : op ≡ 0 + op = omega arith in
        subst (λ (n : ℕ). Each (λ edge. edge.route ≡ route_wanted plan types edge) (edges_in n 0 (get_or operators op no_operator).inputs)) e
        (by_kind (typed.typed op below))
      where
        by_kind : TypedOp look op (get_or operators op no_operator)
            → Each (λ edge. edge.route ≡ route_wanted plan types edge) (edges_in op 0 (get_or operators op no_operator).inputs)
        by_kind (inl plain) =
            routes_in look plan types op 0 op (get_or operators op no_operator).spec (get_or operators op no_operator).inputs (typed.ops op).spec
            (phi_of_none (op_at plan op) (get_or operators op no_operator) (typed.ops op).phi plain.no_phi) plain.lower
            (λ n lower. types_are look plan operators types typed are n (let f = typed.many in omega (arith, f, below, lower))) plain.routes
        by_kind (inr meeting) =
            subst (λ (sources : List Source). Each (λ edge. edge.route ≡ route_wanted plan types edge) (edges_in op 0 sources)) (sym meeting.inputs)
            (phi_routes plan types op _ _ (phi_of_two (op_at plan op) (get_or operators op no_operator) (typed.ops op).phi meeting.phi))

-- ---- branches

-- a block's last operator is no phi, and gives a truth value
pub record DecidedAt (look : Looks) (from : ℕ) (operators : List Operator) (block : PlanBlock) : Type 0 where
  pub before : ℕ
  pub place : ℕ
  pub count : block.count ≡ before + 1
  pub at : block.first + before ≡ from + place
  pub below : place < length operators
  pub no_phi : (get_or operators place no_operator).phi ≡ 0
  pub truth : look (block.first + before) ≡ scalar Truth

pub branches_decide : (look : Looks) (plan : PlanOf) (operators : List Operator) → IsTypedPlan look plan operators
    → ((block : ℕ) → block < length plan.blocks → IsTrue (is_branch (block_at plan block).leave) → DecidedAt look 0 operators (block_at plan block))
    → BranchesDecide plan
branches_decide look plan operators typed decided = λ block below branch. at_block (block_at plan block) (decided block below branch)
  where
    at_block : (block : PlanBlock) → DecidedAt look 0 operators block → HasLast plan.ops block × GivesTruth plan block
    at_block block found = (
      record {
        some = (let e = found.count in omega (arith, e));
        no_phi = ap (λ (n : ℕ). is_phi (op_at plan n)) last_is
            ∙ phi_of_none (op_at plan found.place) (get_or operators found.place no_operator) (typed.ops found.place).phi found.no_phi;
      },
      (λ types are.
          ap (type_at types) last_is
          ∙ (types_are look plan operators types typed are found.place (let e = typed.many in let f = found.below in omega (arith, e, f))
          ∙ (ap look place_is ∙ found.truth))),
    )
      where
        last_is : last_of block ≡ found.place
        last_is = let e = found.count in let f = found.at in omega (arith, e, f)

        place_is : found.place ≡ block.first + found.before
        place_is = let f = found.at in omega (arith, f)

-- ---- the plan of blocks

at_left : {A : Type 0} (xs ys : List A) (k : ℕ) (d : A) → k < length xs → get_or (xs ++ ys) k d ≡ get_or xs k d
at_left [] ys k d below = absurd (omega arith)
at_left (x ∷ xs) ys zero d below = refl
at_left (x ∷ xs) ys (suc k) d below = at_left xs ys k d (omega arith)

at_right : {A : Type 0} (xs ys : List A) (k : ℕ) (d : A) → get_or (xs ++ ys) (length xs + k) d ≡ get_or ys k d
at_right [] ys k d = let e : 0 + k ≡ k = omega arith in ap (λ (n : ℕ). get_or ys n d) e
at_right (x ∷ xs) ys k d = let e : length (x ∷ xs) + k ≡ suc (length xs + k) = omega arith in ap (λ (n : ℕ). get_or ((x ∷ xs) ++ ys) n d) e ∙ at_right xs ys k d

kind_of_op : PlanOp → OpSpec × ℕ
kind_of_op op = (op.spec, op.phi)

kind_of_operator : Operator → OpSpec × ℕ
kind_of_operator operator = (operator.spec, operator.phi)

in_kinds : (block index : ℕ) (operators : List Operator) → map kind_of_op (ops_in block index operators) ≡ map kind_of_operator operators
unfolding ops_in kind_of_op kind_of_operator
in_kinds block index [] = refl
in_kinds block index (operator ∷ operators) = ap (λ (l : List (OpSpec × ℕ)). (operator.spec, operator.phi) ∷ l) (in_kinds block (suc index) operators)

map_joined : {A B : Type 0} (f : A → B) (xs ys : List A) → map f (xs ++ ys) ≡ map f xs ++ map f ys
map_joined f [] ys = refl
map_joined f (x ∷ xs) ys = ap (λ l. f x ∷ l) (map_joined f xs ys)

from_kinds : (block : ℕ) (blocks : List Block) → map kind_of_op (ops_from block blocks) ≡ map kind_of_operator (operators_of blocks)
unfolding ops_from
from_kinds block [] = refl
from_kinds block (it ∷ more) =
    let head = in_kinds block 0 it.operators in
    let tail = from_kinds (suc block) more in
    map_joined kind_of_op (ops_in block 0 it.operators) (ops_from (suc block) more)
    ∙ ((λ i. head i ++ tail i) ∙ sym (map_joined kind_of_operator it.operators (operators_of more)))

map_at : {A B : Type 0} (f : A → B) (xs : List A) (k : ℕ) (d : A) → get_or (map f xs) k (f d) ≡ f (get_or xs k d)
map_at f [] k d = refl
map_at f (x ∷ xs) zero d = refl
map_at f (x ∷ xs) (suc k) d = map_at f xs k d

op_is : (blocks : List Block) (k : ℕ) → IsOf (get_or (ops_from 0 blocks) k no_op) (get_or (operators_of blocks) k no_operator)
unfolding kind_of_op kind_of_operator
op_is blocks k = record { spec = ap (λ (p : OpSpec × ℕ). p.0) same; phi = ap (λ (p : OpSpec × ℕ). p.1) same }
  where
    same : kind_of_op (get_or (ops_from 0 blocks) k no_op) ≡ kind_of_operator (get_or (operators_of blocks) k no_operator)
    same = sym (map_at kind_of_op (ops_from 0 blocks) k no_op)
        ∙ (ap (λ (l : List (OpSpec × ℕ)). get_or l k (kind_of_op no_op)) (from_kinds 0 blocks) ∙ map_at kind_of_operator (operators_of blocks) k no_operator)

typed_all : (look : Looks) (number : ℕ) (blocks : List Block) (end : ℕ) → TypedBlocks look number blocks end → TypedOps look number (operators_of blocks)
unfolding TypedBlocks TypedOps
typed_all look number [] end typed = tt
typed_all look number (block ∷ blocks) end typed =
    ops_append look number block.operators (operators_of blocks) typed.0 (typed_all look (number + length block.operators) blocks end typed.1.1)

pub typed_end : (look : Looks) (number : ℕ) (blocks : List Block) (end : ℕ) → TypedBlocks look number blocks end → number + length (operators_of blocks) ≡ end
unfolding TypedBlocks
typed_end look number [] end typed = let e : number ≡ end = typed in omega (arith, e)
typed_end look number (block ∷ blocks) end typed =
    let e = typed_end look (number + length block.operators) blocks end typed.1.1 in
    let f = length-append block.operators (operators_of blocks) in omega (arith, e, f)

typed_at : (look : Looks) (number : ℕ) (operators : List Operator) (k : ℕ) → TypedOps look number operators → k < length operators
    → TypedOp look (number + k) (get_or operators k no_operator)
unfolding TypedOps
typed_at look number [] k typed below = absurd (omega arith)
typed_at look number (operator ∷ operators) zero typed below =
    let e : number ≡ number + 0 = omega arith in subst (λ (n : ℕ). TypedOp look n operator) e typed.0
typed_at look number (operator ∷ operators) (suc k) typed below =
    let e : number + 1 + k ≡ number + suc k = omega arith in
    subst (λ (n : ℕ). TypedOp look n (get_or operators k no_operator)) e (typed_at look (number + 1) operators k typed.1 (omega arith))

pub typed_plan : (look : Looks) (blocks : List Block) (end : ℕ) → TypedBlocks look 0 blocks end → IsTypedPlan look (plan_of_blocks blocks) (operators_of blocks)
typed_plan look blocks end typed = record {
  edges = refl;
  many = ops_length 0 blocks;
  ops = op_is blocks;
  typed = λ op below.
      let e : 0 + op ≡ op = omega arith in
      subst (λ (n : ℕ). TypedOp look n (get_or (operators_of blocks) op no_operator)) e
      (typed_at look 0 (operators_of blocks) op (typed_all look 0 blocks end typed) below);
}

pub decided_in : (look : Looks) (number : ℕ) (blocks : List Block) (end : ℕ) → TypedBlocks look number blocks end
    → (k : ℕ) → k < length (blocks_from number blocks) → IsTrue (is_branch (get_or (blocks_from number blocks) k no_block).leave)
    → DecidedAt look number (operators_of blocks) (get_or (blocks_from number blocks) k no_block)
unfolding TypedBlocks blocks_from
decided_in look number [] end typed k below branch = absurd (omega arith)
decided_in look number (block ∷ blocks) end typed zero below branch = here (typed.1.0 branch)
  where
    here : Last look number block.operators
        → DecidedAt look number (block.operators ++ operators_of blocks) (record { first = number; count = length block.operators; leave = block.leave })
    here found =
        let many : length block.operators ≡ length found.before + 1
        = ap (λ (l : List Operator). length l) found.is ∙ (let e = length-append found.before (found.last ∷ []) in omega (arith, e)) in
        let sized = length-append block.operators (operators_of blocks) in
        record {
          before = length found.before;
          place = length found.before;
          count = many;
          at = refl;
          below = omega (arith, many, sized);
          no_phi = ap (λ (o : Operator). o.phi)
              (at_left block.operators (operators_of blocks) (length found.before) no_operator (omega (arith, many))
              ∙ (ap (λ (l : List Operator). get_or l (length found.before) no_operator) found.is
              ∙ ((let e : length found.before ≡ length found.before + 0 = omega arith in
              ap (λ (n : ℕ). get_or (found.before ++ found.last ∷ []) n no_operator) e)
              ∙ at_right found.before (found.last ∷ []) 0 no_operator)))
              ∙ found.no_phi;
          truth = found.truth;
        }
decided_in look number (block ∷ blocks) end typed (suc k) below branch =
    later (decided_in look (number + length block.operators) blocks end typed.1.1 k (omega arith) branch)
  where
    later : DecidedAt look (number + length block.operators) (operators_of blocks) (get_or (blocks_from (number + length block.operators) blocks) k no_block)
        → DecidedAt look number (block.operators ++ operators_of blocks) (get_or (blocks_from (number + length block.operators) blocks) k no_block)
    later found =
        let sized = length-append block.operators (operators_of blocks) in
        record {
          before = found.before;
          place = length block.operators + found.place;
          count = found.count;
          at = (let e = found.at in omega (arith, e));
          below = (let e = found.below in omega (arith, e, sized));
          no_phi = ap (λ (o : Operator). o.phi) (at_right block.operators (operators_of blocks) found.place no_operator) ∙ found.no_phi;
          truth = found.truth;
        }
