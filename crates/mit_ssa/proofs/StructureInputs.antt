-- Operators of a script's plan: phis, the edges of each operator, and that no edge comes from a write.
use Rattle.std.proofs.Common.{◌≡◌, ◌∙◌, ◌<◌, ◌+◌, ◌≢◌, ℕ, suc, List, [], ◌∷◌, ◌++◌, length, get_or, map, ap, sym, subst, refl, arith, true, inl, inr, ⊎_elim, Ok}
use Rattle.std.specs.Prelude.{◌⊎◌, All, nat_lt, if◌then◌else◌}
use Rattle.std.specs.List.{flat_map, range_with_len}
use Rattle.std.proofs.lemmas.List.{append-nil, get_or-map, map-append, nil_from_length}
use Rattle.std.proofs.lemmas.List.Elements.{All-nil, All-weaker}
use Rattle.mit_ops.specs.Kinds.{bag_inputs_of, captures_of, kind_of}
use Rattle.mit_ops.specs.declared.kinds.OpSpec.TheVariants.{Copy}
use Rattle.mit_ops.specs.declared.leave.Leave.TheVariants.{End}
use Rattle.mit_ops.specs.declared.types.VarType.{VarType}
use Rattle.mit_plan.specs.Plans.{PlanOf, is_phi, no_edge, no_op, op_at}
use Rattle.mit_plan.specs.Valid.{HasEdges, InputsHaveEdges, PhisCopy, WritesGiveNothing, inputs_wanted}
use Rattle.mit_plan.specs.declared.plan.Edge.{Edge}
use Rattle.mit_plan.specs.declared.plan.PlanOp.{PlanOp}
use Rattle.mit_script.specs.Accepted.{checked}
use Rattle.mit_script.specs.Trees.{IsFormed, heads_in}
use Rattle.mit_script.specs.declared.tree.Script.{Script}
use Rattle.mit_script.specs.declared.tree.Stmt.{Stmt}
use Rattle.mit_ssa.specs.PlanFor.{operators_of, ops_from, ops_in, plan_for, plan_of_blocks}
use Rattle.mit_ssa.specs.Woven.{WeavePlace, just_left, start_place, weave_of, woven_all, woven_blocks}
use Rattle.mit_ssa.specs.declared.block.Block.{Block}
use Rattle.mit_ssa.specs.declared.block.Operator.{Operator}
use Rattle.mit_ssa.specs.declared.block.Source.{Source}
use Rattle.mit_ssa.proofs.StructureEach.{Each, each_made}
use Rattle.mit_ssa.proofs.StructureEdges.{inputs_numbered, inputs_there, no_operator, sources_all, targets_all}
use Rattle.mit_ssa.proofs.StructureFirst.{begins}
use Rattle.mit_ssa.proofs.StructureLists.{length-ops_from}
use Rattle.mit_ssa.proofs.StructureOperators.{AreSown, ComesFrom, Fair, HasForm, Numbered, Starts, StartsWell, block_sown}

-- ---- the operators of a plan are those of the blocks

-- an operator but for its place
abbrev bare : PlanOp → PlanOp
bare one = record { block = 0; index = 0; statement = one.statement; spec = one.spec; phi = one.phi }

abbrev as_op : Operator → PlanOp
as_op operator = record { block = 0; index = 0; statement = operator.statement; spec = operator.spec; phi = operator.phi }

bare_in : (operators : List Operator) (block index : ℕ) → map bare (ops_in block index operators) ≡ map as_op operators
unfolding ops_in
bare_in [] block index = refl
bare_in (operator ∷ operators) block index = ap (λ list. as_op operator ∷ list) (bare_in operators block (suc index))

bare_from : (blocks : List Block) (number : ℕ) → map bare (ops_from number blocks) ≡ map as_op (operators_of blocks)
unfolding ops_from
bare_from [] number = refl
bare_from (block ∷ blocks) number =
    map-append bare (ops_in number 0 block.operators) (ops_from (suc number) blocks)
    ∙ ap (λ list. list ++ map bare (ops_from (suc number) blocks)) (bare_in block.operators number 0)
    ∙ ap (λ list. map as_op block.operators ++ list) (bare_from blocks (suc number))
    ∙ sym (map-append as_op block.operators (operators_of blocks))

pub op_is : (blocks : List Block) (op : ℕ) → op < length (operators_of blocks)
    → bare (op_at (plan_of_blocks blocks) op) ≡ as_op (get_or (operators_of blocks) op no_operator)
op_is blocks op short =
    let a = length-ops_from blocks 0 in let within : op < length (ops_from 0 blocks) = omega (arith, a, short) in
    sym (get_or-map bare (ops_from 0 blocks) op no_op no_op within)
    ∙ ap (λ list. get_or list op no_op) (bare_from blocks 0)
    ∙ get_or-map as_op (operators_of blocks) op no_operator no_op short

-- ---- which numbers are good

-- an operator of this number is no write
abbrev Gives : PlanOf → ℕ → Type 0
Gives plan op = (op < length plan.ops) × (kind_of (op_at plan op).spec ≢ 14)

numbered_all : (blocks : List Block) → Each (Numbered (Gives (plan_of_blocks blocks))) 0 (operators_of blocks)
numbered_all blocks = each_made (Numbered (Gives plan)) (operators_of blocks) 0 no_operator (λ i short differs.
    let a = length-ops_from blocks 0 in let e : i ≡ 0 + i = omega arith in
    let within : i < length (ops_from 0 blocks) = omega (arith, a, short) in
    let same = ap (λ (one : PlanOp). kind_of one.spec) (op_is blocks i short) in
    subst (Gives plan) e (within, λ is. differs (sym same ∙ is)))
  where
    plan : PlanOf
    plan = plan_of_blocks blocks

-- ---- the operators of a script

none_woven : (place : WeavePlace) → (woven_all [] place).operator ≡ place.operator
unfolding woven_all
none_woven place = refl

sown_in : (plan : PlanOf) (types : List VarType) (body : List Stmt) → AreSown (Gives plan) (map (weave_of types) body) (flat_map heads_in body)
sown_in plan types body = block_sown (Gives plan) types body

operators_whole : (script : Script) (types : List VarType)
    → operators_of (woven_blocks script types) ≡ (sown_in (plan_for script types) types script.body).ops start_place
operators_whole script types =
    let sown = sown_in (plan_for script types) types script.body in sown.is start_place (just_left End) ∙ append-nil (sown.ops start_place)

all_fair : (script : Script) (types : List VarType) → IsFormed script → All (Fair (Gives (plan_for script types))) (operators_of (woven_blocks script types))
all_fair script types formed =
    let plan = plan_for script types in let sown = sown_in plan types script.body in
    let whole = operators_whole script types in
    subst (λ list. All (Fair (Gives plan)) list) (sym whole)
    (sown.holds (length script.names) formed.formed start_place
    (subst (λ list. Each (Numbered (Gives plan)) 0 list) whole (numbered_all (woven_blocks script types)))
    (λ variable number is. absurd (cc is))).0

first_gives : (good : ℕ → Type 0) (operators : List Operator) → StartsWell operators → Each (Numbered good) 0 operators → good 0
first_gives good [] well each = absurd well
first_gives good (operator ∷ operators) well each = each.0 well

-- of no statements
nothing_sown : (plan : PlanOf) (types : List VarType) → (sown_in plan types []).ops start_place ≡ []
nothing_sown plan types = nil_from_length ((sown_in plan types []).ops start_place) (let a = (sown_in plan types []).many start_place in omega (arith, a, none_woven start_place))

-- there is no operator, or the first one is no write
zero_gives : (script : Script) (types : List VarType) → IsFormed script → checked script ≡ Ok types
    → (operators_of (woven_blocks script types) ≡ []) ⊎ Gives (plan_for script types) 0
zero_gives script types formed accepted =
    ⊎_elim (λ none. inl (operators_whole script types ∙ nothing script.body none)) (λ starts. inr (first starts))
    (begins script.names script.body types (length script.names) formed.formed accepted)
  where
    plan : PlanOf
    plan = plan_for script types

    nothing : (body : List Stmt) → body ≡ [] → (sown_in plan types body).ops start_place ≡ []
    nothing body none = ap (λ some. (sown_in plan types some).ops start_place) none ∙ nothing_sown plan types

    first : Starts (flat_map heads_in script.body) → Gives plan 0
    first starts =
        let sown = sown_in plan types script.body in
        first_gives (Gives plan) (sown.ops start_place) (sown.starts (length script.names) formed.formed starts start_place)
        (subst (λ list. Each (Numbered (Gives plan)) 0 list) (operators_whole script types) (numbered_all (woven_blocks script types)))

sources_give : (plan : PlanOf) (operators : List Operator) → (operators ≡ []) ⊎ Gives plan 0 → All (Fair (Gives plan)) operators
    → All (λ operator. All (λ source. Gives plan source.from) operator.inputs) operators
sources_give plan operators (inl none) fair =
    subst (λ list. All (λ (operator : Operator). All (λ (source : Source). Gives plan source.from) operator.inputs) list) (sym none)
    (All-nil (λ (operator : Operator). All (λ (source : Source). Gives plan source.from) operator.inputs))
sources_give plan operators (inr first) fair =
    All-weaker (Fair (Gives plan)) (λ operator. All (λ source. Gives plan source.from) operator.inputs)
    (λ operator one. All-weaker (ComesFrom (Gives plan)) (λ source. Gives plan source.from)
    (λ source. ⊎_elim (λ is. subst (Gives plan) (sym is) first) (λ gives. gives)) operator.inputs one.sources)
    operators fair

edges_give : (script : Script) (types : List VarType) → IsFormed script → checked script ≡ Ok types
    → All (λ edge. Gives (plan_for script types) edge.from) (plan_for script types).edges
edges_give script types formed accepted =
    let plan = plan_for script types in let operators = operators_of (woven_blocks script types) in
    sources_all (Gives plan) operators 0 (sources_give plan operators (zero_gives script types formed accepted) (all_fair script types formed))

pub writes_give_nothing : (script : Script) (types : List VarType) → IsFormed script → checked script ≡ Ok types → WritesGiveNothing (plan_for script types)
writes_give_nothing script types formed accepted edge less = (edges_give script types formed accepted edge no_edge less).1

-- ---- phis and inputs

form_at : (script : Script) (types : List VarType) → IsFormed script → (op : ℕ) → op < length (operators_of (woven_blocks script types))
    → HasForm (get_or (operators_of (woven_blocks script types)) op no_operator)
form_at script types formed op short = (all_fair script types formed op no_operator short).form

within : (script : Script) (types : List VarType) (op : ℕ) → op < length (plan_for script types).ops → op < length (operators_of (woven_blocks script types))
within script types op less = let a = length-ops_from (woven_blocks script types) 0 in omega (arith, a, less)

-- of an operator and what stands for it in a plan
copies : (one : PlanOp) (operator : Operator) → bare one ≡ as_op operator → HasForm operator → is_phi one ≡ true → one.spec ≡ Copy
copies one operator same (inl phi) is = ap (λ (some : PlanOp). some.spec) same ∙ phi.1
copies one operator same (inr other) is = absurd (cc (sym is ∙ ap (λ (some : PlanOp). is_phi some) same ∙ ap (λ n. nat_lt 0 n) other.0))

wanted_is : (operator : Operator) → HasForm operator → length operator.inputs ≡ inputs_wanted (as_op operator)
wanted_is operator (inl phi) = phi.2 ∙ sym (ap (λ n. if nat_lt 0 n then n else bag_inputs_of operator.spec + captures_of operator.spec) phi.0)
wanted_is operator (inr other) = other.1 ∙ sym (ap (λ n. if nat_lt 0 n then n else bag_inputs_of operator.spec + captures_of operator.spec) other.0)

wanted : (one : PlanOp) (operator : Operator) → bare one ≡ as_op operator → HasForm operator → length operator.inputs ≡ inputs_wanted one
wanted one operator same form = wanted_is operator form ∙ ap (λ (some : PlanOp). inputs_wanted some) (sym same)

not_one : (one : PlanOp) (operator : Operator) → bare one ≡ as_op operator → HasForm operator → one.phi ≢ 1
not_one one operator same (inl phi) is = let a = ap (λ (some : PlanOp). some.phi) same in let b = phi.0 in omega (arith, a, b, is)
not_one one operator same (inr other) is = let a = ap (λ (some : PlanOp). some.phi) same in let b = other.0 in omega (arith, a, b, is)

pub phis_copy : (script : Script) (types : List VarType) → IsFormed script → PhisCopy (plan_for script types)
phis_copy script types formed op less is =
    let short = within script types op less in
    copies (op_at (plan_for script types) op) (get_or (operators_of (woven_blocks script types)) op no_operator)
    (op_is (woven_blocks script types) op short) (form_at script types formed op short) is

has_edges : (script : Script) (types : List VarType) → IsFormed script → (op : ℕ) → op < length (plan_for script types).ops → HasEdges (plan_for script types) op
has_edges script types formed op less =
    let blocks = woven_blocks script types in let operator = get_or (operators_of blocks) op no_operator in let short = within script types op less in
    ap (λ list. map (λ (edge : Edge). edge.input) list) (inputs_there blocks op short)
    ∙ inputs_numbered op operator.inputs 0
    ∙ ap (λ n. range_with_len 0 n) (wanted (op_at (plan_for script types) op) operator (op_is blocks op short) (form_at script types formed op short))

pub inputs_have_edges : (script : Script) (types : List VarType) → IsFormed script → checked script ≡ Ok types → InputsHaveEdges (plan_for script types)
inputs_have_edges script types formed accepted = record {
  name = λ edge less.
      let a = length-ops_from (woven_blocks script types) 0 in
      let all = length (ops_from 0 (woven_blocks script types)) in
      record {
        from = (edges_give script types formed accepted edge no_edge less).0;
        to = targets_all (operators_of (woven_blocks script types)) 0 all (omega (arith, a)) edge no_edge less;
      };
  each = has_edges script types formed;
  phis = λ op less.
      let short = within script types op less in
      not_one (op_at (plan_for script types) op) (get_or (operators_of (woven_blocks script types)) op no_operator)
      (op_is (woven_blocks script types) op short) (form_at script types formed op short);
}
