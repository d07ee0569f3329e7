-- Types are forced: wherever types fit, an operator has the type that is found from those of what it takes.
use Rattle.std.proofs.Common.{◌≡◌, ◌≢◌, ◌∙◌, ◌<◌, ◌≤◌, ◌+◌, ℕ, zero, suc, List, [], ◌∷◌, ◌++◌, length, map, take, drop, get_or, ap, sym, subst, refl, arith, Bool, true, false, Option, Some, None, Ok, Err, All, MatchBool}
use Rattle.std.specs.Prelude.{Contains}
use Rattle.std.proofs.lemmas.Bool.{MatchBool-at_false, MatchBool-at_true}
use Rattle.std.proofs.lemmas.List.{get_or-map, length-map, map_more, take_all}
use Rattle.std.proofs.lemmas.List.Elements.{All-push, All-same}
use Rattle.std.proofs.lemmas.List.FromFn.{length-range_with_len}
use Rattle.std.proofs.lemmas.Simd.{map-map}
use Rattle.mit_rows.specs.declared.value.ColType.{ColType}
use Rattle.mit_ops.specs.Kinds.{bag_inputs_of, captures_of}
use Rattle.mit_ops.specs.Results.{AreBags, IsBagType, Refusal, Refuses, scalar, too_large, too_many_columns, typed_as, wrong_type}
use Rattle.mit_ops.specs.declared.kinds.OpSpec.{OpSpec}
use Rattle.mit_ops.specs.declared.types.OpRefused.{OpRefused}
use Rattle.mit_ops.specs.declared.types.OpRefused.TheVariants as refused
use Rattle.mit_ops.specs.declared.types.VarType.{VarType}
use Rattle.mit_plan.specs.Plans.{PlanOf, edge_at, edges_to, inputs_of, is_phi, no_edge, op_at}
use Rattle.mit_plan.specs.Types.{AreTypes, HasOperands, IsTypedOperator, source_types, type_at}
use Rattle.mit_plan.specs.Valid.{HasTypes, inputs_wanted}
use Rattle.mit_plan.specs.declared.plan.Edge.{Edge}
use Rattle.mit_valid.specs.Deciding.{ListsStand}
use Rattle.mit_valid.specs.Inferred.{Agree, AreInferred, GivesType, IsForced, LacksInputs, inferred_at, inferred_inputs}

-- types that fit are those that are inferred
pub all_agree : (plan : PlanOf) (inferred : List (Option VarType)) (types : List VarType) → AreInferred plan inferred → AreTypes plan types → Agree inferred types
all_agree plan inferred types are fit = record { each = λ op type is. (are.each op type is).only types fit }

-- ---- phis

-- the type of an operand is the phi's
pub operand_at : (plan : PlanOf) (types : List VarType) (op k : ℕ) (numbers : List ℕ) → HasOperands plan types op → numbers ≡ edges_to plan op → k < length numbers
    → type_at types (edge_at plan (get_or numbers k 0)).from ≡ type_at types op
operand_at plan types op k numbers operands same below =
    let f : Edge → VarType = λ edge. type_at types edge.from in
    let edges = map (edge_at plan) numbers in
    let within : k < length edges = omega (arith, below, length-map numbers (edge_at plan)) in
    let each : All (λ type. type ≡ type_at types op) (map f edges) = subst (λ (list : List ℕ). All (λ type. type ≡ type_at types op) (map f (map (edge_at plan) list))) (sym same) operands in
    ap f (sym (get_or-map (edge_at plan) numbers k 0 no_edge below))
    ∙ sym (get_or-map f edges k no_edge (type_at types op) within)
    ∙ each k (type_at types op) (omega (arith, within, length-map edges f))

pub phi_forced : (plan : PlanOf) (inferred : List (Option VarType)) (op k : ℕ) (numbers : List ℕ) (type : VarType) → AreInferred plan inferred → op < length plan.ops → is_phi (op_at plan op) ≡ true
    → numbers ≡ edges_to plan op → k < length numbers → inferred_at inferred (edge_at plan (get_or numbers k 0)).from ≡ Some type → IsForced plan inferred op type
phi_forced plan inferred op k numbers type are some phi same below is =
    let number = get_or numbers k 0 in
    let source = are.each (edge_at plan number).from type is in
    record {
      only = λ types fit.
          let operands = MatchBool-at_true (HasOperands plan types op) (IsTypedOperator plan types op) phi (fit.each op some) in
          sym (operand_at plan types op k numbers operands same below) ∙ source.only types fit;
      fits = λ plain types agree same. absurd cc;
      wide = source.wide;
    }

-- ---- other operators

-- the types of what an operator takes, by the numbers of its edges
pub inputs_by_number : (plan : PlanOf) (inferred : List (Option VarType)) (op : ℕ) → inferred_inputs plan inferred op ≡ map (λ number. inferred_at inferred (edge_at plan number).from) (edges_to plan op)
inputs_by_number plan inferred op = map-map (λ (edge : Edge). inferred_at inferred edge.from) (edge_at plan) (edges_to plan op)

-- where all are inferred, they are those of any types that agree
sources_are : (inferred : List (Option VarType)) (types : List VarType) (edges : List Edge) (sources : List VarType) → Agree inferred types → map (λ (edge : Edge). inferred_at inferred edge.from) edges ≡ map Some sources
    → source_types types edges ≡ sources
sources_are inferred types [] [] agree is = refl
sources_are inferred types [] (source ∷ sources) agree is = absurd cc
sources_are inferred types (edge ∷ edges) [] agree is = absurd cc
sources_are inferred types (edge ∷ edges) (source ∷ sources) agree is =
    let first : inferred_at inferred edge.from ≡ Some source = cc in
    let more : map (λ (one : Edge). inferred_at inferred one.from) edges ≡ map Some sources = cc in
    let here = agree.each edge.from source first in
    let rest = sources_are inferred types edges sources agree more in
    cc

same_scalars : (one other : List ColType) → map scalar one ≡ map scalar other → one ≡ other
same_scalars [] [] same = refl
same_scalars [] (column ∷ other) same = absurd cc
same_scalars (column ∷ one) [] same = absurd cc
same_scalars (column ∷ one) (second ∷ other) same =
    let first : scalar column ≡ scalar second = cc in
    let columns : column ∷ [] ≡ second ∷ [] = ap (λ (type : VarType). type.cols) first in
    let more : map scalar one ≡ map scalar other = cc in
    let rest = same_scalars one other more in
    cc

-- it gives one type at most
one_type : (spec : OpSpec) (sources : List VarType) (one other : VarType) → GivesType spec sources one → GivesType spec sources other → one ≡ other
one_type spec sources one other first second =
    let captures = same_scalars first.captures second.captures (sym first.scalars ∙ second.scalars) in
    let this = first.gives in
    let that = second.gives in
    cc

-- where types fit, it gives its type among them
gives_type : (plan : PlanOf) (inferred : List (Option VarType)) (types : List VarType) (op : ℕ) (sources : List VarType) → AreInferred plan inferred → AreTypes plan types → op < length plan.ops
    → is_phi (op_at plan op) ≡ false → inferred_inputs plan inferred op ≡ map Some sources → GivesType (op_at plan op).spec sources (type_at types op)
gives_type plan inferred types op sources are fit some plain is =
    let spec = (op_at plan op).spec in
    let typed : IsTypedOperator plan types op = MatchBool-at_false (HasOperands plan types op) (IsTypedOperator plan types op) plain (fit.each op some) in
    let same = sources_are inferred types (inputs_of plan op) sources (all_agree plan inferred types are fit) is in
    record {
      captures = typed.captures;
      scalars = ap (drop (bag_inputs_of spec)) (sym same) ∙ typed.scalars;
      gives = ap (λ (list : List VarType). typed_as spec (take (bag_inputs_of spec) list) typed.captures) (sym same) ∙ typed.gives;
    }

-- what it gives fits
fits_type : (plan : PlanOf) (types : List VarType) (op : ℕ) (sources : List VarType) (type : VarType) → source_types types (inputs_of plan op) ≡ sources → type_at types op ≡ type
    → GivesType (op_at plan op).spec sources type → IsTypedOperator plan types op
fits_type plan types op sources type from same given =
    let spec = (op_at plan op).spec in
    record {
      captures = given.captures;
      scalars = ap (drop (bag_inputs_of spec)) from ∙ given.scalars;
      gives = ap (λ (list : List VarType). typed_as spec (take (bag_inputs_of spec) list) given.captures) from ∙ given.gives ∙ ap Ok (sym same);
    }

pub plain_forced : (plan : PlanOf) (inferred : List (Option VarType)) (op : ℕ) (sources : List VarType) (type : VarType) → AreInferred plan inferred → op < length plan.ops
    → is_phi (op_at plan op) ≡ false → inferred_inputs plan inferred op ≡ map Some sources → GivesType (op_at plan op).spec sources type → IsBagType type → IsForced plan inferred op type
plain_forced plan inferred op sources type are some plain is given wide = record {
  only = λ types fit. one_type (op_at plan op).spec sources (type_at types op) type (gives_type plan inferred types op sources are fit some plain is) given;
  fits = λ no_phi types agree same. fits_type plan types op sources type (sources_are inferred types (inputs_of plan op) sources agree is) same given;
  wide = wide;
}

-- no types fit where it gives none
pub no_types : (plan : PlanOf) (inferred : List (Option VarType)) (op : ℕ) (sources : List VarType) → AreInferred plan inferred → op < length plan.ops
    → is_phi (op_at plan op) ≡ false → inferred_inputs plan inferred op ≡ map Some sources → ((type : VarType) → ¬ GivesType (op_at plan op).spec sources type) → ¬ HasTypes plan
no_types plan inferred op sources are some plain is none = λ has.
    none (type_at has.0 op) (gives_type plan inferred has.0 op sources are has.1 some plain is)

-- it gives none where what it captures is no scalar, or it is refused
pub not_scalars : (spec : OpSpec) (sources : List VarType) (type : VarType) → ((captures : List ColType) → drop (bag_inputs_of spec) sources ≢ map scalar captures) → ¬ GivesType spec sources type
not_scalars spec sources type none = λ given. none given.captures given.scalars

is_refused : (spec : OpSpec) (sources : List VarType) (captures : List ColType) (refusal : Refusal) (type : VarType) → drop (bag_inputs_of spec) sources ≡ map scalar captures
    → typed_as spec (take (bag_inputs_of spec) sources) captures ≡ Err refusal → ¬ GivesType spec sources type
is_refused spec sources captures refusal type scalars refused = λ given.
    let same = same_scalars given.captures captures (sym given.scalars ∙ scalars) in
    let gives = given.gives in
    absurd cc

pub refused_by : (spec : OpSpec) (sources : List VarType) (captures : List ColType) (why : OpRefused) (type : VarType) → drop (bag_inputs_of spec) sources ≡ map scalar captures
    → Refuses (typed_as spec (take (bag_inputs_of spec) sources) captures) why → why ≢ refused.NoMemory → ¬ GivesType spec sources type
refused_by spec sources captures refused.TooLarge type scalars due other = is_refused spec sources captures too_large type scalars due
refused_by spec sources captures refused.TooManyColumns type scalars due other = is_refused spec sources captures too_many_columns type scalars due
refused_by spec sources captures refused.WrongType type scalars due other = is_refused spec sources captures wrong_type type scalars due
refused_by spec sources captures refused.NoMemory type scalars due other = absurd (other refl)

-- ---- its inputs

-- what is inferred of one of them
source_at : (plan : PlanOf) (inferred : List (Option VarType)) (op : ℕ) (sources : List VarType) (k : ℕ) (d : VarType) (e : Edge) → inferred_inputs plan inferred op ≡ map Some sources → k < length sources
    → inferred_at inferred (get_or (inputs_of plan op) k e).from ≡ Some (get_or sources k d)
source_at plan inferred op sources k d e is below =
    let f : Edge → Option VarType = λ edge. inferred_at inferred edge.from in
    let many : length (inputs_of plan op) ≡ length sources = sym (length-map (inputs_of plan op) f) ∙ ap length is ∙ length-map sources Some in
    sym (get_or-map f (inputs_of plan op) k e None (omega (arith, many, below))) ∙ ap (λ (list : List (Option VarType)). get_or list k None) is ∙ get_or-map Some sources k d None below

pub sources_wide : (plan : PlanOf) (inferred : List (Option VarType)) (op : ℕ) (sources : List VarType) → AreInferred plan inferred → inferred_inputs plan inferred op ≡ map Some sources → AreBags sources
sources_wide plan inferred op sources are is = λ k d below.
    (are.each (get_or (inputs_of plan op) k no_edge).from (get_or sources k d) (source_at plan inferred op sources k d no_edge is below)).wide

pub enough_inputs : (plan : PlanOf) (inferred : List (Option VarType)) (op : ℕ) (sources : List VarType) → ListsStand plan → op < length plan.ops → is_phi (op_at plan op) ≡ false
    → inferred_inputs plan inferred op ≡ map Some sources → bag_inputs_of (op_at plan op).spec ≤ length sources
enough_inputs plan inferred op sources stand some plain is =
    let f : Edge → Option VarType = λ edge. inferred_at inferred edge.from in
    let input : Edge → ℕ = λ edge. edge.input in
    let many : length (inputs_of plan op) ≡ length sources = sym (length-map (inputs_of plan op) f) ∙ ap length is ∙ length-map sources Some in
    let wanted : length (inputs_of plan op) ≡ inputs_wanted (op_at plan op) =
    sym (length-map (inputs_of plan op) input) ∙ ap length (stand.inputs.each op some) ∙ length-range_with_len 0 (inputs_wanted (op_at plan op)) in
    let each : inputs_wanted (op_at plan op) ≡ bag_inputs_of (op_at plan op).spec + captures_of (op_at plan op).spec = rw plain in
    omega (arith, many, wanted, each)

-- ---- one by one

-- what is inferred of these, by the numbers of their edges
abbrev pub inferred_by : PlanOf → List (Option VarType) → ℕ → Option VarType
inferred_by plan inferred number = inferred_at inferred (edge_at plan number).from

pub none_more : (f : ℕ → Option VarType) (numbers : List ℕ) (k : ℕ) → k < length numbers → f (get_or numbers k 0) ≡ None → All (λ type. type ≡ None) (map f (take k numbers))
    → All (λ type. type ≡ None) (map f (take (k + 1) numbers))
none_more f numbers k below none before =
    All-same (λ type. type ≡ None) (map f (take (k + 1) numbers)) (map f (take k numbers) ++ f (get_or numbers k 0) ∷ []) (map_more f numbers k 0 below)
    (All-push (λ type. type ≡ None) (map f (take k numbers)) (f (get_or numbers k 0)) before none)

pub lacks_all : (plan : PlanOf) (inferred : List (Option VarType)) (op k : ℕ) (numbers : List ℕ) → is_phi (op_at plan op) ≡ true → numbers ≡ edges_to plan op → length numbers ≤ k
    → All (λ type. type ≡ None) (map (inferred_by plan inferred) (take k numbers)) → LacksInputs plan inferred op
lacks_all plan inferred op k numbers phi same all none =
    let inputs = inferred_inputs plan inferred op in
    let e : inputs ≡ map (inferred_by plan inferred) (take k numbers) =
    inputs_by_number plan inferred op ∙ ap (map (inferred_by plan inferred)) (sym same ∙ sym (take_all k numbers all)) in
    let each : All (λ type. type ≡ None) inputs = All-same (λ type. type ≡ None) inputs (map (inferred_by plan inferred) (take k numbers)) e none in
    subst (λ (is : Bool). MatchBool is (All (λ type. type ≡ None) inputs) (Contains inputs None)) (sym phi) each

-- one input of an operator is not inferred
pub lacks_one : (plan : PlanOf) (inferred : List (Option VarType)) (op k : ℕ) (numbers : List ℕ) → numbers ≡ edges_to plan op → k < length numbers → inferred_by plan inferred (get_or numbers k 0) ≡ None
    → Contains (inferred_inputs plan inferred op) None
lacks_one plan inferred op k numbers same below none =
    let f = inferred_by plan inferred in
    let here : get_or (map f numbers) k None ≡ None = get_or-map f numbers k 0 None below ∙ none in
    let there : Contains (map f numbers) None = (k, omega (arith, below, length-map numbers f), here) in
    subst (λ (list : List (Option VarType)). Contains list None) (sym (inputs_by_number plan inferred op ∙ ap (map f) (sym same))) there

pub lacks_input : (plan : PlanOf) (inferred : List (Option VarType)) (op : ℕ) → is_phi (op_at plan op) ≡ false → Contains (inferred_inputs plan inferred op) None → LacksInputs plan inferred op
lacks_input plan inferred op plain one =
    subst (λ (is : Bool). MatchBool is (All (λ type. type ≡ None) (inferred_inputs plan inferred op)) (Contains (inferred_inputs plan inferred op) None)) (sym plain) one

pub all_sources : (plan : PlanOf) (inferred : List (Option VarType)) (op k : ℕ) (numbers : List ℕ) (sources : List VarType) → numbers ≡ edges_to plan op → length numbers ≤ k
    → map (inferred_by plan inferred) (take k numbers) ≡ map Some sources → inferred_inputs plan inferred op ≡ map Some sources
all_sources plan inferred op k numbers sources same all are =
    inputs_by_number plan inferred op ∙ ap (map (inferred_by plan inferred)) (sym same ∙ sym (take_all k numbers all)) ∙ are

-- one type of a list is not a scalar's
pub not_each_scalar : (types : List VarType) (k : ℕ) (is : VarType) (columns : List ColType) → k < length types → is ≡ get_or types k is → ((column : ColType) → is ≢ scalar column) → types ≢ map scalar columns
not_each_scalar (type ∷ types) zero is [] below here none = λ same. absurd cc
not_each_scalar (type ∷ types) zero is (column ∷ columns) below here none = λ same. none column (here ∙ first same)
  where
    first : type ∷ types ≡ scalar column ∷ map scalar columns → type ≡ scalar column
    first same = cc
not_each_scalar (type ∷ types) (suc k) is [] below here none = λ same. absurd cc
not_each_scalar (type ∷ types) (suc k) is (column ∷ columns) below here none = λ same.
    not_each_scalar types k is columns (omega (arith, below)) here none (rest same)
  where
    rest : type ∷ types ≡ scalar column ∷ map scalar columns → types ≡ map scalar columns
    rest same = cc
not_each_scalar [] k is columns below here none = absurd (omega (arith, below))
