-- Devices of the proofs: nobody has to believe them. Operators whose types fit, by a type for each number.
use Rattle.std.proofs.Common.{◌≡◌, ◌∙◌, ◌<◌, ◌≤◌, ◌+◌, ◌&&◌, ◌||◌, ℕ, zero, suc, List, [], ◌∷◌, ◌++◌, length, map, take, drop, flat_map, ap, sym, subst, refl, arith, cond, eqb, eqb-true, Bool, true, false, Some, is_some, IsTrue, Result, Ok, ◌⊎◌, inr, length-append}
use Rattle.std.specs.List.{list_all}
use Rattle.std.proofs.lemmas.Bool.{and_parts}
use Rattle.mit_rows.specs.declared.value.ColType.{ColType}
use Rattle.mit_rows.specs.declared.value.ColType.TheVariants.{Bool as Truth}
use Rattle.mit_ops.specs.Kinds.{bag_inputs_of}
use Rattle.mit_ops.specs.Results.{Refusal, scalar, typed_as}
use Rattle.mit_ops.specs.Routes.{route_to}
use Rattle.mit_ops.specs.declared.kinds.OpSpec.{OpSpec}
use Rattle.mit_ops.specs.declared.leave.Leave.TheVariants.{Jump}
use Rattle.mit_ops.specs.declared.types.VarType.{VarType}
use Rattle.mit_plan.specs.Valid.{is_branch}
use Rattle.mit_script.specs.Accepted.{Known, captured_args, is_assigned, type_of}
use Rattle.mit_ssa.specs.Woven.{Defined, Weave, WovenStretch, assigned_in, defined_operand, defining, definition_of, inputs_from, join_phis, just_left, loop_phis, on_both, operator_of, operators_first, phis_of, stretch_blocks, width_of, with_phis}
use Rattle.mit_ssa.specs.declared.block.Block.{Block}
use Rattle.mit_ssa.specs.declared.block.Operator.{Operator}
use Rattle.mit_ssa.specs.declared.block.Source.{Source}
use Rattle.mit_ssa.proofs.DefinitionsPhis.{Each, each_chosen, one_some}
use Rattle.mit_ssa.proofs.DefinitionsReady.{Ready, marked_below}
use Rattle.mit_ssa.proofs.DefinitionsGood.{definition_is}
use Rattle.mit_ssa.proofs.DefinitionsEnds.{both_parts}
use Rattle.mit_ssa.proofs.TypesReady.{Agrees, Firsts, Judged, type_in, typed_variable}

-- a type for each operator's number
abbrev pub Looks : Type 0
Looks = ℕ → VarType

unfoldable pub Given : Looks → ℕ → List VarType → Type 0
Given look number [] = Unit {0}
Given look number (kind ∷ kinds) = (look number ≡ kind) × Given look (number + 1) kinds

pub given_split : (look : Looks) (number : ℕ) (xs ys : List VarType) → Given look number (xs ++ ys) → Given look number xs × Given look (number + length xs) ys
unfolding Given
given_split look number [] ys given = (tt, (let e : number ≡ number + 0 = omega arith in subst (λ (n : ℕ). Given look n ys) e given))
given_split look number (x ∷ xs) ys given =
    let rest = given_split look (number + 1) xs ys given.1 in
    let e : number + 1 + length xs ≡ number + length (x ∷ xs) = omega arith in
    ((given.0, rest.0), subst (λ (n : ℕ). Given look n ys) e rest.1)

-- ---- operators

abbrev pub source_kinds : Looks → List Source → List VarType
source_kinds look sources = map (λ source. look source.from) sources

unfoldable pub Routed : Looks → OpSpec → ℕ → List Source → Type 0
Routed look operator input [] = Unit {0}
Routed look operator input (source ∷ sources) =
    (source.route ≡ route_to operator input (length (look source.from).cols)) × Routed look operator (suc input) sources

-- an operator that is no phi
pub record IsPlain (look : Looks) (number : ℕ) (operator : Operator) : Type 0 where
  pub no_phi : operator.phi ≡ 0
  pub lower : Each (λ source. source.from < number) operator.inputs
  pub captures : List ColType
  pub scalars : drop (bag_inputs_of operator.spec) (source_kinds look operator.inputs) ≡ map scalar captures
  pub gives : typed_as operator.spec (take (bag_inputs_of operator.spec) (source_kinds look operator.inputs)) captures ≡ Ok (look number)
  pub routes : Routed look operator.spec 0 operator.inputs

-- a phi
pub record IsMeeting (look : Looks) (number : ℕ) (operator : Operator) : Type 0 where
  pub phi : operator.phi ≡ 2
  pub variable : ℕ
  pub first : Defined
  pub second : Defined
  pub inputs : operator.inputs ≡ defined_operand first variable ∷ defined_operand second variable ∷ []
  pub lower : definition_of first variable < number
  pub first_is : look (definition_of first variable) ≡ look number
  pub second_is : look (definition_of second variable) ≡ look number

abbrev pub TypedOp : Looks → ℕ → Operator → Type 0
TypedOp look number operator = IsPlain look number operator ⊎ IsMeeting look number operator

unfoldable pub TypedOps : Looks → ℕ → List Operator → Type 0
TypedOps look number [] = Unit {0}
TypedOps look number (operator ∷ operators) = TypedOp look number operator × TypedOps look (number + 1) operators

-- the last operator, which is no phi, gives a truth value
pub record Last (look : Looks) (number : ℕ) (operators : List Operator) : Type 0 where
  pub before : List Operator
  pub last : Operator
  pub is : operators ≡ before ++ last ∷ []
  pub no_phi : last.phi ≡ 0
  pub truth : look (number + length before) ≡ scalar Truth

abbrev pub Decides : Looks → ℕ → Block → Type 0
Decides look number block = IsTrue (is_branch block.leave) → Last look number block.operators

unfoldable pub TypedBlocks : Looks → ℕ → List Block → ℕ → Type 0
TypedBlocks look number [] end = number ≡ end
TypedBlocks look number (block ∷ blocks) end =
    TypedOps look number block.operators × (Decides look number block × TypedBlocks look (number + length block.operators) blocks end)

pub ops_append : (look : Looks) (number : ℕ) (xs ys : List Operator) → TypedOps look number xs → TypedOps look (number + length xs) ys
    → TypedOps look number (xs ++ ys)
unfolding TypedOps
ops_append look number [] ys first second = let e : number + 0 ≡ number = omega arith in subst (λ (n : ℕ). TypedOps look n ys) e second
ops_append look number (x ∷ xs) ys first second =
    let e : number + length (x ∷ xs) ≡ number + 1 + length xs = omega arith in
    (first.0, ops_append look (number + 1) xs ys first.1 (subst (λ (n : ℕ). TypedOps look n ys) e second))

pub typed_append : (look : Looks) (number : ℕ) (xs ys : List Block) (middle end : ℕ) → TypedBlocks look number xs middle → TypedBlocks look middle ys end
    → TypedBlocks look number (xs ++ ys) end
unfolding TypedBlocks
typed_append look number [] ys middle end first second = subst (λ (n : ℕ). TypedBlocks look n ys end) (sym first) second
typed_append look number (x ∷ xs) ys middle end first second =
    (first.0, (first.1.0, typed_append look (number + length x.operators) xs ys middle end first.1.1 second))

pub typed_precede : (look : Looks) (number end : ℕ) (operators : List Operator) (stretch : WovenStretch) → TypedOps look number operators
    → TypedBlocks look (number + length operators) (stretch_blocks stretch) end → TypedBlocks look number (stretch_blocks (operators_first operators stretch)) end
unfolding TypedBlocks
typed_precede look number end operators stretch first second =
    let e : number + length operators + length stretch.first.operators ≡ number + length (operators ++ stretch.first.operators)
    = (let f = length-append operators stretch.first.operators in omega (arith, f)) in (
      ops_append look number operators stretch.first.operators first second.0,
      ((λ branch. further (second.1.0 branch)), subst (λ (n : ℕ). TypedBlocks look n stretch.later end) e second.1.1),
    )
  where
    joined : (xs ys zs : List Operator) → xs ++ (ys ++ zs) ≡ (xs ++ ys) ++ zs
    joined [] ys zs = refl
    joined (x ∷ xs) ys zs = ap (λ (l : List Operator). x ∷ l) (joined xs ys zs)

    further : Last look (number + length operators) stretch.first.operators → Last look number (operators ++ stretch.first.operators)
    further found =
        let e : number + length operators + length found.before ≡ number + length (operators ++ found.before)
        = (let f = length-append operators found.before in omega (arith, f)) in
        record {
          before = operators ++ found.before;
          last = found.last;
          is = ap (λ (l : List Operator). operators ++ l) found.is ∙ joined operators found.before (found.last ∷ []);
          no_phi = found.no_phi;
          truth = ap look (sym e) ∙ found.truth;
        }

pub no_branch : false ≡ true → ⊥
no_branch is = cc

pub typed_left : (look : Looks) (number next : ℕ) → TypedBlocks look number (stretch_blocks (just_left (Jump next))) number
unfolding TypedBlocks TypedOps
typed_left look number next = (tt, ((λ branch. absurd (no_branch branch)), omega arith))

-- ---- what is defined

-- each variable's operator has a lower number, and the variable's type
abbrev pub Env : List VarType → Looks → ℕ → Defined → Type 0
Env types look number defined =
    (variable operator : ℕ) → variable < length types → defined variable ≡ Some operator → (operator < number) × (look operator ≡ type_in types variable)

pub env_more : (types : List VarType) (look : Looks) (number later : ℕ) (defined : Defined) → number ≤ later → Env types look number defined → Env types look later defined
env_more types look number later defined more env = λ variable operator below is.
    let found = env variable operator below is in let f = found.0 in (omega (arith, more, f), found.1)

pub env_defining : (types : List VarType) (look : Looks) (number : ℕ) (defined : Defined) (target : ℕ)
    → (target < length types → look number ≡ type_in types target) → Env types look number defined → Env types look (number + 1) (defining defined target number)
env_defining types look number defined target is env = λ variable operator below some. by_test variable operator below (eqb variable target) refl some
  where
    by_test : (variable operator : ℕ) → variable < length types → (same : Bool) → eqb variable target ≡ same
        → cond same (Some number) (defined variable) ≡ Some operator → (operator < number + 1) × (look operator ≡ type_in types variable)
    by_test variable operator below true same some =
        let e : variable ≡ target = eqb-true variable target same in
        let f = one_some number operator some in (
          omega (arith, f),
          ap look (sym f) ∙ (is (omega (arith, e, below)) ∙ ap (type_in types) (sym e)),
        )
    by_test variable operator below false same some =
        let found = env variable operator below some in let f = found.0 in (omega (arith, f), found.1)

pub env_phis : (types : List VarType) (look : Looks) (number : ℕ) (mid : Defined) (phis : List ℕ) → Given look number (map (type_in types) phis)
    → Env types look number mid → Env types look (number + length phis) (with_phis mid number phis)
unfolding with_phis Given
env_phis types look number mid [] given env = env_more types look number (number + 0) mid (omega arith) env
env_phis types look number mid (phi ∷ phis) given env =
    let e : number + 1 ≡ suc number = omega arith in
    let f : suc number + length phis ≡ number + length (phi ∷ phis) = omega arith in
    subst (λ (n : ℕ). Env types look n (with_phis (defining mid phi number) (suc number) phis)) f
    (env_phis types look (suc number) (defining mid phi number) phis (subst (λ (n : ℕ). Given look n (map (type_in types) phis)) e given.1)
    (subst (λ (n : ℕ). Env types look n (defining mid phi number)) e (env_defining types look number mid phi (λ below. given.0) env)))

pub env_both : (types : List VarType) (look : Looks) (number : ℕ) (one other : Defined) → Env types look number one → Env types look number (on_both one other)
env_both types look number one other env = λ variable operator below is.
    env variable operator below (both_parts (one variable) (other variable) operator is).first

-- ---- phis

-- of a variable that is defined on both ways
abbrev pub IsChosen : List VarType → Defined → Defined → ℕ → Type 0
IsChosen types one other variable = (variable < length types) × ((is_some (one variable) ≡ true) × (is_some (other variable) ≡ true))

pub phis_typed : (types : List VarType) (look : Looks) (number start far : ℕ) (one other : Defined) (phis : List ℕ) → start ≤ number → Env types look start one
    → Env types look far other → Each (IsChosen types one other) phis → Given look number (map (type_in types) phis)
    → TypedOps look number (phis_of one other phis)
unfolding TypedOps Each Given
phis_typed types look number start far one other [] from env_one env_other chosen given = tt
phis_typed types look number start far one other (phi ∷ phis) from env_one env_other chosen given =
    let first = env_one phi (definition_of one phi) chosen.0.0 (definition_is one phi chosen.0.1.0) in
    let second = env_other phi (definition_of other phi) chosen.0.0 (definition_is other phi chosen.0.1.1) in (
      inr (record {
        phi = refl;
        variable = phi;
        first = one;
        second = other;
        inputs = refl;
        lower = (let f = first.0 in omega (arith, f, from));
        first_is = first.1 ∙ sym given.0;
        second_is = second.1 ∙ sym given.0;
      }),
      phis_typed types look (number + 1) start far one other phis (omega (arith, from)) env_one env_other chosen.1 given.1,
    )

pub each_change : (P Q : ℕ → Type 0) (xs : List ℕ) → ((x : ℕ) → P x → Q x) → Each P xs → Each Q xs
unfolding Each
each_change P Q [] change each = tt
each_change P Q (x ∷ xs) change each = (change x each.0, each_change P Q xs change each.1)

pub join_chosen : (types : List VarType) (on_true on_false : List Weave) (one other : Defined)
    → Each (IsChosen types one other) (join_phis (length types) on_true on_false one other)
join_chosen types on_true on_false one other =
    each_change (λ v. (v < length types) × (p v ≡ true)) (IsChosen types one other) (join_phis (length types) on_true on_false one other)
    (λ v is.
    let parts = and_parts ((assigned_in on_true v || assigned_in on_false v) && is_some (one v)) (is_some (other v)) is.1 in
    (is.0, ((and_parts (assigned_in on_true v || assigned_in on_false v) (is_some (one v)) parts.0).1, parts.1)))
    (each_chosen p (length types) 0 (length types) (omega arith))
  where
    p : ℕ → Bool
    p v = (assigned_in on_true v || assigned_in on_false v) && is_some (one v) && is_some (other v)

pub loop_chosen : (types : List VarType) (body : List Weave) (env turn : Defined)
    → ((v : ℕ) → is_some (env v) ≡ true → is_some (turn v) ≡ true) → Each (IsChosen types env turn) (loop_phis (length types) body env)
loop_chosen types body env turn stays =
    each_change (λ v. (v < length types) × (p v ≡ true)) (IsChosen types env turn) (loop_phis (length types) body env)
    (λ v is. let parts = and_parts (assigned_in body v) (is_some (env v)) is.1 in (is.0, (parts.1, stays v parts.1)))
    (each_chosen p (length types) 0 (length types) (omega arith))
  where
    p : ℕ → Bool
    p v = assigned_in body v && is_some (env v)

pub phis_length : (one other : Defined) (phis : List ℕ) → length (phis_of one other phis) ≡ length phis
phis_length one other [] = refl
phis_length one other (phi ∷ phis) = ap suc (phis_length one other phis)

pub kinds_length : (types : List VarType) (phis : List ℕ) → length (map (type_in types) phis) ≡ length phis
kinds_length types [] = refl
kinds_length types (phi ∷ phis) = ap suc (kinds_length types phis)

-- ---- the operator of a statement

map_taken : {A B : Type 0} (f : A → B) (count : ℕ) (xs : List A) → take count (map f xs) ≡ map f (take count xs)
map_taken f zero xs = refl
map_taken f (suc count) [] = refl
map_taken f (suc count) (x ∷ xs) = ap (λ l. f x ∷ l) (map_taken f count xs)

map_dropped : {A B : Type 0} (f : A → B) (count : ℕ) (xs : List A) → drop count (map f xs) ≡ map f (drop count xs)
map_dropped f zero xs = refl
map_dropped f (suc count) [] = refl
map_dropped f (suc count) (x ∷ xs) = map_dropped f count xs

all_dropped : (p : ℕ → Bool) (count : ℕ) (xs : List ℕ) → list_all p xs ≡ true → list_all p (drop count xs) ≡ true
all_dropped p zero xs all = all
all_dropped p (suc count) [] all = refl
all_dropped p (suc count) (x ∷ xs) all = all_dropped p count xs (and_parts (p x) (list_all p xs) all).1

-- the operator of each argument is before, and has its type
pub record IsFound (types : List VarType) (look : Looks) (number : ℕ) (known : Known) (operator arg : ℕ) : Type 0 where
  pub lower : operator < number
  pub kind : look operator ≡ type_of known arg
  pub width : length (look operator).cols ≡ width_of types arg

pub record Places (types : List VarType) (look : Looks) (number : ℕ) (known : Known) (defined : Defined) : Type 0 where
  pub env : Env types look number defined
  pub ready : Ready (length types) known defined
  pub firsts : Firsts (length types) known
  pub agrees : Agrees types known

found : (types : List VarType) (look : Looks) (number : ℕ) (known : Known) (defined : Defined) (arg : ℕ) → Places types look number known defined
    → is_assigned known.assigned arg ≡ true → IsFound types look number known (definition_of defined arg) arg
found types look number known defined arg places is =
    let within : arg < length types = (let e = marked_below known.assigned arg is in let f = places.ready.many in omega (arith, e, f)) in
    let has = places.env arg (definition_of defined arg) within (definition_is defined arg (places.ready.each arg is)) in
    let typed = typed_variable types known arg places.firsts places.agrees is in
    record { lower = has.0; kind = has.1 ∙ sym typed.is; width = ap (λ (t : VarType). length t.cols) has.1 }

args_lower : (types : List VarType) (look : Looks) (number : ℕ) (known : Known) (defined : Defined) (operator : OpSpec) (input : ℕ) (args : List ℕ)
    → Places types look number known defined → list_all (is_assigned known.assigned) args ≡ true
    → Each (λ source. source.from < number) (inputs_from types defined operator input args)
unfolding inputs_from Each
args_lower types look number known defined operator input [] places all = tt
args_lower types look number known defined operator input (arg ∷ args) places all =
    let parts = and_parts (is_assigned known.assigned arg) (list_all (is_assigned known.assigned) args) all in
    ((found types look number known defined arg places parts.0).lower, args_lower types look number known defined operator (suc input) args places parts.1)

args_kinds : (types : List VarType) (look : Looks) (number : ℕ) (known : Known) (defined : Defined) (operator : OpSpec) (input : ℕ) (args : List ℕ)
    → Places types look number known defined → list_all (is_assigned known.assigned) args ≡ true
    → source_kinds look (inputs_from types defined operator input args) ≡ map (type_of known) args
unfolding inputs_from
args_kinds types look number known defined operator input [] places all = refl
args_kinds types look number known defined operator input (arg ∷ args) places all =
    let parts = and_parts (is_assigned known.assigned arg) (list_all (is_assigned known.assigned) args) all in
    let head = (found types look number known defined arg places parts.0).kind in
    let tail = args_kinds types look number known defined operator (suc input) args places parts.1 in
    λ i. head i ∷ tail i

args_routed : (types : List VarType) (look : Looks) (number : ℕ) (known : Known) (defined : Defined) (operator : OpSpec) (input : ℕ) (args : List ℕ)
    → Places types look number known defined → list_all (is_assigned known.assigned) args ≡ true
    → Routed look operator input (inputs_from types defined operator input args)
unfolding inputs_from Routed
args_routed types look number known defined operator input [] places all = tt
args_routed types look number known defined operator input (arg ∷ args) places all =
    let parts = and_parts (is_assigned known.assigned arg) (list_all (is_assigned known.assigned) args) all in (
      ap (route_to operator input) (sym (found types look number known defined arg places parts.0).width),
      args_routed types look number known defined operator (suc input) args places parts.1,
    )

args_scalars : (types : List VarType) (known : Known) (args : List ℕ) → Firsts (length types) known → Agrees types known
    → list_all (is_assigned known.assigned) args ≡ true → list_all (λ variable. (type_of known variable).scalar) args ≡ true
    → map (type_of known) args ≡ map scalar (flat_map (λ variable. (type_of known variable).cols) args)
args_scalars types known [] firsts agrees all scalars = refl
args_scalars types known (arg ∷ args) firsts agrees all scalars =
    let parts = and_parts (is_assigned known.assigned arg) (list_all (is_assigned known.assigned) args) all in
    let are = and_parts (type_of known arg).scalar (list_all (λ variable. (type_of known variable).scalar) args) scalars in
    let typed = typed_variable types known arg firsts agrees parts.0 in
    by_column (typed.one are.0) (args_scalars types known args firsts agrees parts.1 are.1)
  where
    by_column : ((column : ColType) × (type_of known arg ≡ scalar column)) → map (type_of known) args ≡ map scalar (flat_map (λ variable. (type_of known variable).cols) args)
        → type_of known arg ∷ map (type_of known) args ≡ map scalar ((type_of known arg).cols ++ flat_map (λ variable. (type_of known variable).cols) args)
    by_column one rest =
        let is = one.1 in
        (λ i. is i ∷ rest i)
        ∙ ap (λ (t : VarType). map scalar (t.cols ++ flat_map (λ variable. (type_of known variable).cols) args)) (sym is)

pub operator_typed : (types : List VarType) (look : Looks) (number : ℕ) (known : Known) (defined : Defined) (statement : ℕ) (operator : OpSpec) (args : List ℕ)
    (type : VarType) → Places types look number known defined → Judged operator args known type → look number ≡ type
    → IsPlain look number (operator_of types defined statement operator args)
operator_typed types look number known defined statement operator args type places judged is = record {
  no_phi = refl;
  lower = args_lower types look number known defined operator 0 args places judged.args_known;
  captures = flat_map (λ variable. (type_of known variable).cols) (captured_args operator args);
  scalars = ap (drop (bag_inputs_of operator)) kinds
      ∙ (map_dropped (type_of known) (bag_inputs_of operator) args
      ∙ args_scalars types known (captured_args operator args) places.firsts places.agrees
      (all_dropped (is_assigned known.assigned) (bag_inputs_of operator) args judged.args_known) judged.scalars);
  gives = ap (λ (ts : List VarType). typed_as operator ts (flat_map (λ variable. (type_of known variable).cols) (captured_args operator args)))
      (ap (take (bag_inputs_of operator)) kinds ∙ map_taken (type_of known) (bag_inputs_of operator) args)
      ∙ (judged.typed ∙ ap (λ (t : VarType). ok t) (sym is));
  routes = args_routed types look number known defined operator 0 args places judged.args_known;
}
  where
    kinds : source_kinds look (inputs_from types defined operator 0 args) ≡ map (type_of known) args
    kinds = args_kinds types look number known defined operator 0 args places judged.args_known

    ok : VarType → Result VarType Refusal
    ok t = Ok t
