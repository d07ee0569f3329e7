-- Devices of the proofs: nobody has to believe them. Blocks with what has surely been computed where each is entered.
use Rattle.std.proofs.Common.{◌≡◌, ◌∙◌, ◌<◌, ◌≤◌, ◌+◌, ℕ, suc, List, [], ◌∷◌, ◌++◌, length, map, ap, sym, subst, refl, arith, Bool, true, false, Option, Some, None, is_some, option_to_list, unwrap_or, ◌⊎◌, inl, inr}
use Rattle.std.specs.List.{list_all}
use Rattle.std.proofs.lemmas.Bool.{and_parts}
use Rattle.mit_ops.specs.declared.kinds.OpSpec.{OpSpec}
use Rattle.mit_ops.specs.declared.leave.Leave.TheVariants.{Jump}
use Rattle.mit_ops.specs.declared.types.VarType.{VarType}
use Rattle.mit_plan.specs.Paths.{next_of}
use Rattle.mit_script.specs.Accepted.{Known, is_assigned}
use Rattle.mit_ssa.specs.Woven.{Defined, WovenStretch, definition_of, inputs_from, just_left, operator_of, operators_first, phi_of, phis_of, stretch_blocks, with_phis}
use Rattle.mit_ssa.specs.declared.block.Block.{Block}
use Rattle.mit_ssa.specs.declared.block.Operator.{Operator}
use Rattle.mit_ssa.proofs.DefinitionsPhis.{Each, among, one_some, phi_is, phis_keep}
use Rattle.mit_ssa.proofs.DefinitionsReady.{Ready, marked_below}

-- where a block is entered, one of these operators has been passed for each variable, if there are any; and its first operator has this number
pub record Mark : Type 0 where
  pub entry : ℕ → List ℕ
  pub start : ℕ

abbrev pub Marks : Type 0
Marks = ℕ → Mark

abbrev pub Among : List ℕ → ℕ → Type 0
Among [] operator = ⊥
Among (one ∷ more) operator = (one ≡ operator) ⊎ Among more operator

-- an operator has been passed where the block was entered
pub record IsEntered (variables : ℕ) (entry : ℕ → List ℕ) (operator : ℕ) : Type 0 where
  pub variable : ℕ
  pub below : variable < variables
  pub is : entry variable ≡ operator ∷ []

-- or it stands in the block, before this number
pub record IsPassed (variables : ℕ) (look : Marks) (block number operator : ℕ) : Type 0 where
  pub before : operator < number
  pub how : IsEntered variables (look block).entry operator ⊎ ((look block).start ≤ operator)

pub record Offers (variables : ℕ) (look : Marks) (block number : ℕ) (wanted : List ℕ) : Type 0 where
  pub operator : ℕ
  pub listed : Among wanted operator
  pub passed : IsPassed variables look block number operator

-- at this number a block may be left for the next one
abbrev pub Leads : ℕ → Marks → ℕ → ℕ → ℕ → Type 0
Leads variables look block number next =
    (variable : ℕ) → variable < variables → ((look next).entry variable ≡ []) ⊎ Offers variables look block number ((look next).entry variable)

-- a block begins between two operators
pub record Split (look : Marks) (one other : ℕ) : Type 0 where
  pub block : ℕ
  pub between : ((one < (look block).start) × ((look block).start ≤ other)) ⊎ ((other < (look block).start) × ((look block).start ≤ one))

pub record IsAfter (look : Marks) (block operator : ℕ) : Type 0 where
  pub later : ℕ
  pub after : block < later
  pub some : 0 < (look later).start
  pub from : (look later).start ≤ operator

-- an operator stands in an earlier or in a later block
abbrev pub Away : Marks → ℕ → ℕ → Type 0
Away look block operator = (operator < (look block).start) ⊎ IsAfter look block operator

pub record GoodPhi (variables : ℕ) (look : Marks) (block : ℕ) (operator : Operator) : Type 0 where
  pub variable : ℕ
  pub below : variable < variables
  pub one : ℕ
  pub other : ℕ
  pub inputs : map (λ source. source.from) operator.inputs ≡ one ∷ other ∷ []
  pub entry : (look block).entry variable ≡ one ∷ other ∷ []
  pub apart : Split look one other
  pub one_away : Away look block one
  pub other_away : Away look block other
  pub bound : ℕ
  pub one_bound : one < (look bound).start
  pub other_bound : other < (look bound).start

abbrev pub GoodOp : ℕ → Marks → ℕ → ℕ → Operator → Type 0
GoodOp variables look block number operator =
    ((operator.phi ≡ 0) × Each (λ source. IsPassed variables look block number source.from) operator.inputs)
    ⊎ ((operator.phi ≡ 2) × GoodPhi variables look block operator)

unfoldable pub GoodOps : ℕ → Marks → ℕ → ℕ → List Operator → ℕ → Type 0
GoodOps variables look block number [] end = number ≡ end
GoodOps variables look block number (operator ∷ operators) end =
    GoodOp variables look block number operator × GoodOps variables look block (number + 1) operators end

pub record GoodBlock (variables : ℕ) (look : Marks) (block number : ℕ) (it : Block) (end : ℕ) : Type 0 where
  pub ops : GoodOps variables look block number it.operators end
  pub leads : Each (Leads variables look block end) (next_of it.leave)

pub record GoodThen (variables : ℕ) (look : Marks) (block number : ℕ) (it : Block) (Rest : ℕ → Type 0) : Type 0 where
  pub next : ℕ
  pub good : GoodBlock variables look block number it next
  pub rest : Rest next

unfoldable pub GoodBlocks : ℕ → Marks → ℕ → ℕ → List Block → ℕ → ℕ → Type 0
GoodBlocks variables look block number [] last end = (block ≡ last) × (number ≡ end)
GoodBlocks variables look block number (it ∷ more) last end =
    ((look block).start ≡ number) × GoodThen variables look block number it (λ next. GoodBlocks variables look (block + 1) next more last end)

abbrev pub GoodStretch : ℕ → Marks → ℕ → ℕ → WovenStretch → ℕ → ℕ → Type 0
GoodStretch variables look block number stretch last end =
    GoodThen variables look block number stretch.first (λ next. GoodBlocks variables look (block + 1) next stretch.later last end)

-- ---- blocks one after another

pub blocks_append : (variables : ℕ) (look : Marks) (block number : ℕ) (xs ys : List Block) (middle at last end : ℕ)
    → GoodBlocks variables look block number xs middle at → GoodBlocks variables look middle at ys last end
    → GoodBlocks variables look block number (xs ++ ys) last end
unfolding GoodBlocks
blocks_append variables look block number [] ys middle at last end first second =
    subst (λ (b : ℕ). GoodBlocks variables look b number ys last end) (sym first.0)
    (subst (λ (n : ℕ). GoodBlocks variables look middle n ys last end) (sym first.1) second)
blocks_append variables look block number (it ∷ xs) ys middle at last end first second = (
  first.0,
  record {
    next = first.1.next;
    good = first.1.good;
    rest = blocks_append variables look (block + 1) first.1.next xs ys middle at last end first.1.rest second;
  },
)

pub begins : (variables : ℕ) (look : Marks) (block number : ℕ) (stretch : WovenStretch) (last end : ℕ) → (look block).start ≡ number
    → GoodStretch variables look block number stretch last end → GoodBlocks variables look block number (stretch_blocks stretch) last end
unfolding GoodBlocks
begins variables look block number stretch last end start good = (start, good)

pub precede : (variables : ℕ) (look : Marks) (block number : ℕ) (operator : Operator) (stretch : WovenStretch) (last end : ℕ)
    → GoodOp variables look block number operator → GoodStretch variables look block (number + 1) stretch last end
    → GoodStretch variables look block number (operators_first (operator ∷ []) stretch) last end
unfolding GoodOps
precede variables look block number operator stretch last end good later =
    record { next = later.next; good = record { ops = (good, later.good.ops); leads = later.good.leads }; rest = later.rest }

pub phis_precede : (variables : ℕ) (look : Marks) (block number : ℕ) (one other : Defined) (phis : List ℕ) (stretch : WovenStretch) (last end : ℕ)
    → Each (λ variable. GoodPhi variables look block (phi_of one other variable)) phis
    → GoodStretch variables look block (number + length phis) stretch last end
    → GoodStretch variables look block number (operators_first (phis_of one other phis) stretch) last end
unfolding Each
phis_precede variables look block number one other [] stretch last end good later =
    let e : number + 0 ≡ number = omega arith in subst (λ (n : ℕ). GoodStretch variables look block n stretch last end) e later
phis_precede variables look block number one other (phi ∷ phis) stretch last end good later =
    let e : number + length (phi ∷ phis) ≡ number + 1 + length phis = omega arith in
    precede variables look block number (phi_of one other phi) (operators_first (phis_of one other phis) stretch) last end (inr (refl, good.0))
    (phis_precede variables look block (number + 1) one other phis stretch last end good.1
    (subst (λ (n : ℕ). GoodStretch variables look block n stretch last end) e later))

-- no more operators, and a jump
pub leaves_for : (variables : ℕ) (look : Marks) (block number target last : ℕ) → block + 1 ≡ last → Leads variables look block number target
    → GoodStretch variables look block number (just_left (Jump target)) last number
unfolding GoodOps GoodBlocks Each
leaves_for variables look block number target last next leads =
    record { next = number; good = record { ops = refl; leads = (leads, tt) }; rest = (next, refl) }

-- ---- what has been passed

abbrev pub Has : ℕ → Marks → ℕ → ℕ → Defined → Type 0
Has variables look block number defined =
    (variable operator : ℕ) → variable < variables → defined variable ≡ Some operator → IsPassed variables look block number operator

abbrev pub only_of : Defined → ℕ → List ℕ
only_of defined variable = option_to_list (defined variable)

pub passed_more : (variables : ℕ) (look : Marks) (block number later operator : ℕ) → number ≤ later → IsPassed variables look block number operator
    → IsPassed variables look block later operator
passed_more variables look block number later operator more passed = record { before = omega (arith, more, passed.before); how = passed.how }

pub has_more : (variables : ℕ) (look : Marks) (block number later : ℕ) (defined : Defined) → number ≤ later → Has variables look block number defined
    → Has variables look block later defined
has_more variables look block number later defined more has =
    λ variable operator below is. passed_more variables look block number later operator more (has variable operator below is)

pub listed_only : (defined : Option ℕ) (operator : ℕ) → defined ≡ Some operator → option_to_list defined ≡ operator ∷ []
listed_only defined operator is = ap (λ (d : Option ℕ). option_to_list d) is

-- a block that is entered with all definitions
pub enter_has : (variables : ℕ) (look : Marks) (block number : ℕ) (defined : Defined) → ((variable : ℕ) → (look block).entry variable ≡ only_of defined variable)
    → ((variable operator : ℕ) → variable < variables → defined variable ≡ Some operator → operator < number) → Has variables look block number defined
enter_has variables look block number defined entry before = λ variable operator below is. record {
  before = before variable operator below is;
  how = inl (record { variable = variable; below = below; is = entry variable ∙ listed_only (defined variable) operator is });
}

pub leads_only : (variables : ℕ) (look : Marks) (block number next : ℕ) (defined : Defined) → ((variable : ℕ) → (look next).entry variable ≡ only_of defined variable)
    → Has variables look block number defined → Leads variables look block number next
leads_only variables look block number next defined entry has = λ variable below. by_defined variable below (defined variable) refl
  where
    by_defined : (variable : ℕ) → variable < variables → (was : Option ℕ) → defined variable ≡ was
        → ((look next).entry variable ≡ []) ⊎ Offers variables look block number ((look next).entry variable)
    by_defined variable below None is = inl (entry variable ∙ ap (λ (d : Option ℕ). option_to_list d) is)
    by_defined variable below (Some operator) is =
        let e = entry variable ∙ listed_only (defined variable) operator is in
        inr (record {
          operator = operator;
          listed = subst (λ (xs : List ℕ). Among xs operator) (sym e) (inl refl);
          passed = has variable operator below is;
        })

-- after its phis a block has them and what it is entered with
pub phis_has : (variables : ℕ) (look : Marks) (block number : ℕ) (mid : Defined) (phis : List ℕ) → (look block).start ≡ number
    → ((variable : ℕ) → variable < variables → among phis variable ≡ false → (look block).entry variable ≡ only_of mid variable)
    → ((variable operator : ℕ) → variable < variables → mid variable ≡ Some operator → operator < number)
    → Has variables look block (number + length phis) (with_phis mid number phis)
phis_has variables look block number mid phis start entry before = λ variable operator below is. by_phi variable operator below is (among phis variable) refl
  where
    by_phi : (variable operator : ℕ) → variable < variables → with_phis mid number phis variable ≡ Some operator → (phi : Bool) → among phis variable ≡ phi
        → IsPassed variables look block (number + length phis) operator
    by_phi variable operator below is true phi =
        let found = phi_is mid number phis variable phi in
        let e = one_some found.operator operator (sym found.is ∙ is) in
        record { before = omega (arith, e, found.below); how = inr (omega (arith, e, found.from, start)) }
    by_phi variable operator below is false phi =
        let e = sym (phis_keep mid number phis variable phi) ∙ is in
        record {
          before = (let b = before variable operator below e in omega (arith, b));
          how = inl (record { variable = variable; below = below; is = entry variable below phi ∙ listed_only (mid variable) operator e });
        }

-- ---- the operator of a statement

pub definition_is : (defined : Defined) (variable : ℕ) → is_some (defined variable) ≡ true → defined variable ≡ Some (definition_of defined variable)
definition_is defined variable some = by_defined (defined variable) some
  where
    by_defined : (was : Option ℕ) → is_some was ≡ true → was ≡ Some (unwrap_or was 0)
    by_defined None some = absurd cc
    by_defined (Some operator) some = refl

args_passed : (variables : ℕ) (look : Marks) (block number : ℕ) (types : List VarType) (known : Known) (defined : Defined) (operator : OpSpec) (input : ℕ) (args : List ℕ)
    → Has variables look block number defined → Ready variables known defined → list_all (is_assigned known.assigned) args ≡ true
    → Each (λ source. IsPassed variables look block number source.from) (inputs_from types defined operator input args)
unfolding inputs_from Each
args_passed variables look block number types known defined operator input [] has ready all = tt
args_passed variables look block number types known defined operator input (arg ∷ args) has ready all =
    let parts = and_parts (is_assigned known.assigned arg) (list_all (is_assigned known.assigned) args) all in
    let within : arg < variables = (let e = marked_below known.assigned arg parts.0 in let f = ready.many in omega (arith, e, f)) in (
      has arg (definition_of defined arg) within (definition_is defined arg (ready.each arg parts.0)),
      args_passed variables look block number types known defined operator (suc input) args has ready parts.1,
    )

pub operator_good : (variables : ℕ) (look : Marks) (block number : ℕ) (types : List VarType) (known : Known) (defined : Defined) (statement : ℕ) (operator : OpSpec) (args : List ℕ)
    → Has variables look block number defined → Ready variables known defined → list_all (is_assigned known.assigned) args ≡ true
    → GoodOp variables look block number (operator_of types defined statement operator args)
operator_good variables look block number types known defined statement operator args has ready all =
    inl (refl, args_passed variables look block number types known defined operator 0 args has ready all)
