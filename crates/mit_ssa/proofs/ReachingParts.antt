-- Devices of the proofs: nobody has to believe them. Parts of blocks of operators beside the steps that they come from.
use Rattle.std.proofs.Common.{◌≡◌, ◌<◌, ◌+◌, ℕ, suc, List, [], ◌∷◌, ◌++◌, length, map, sym, subst, refl, All, Option, Some, IsTrue, ◌⊎◌}
use Rattle.std.proofs.lemmas.List.{length-map}
use Rattle.mit_ops.specs.declared.leave.Leave.{Leave}
use Rattle.mit_ops.specs.declared.leave.Leave.TheVariants.{Jump}
use Rattle.mit_cfg.specs.Blocks.{Stretch, all_of}
use Rattle.mit_cfg.specs.declared.block.Block.{Block as Code}
use Rattle.mit_cfg.specs.declared.block.Step.{Step}
use Rattle.mit_plan.specs.Paths.{next_of}
use Rattle.mit_plan.specs.Valid.{is_branch}
use Rattle.mit_ssa.specs.Reaching.{AreListed, IsDecided, Reaching, reach}
use Rattle.mit_ssa.specs.Woven.{Defined, WovenStretch, just_left, operators_first, stretch_blocks}
use Rattle.mit_ssa.specs.declared.block.Block.{Block}
use Rattle.mit_ssa.specs.declared.block.Operator.{Operator}
use Rattle.mit_ssa.proofs.DefinitionsGood.{only_of}
use Rattle.mit_ssa.proofs.DefinitionsPhis.{Each}
use Rattle.mit_ssa.proofs.ReachingGood.{GoodPhi, GoodStep}
use Rattle.mit_ssa.proofs.StructureEach.{Each as EachFrom, each_back, each_from}

-- ---- numbered lists

-- what comes later, where its number may be written in another way
pub each_onward : {A : Type 0} (P : ℕ → A → Type 0) (number other : ℕ) (xs ys : List A) → number + length xs ≡ other → EachFrom P number (xs ++ ys)
    → EachFrom P other ys
each_onward P number other xs ys is each = each_from P ys (number + length xs) other is (each_back P xs ys number each)

pub each_next : {A : Type 0} (P : ℕ → A → Type 0) (number other : ℕ) (x : A) (xs : List A) → suc number ≡ other → EachFrom P number (x ∷ xs)
    → P number x × EachFrom P other xs
each_next P number other x xs is each = (each.0, each_from P xs (suc number) other is each.1)

-- ---- what is known

-- what may have defined a variable last where a block is entered
abbrev pub Entry : Type 0
Entry = ℕ → List ℕ

abbrev pub IsEntry : ℕ → Reaching → ℕ → Entry → Type 0
IsEntry variables known block entry = (variable : ℕ) → variable < variables → known.entry block variable ≡ entry variable

-- blocks from this number on are entered so
abbrev pub AreEntries : ℕ → Reaching → ℕ → List Entry → Type 0
AreEntries variables known block entries = EachFrom (IsEntry variables known) block entries

-- an operator defines this variable, or none; and operators from this number on do so
abbrev pub IsTarget : Reaching → ℕ → Option ℕ → Type 0
IsTarget known operator target = known.defines operator ≡ target

abbrev pub AreTargets : Reaching → ℕ → List (Option ℕ) → Type 0
AreTargets known number targets = EachFrom (IsTarget known) number targets

-- what phis of these variables define
abbrev pub for_phis : List ℕ → List (Option ℕ)
for_phis phis = map (λ (phi : ℕ). Some phi) phis

pub for_phis_many : (phis : List ℕ) → length (for_phis phis) ≡ length phis
for_phis_many phis = length-map phis (λ (phi : ℕ). Some phi)

-- each definition is an operator that defines its variable
abbrev pub IsNamed : ℕ → Reaching → Defined → Type 0
IsNamed variables known defined =
    (variable operator : ℕ) → variable < variables → defined variable ≡ Some operator → known.defines operator ≡ Some variable

-- the definitions are what reaches this index of a block
abbrev pub IsReachOf : ℕ → Reaching → ℕ → ℕ → ℕ → Defined → Type 0
IsReachOf variables known block first index defined =
    (variable : ℕ) → variable < variables → reach known block first index variable ≡ only_of defined variable

-- each entry of a block names operators that define the variable
abbrev pub IsNamedEntry : ℕ → Reaching → ℕ → Type 0
IsNamedEntry variables known block =
    (variable : ℕ) → variable < variables → All (λ operator. known.defines operator ≡ Some variable) (known.entry block variable)

-- what reaches this index of a block is listed where the next one is entered
abbrev pub Brings : ℕ → Reaching → ℕ → ℕ → ℕ → ℕ → Type 0
Brings variables known block first index next =
    (variable : ℕ) → variable < variables
    → (known.entry next variable ≡ []) ⊎ AreListed (reach known block first index variable) (known.entry next variable)

-- ---- parts of blocks

-- operators for these steps, up to an index
unfoldable pub GoodSteps : Reaching → ℕ → ℕ → ℕ → List Operator → List Step → ℕ → Type 0
GoodSteps known block first index [] [] end = index ≡ end
GoodSteps known block first index [] (step ∷ steps) end = ⊥
GoodSteps known block first index (operator ∷ operators) [] end = ⊥
GoodSteps known block first index (operator ∷ operators) (step ∷ steps) end =
    GoodStep known block first index operator step × GoodSteps known block first (suc index) operators steps end

-- what is left of a block from this index on, up to the index where it ends
pub record GoodRest (variables : ℕ) (known : Reaching) (block first index : ℕ) (operators : List Operator) (leave : Leave) (code : Code) (end : ℕ) : Type 0 where
  pub leave_is : leave ≡ code.leave
  pub decided : IsTrue (is_branch code.leave) → IsDecided code.steps
  pub steps : GoodSteps known block first index operators code.steps end
  pub brings : Each (Brings variables known block first end) (next_of leave)

-- a whole block: phis, and then the rest
pub record GoodWhole (variables : ℕ) (known : Reaching) (block first : ℕ) (it : Block) (code : Code) (end : ℕ) : Type 0 where
  pub named : IsNamedEntry variables known block
  pub phis : List Operator
  pub operators : List Operator
  pub are : it.operators ≡ phis ++ operators
  pub good_phis : EachFrom (GoodPhi known block first) 0 phis
  pub rest : GoodRest variables known block first (length phis) operators it.leave code end

-- a block that ends at an index, and what comes after it
pub record UpTo (Good Later : ℕ → Type 0) : Type 0 where
  pub end : ℕ
  pub good : Good end
  pub later : Later end

unfoldable pub CodeBlocks : ℕ → Reaching → ℕ → ℕ → List Block → List Code → ℕ → ℕ → Type 0
CodeBlocks variables known block first [] [] last most = (block ≡ last) × (first ≡ most)
CodeBlocks variables known block first [] (code ∷ codes) last most = ⊥
CodeBlocks variables known block first (it ∷ more) [] last most = ⊥
CodeBlocks variables known block first (it ∷ more) (code ∷ codes) last most =
    UpTo (GoodWhole variables known block first it code) (λ end. CodeBlocks variables known (block + 1) (first + end) more codes last most)

-- from an index of a block on
abbrev pub CodeFrom : ℕ → Reaching → ℕ → ℕ → ℕ → WovenStretch → Stretch → ℕ → ℕ → Type 0
CodeFrom variables known block first index stretch code last most =
    UpTo (GoodRest variables known block first index stretch.first.operators stretch.first.leave code.first)
    (λ end. CodeBlocks variables known (block + 1) (first + end) stretch.later code.later last most)

-- ---- blocks one after another

pub code_append : (variables : ℕ) (known : Reaching) (block first : ℕ) (xs ys : List Block) (cs ds : List Code) (middle at last most : ℕ)
    → CodeBlocks variables known block first xs cs middle at → CodeBlocks variables known middle at ys ds last most
    → CodeBlocks variables known block first (xs ++ ys) (cs ++ ds) last most
unfolding CodeBlocks
code_append variables known block first [] ys [] ds middle at last most one other =
    subst (λ (b : ℕ). CodeBlocks variables known b first ys ds last most) (sym one.0)
    (subst (λ (n : ℕ). CodeBlocks variables known middle n ys ds last most) (sym one.1) other)
code_append variables known block first [] ys (code ∷ cs) ds middle at last most one other = absurd one
code_append variables known block first (it ∷ xs) ys [] ds middle at last most one other = absurd one
code_append variables known block first (it ∷ xs) ys (code ∷ cs) ds middle at last most one other = record {
  end = one.end;
  good = one.good;
  later = code_append variables known (block + 1) (first + one.end) xs ys cs ds middle at last most one.later other;
}

-- a stretch that begins with a block's phis
pub code_begins : (variables : ℕ) (known : Reaching) (block first index : ℕ) (phis : List Operator) (stretch : WovenStretch) (code : Stretch) (last most : ℕ)
    → length phis ≡ index → IsNamedEntry variables known block → EachFrom (GoodPhi known block first) 0 phis
    → CodeFrom variables known block first index stretch code last most
    → CodeBlocks variables known block first (stretch_blocks (operators_first phis stretch)) (all_of code) last most
unfolding CodeBlocks
code_begins variables known block first index phis stretch code last most many named good from = record {
  end = from.end;
  good = record {
    named = named;
    phis = phis;
    operators = stretch.first.operators;
    are = refl;
    good_phis = good;
    rest = subst (λ (i : ℕ). GoodRest variables known block first i stretch.first.operators stretch.first.leave code.first from.end) (sym many) from.good;
  };
  later = from.later;
}

-- no more operators, and a jump
pub code_leaves : (variables : ℕ) (known : Reaching) (block first index target last most : ℕ) → block + 1 ≡ last → first + index ≡ most
    → Brings variables known block first index target
    → CodeFrom variables known block first index (just_left (Jump target)) (record { first = record { steps = []; leave = Jump target }; later = [] }) last most
unfolding CodeBlocks GoodSteps Each
code_leaves variables known block first index target last most next many brings = record {
  end = index;
  good = record { leave_is = refl; decided = λ branch. absurd cc; steps = refl; brings = (brings, tt) };
  later = (next, many);
}
