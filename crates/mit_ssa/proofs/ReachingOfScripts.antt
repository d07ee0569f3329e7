-- What reaches each operator of the plan of an accepted script.
use Rattle.std.proofs.Common.{◌≡◌, ◌∙◌, ◌<◌, ◌≤◌, ◌+◌, ℕ, suc, List, [], ◌∷◌, length, map, get_or, nat_lt, ap, sym, subst, refl, arith, cond, All, Bool, true, false, Option, Some, None, Ok, ◌⊎◌, inl, inr}
use Rattle.std.specs.Prelude.{Contains}
use Rattle.std.proofs.lemmas.Bool.{cases_lt}
use Rattle.std.proofs.lemmas.Bool.Decides.{nat_tests}
use Rattle.std.proofs.lemmas.List.{get_or_past}
use Rattle.std.proofs.lemmas.List.Elements.{All-nil, All-weaker}
use Rattle.mit_ops.specs.declared.leave.Leave.TheVariants.{End}
use Rattle.mit_ops.specs.declared.types.VarType.{VarType}
use Rattle.mit_script.specs.Accepted.{at_start, check_of, checked, in_order, type_or_unset}
use Rattle.mit_script.specs.Trees.{Head, IsFormed, IsFormedHead, assigns, heads_of, writes}
use Rattle.mit_script.specs.Trees.{decides}
use Rattle.mit_script.specs.declared.tree.Script.{Script}
use Rattle.mit_cfg.specs.Blocks.{Stretch, all_of, blocks_of, cut_in_turn, cut_of}
use Rattle.mit_cfg.specs.declared.block.Block.{Block as Code}
use Rattle.mit_plan.specs.Paths.{next_of}
use Rattle.mit_ssa.specs.Reaching.{AreListed, Reaching, reach}
use Rattle.mit_ssa.specs.Woven.{Weave, just_left, start_place, stretch_blocks, weave_adds, weave_of, woven_all, woven_blocks}
use Rattle.mit_ssa.specs.declared.block.Block.{Block}
use Rattle.mit_ssa.proofs.DefinitionsEdges.{each_contains}
use Rattle.mit_ssa.proofs.DefinitionsOfScripts.{ends_with, map_length, start_ready}
use Rattle.mit_ssa.proofs.DefinitionsPhis.{Each}
use Rattle.mit_ssa.proofs.DefinitionsWoven.{block_flows}
use Rattle.mit_ssa.proofs.ReachingBranches.{code_left}
use Rattle.mit_ssa.proofs.ReachingGood.{GoodCode, first_of, no_code, no_operators}
use Rattle.mit_ssa.proofs.ReachingParts.{AreEntries, AreTargets, Brings, CodeBlocks, Entry, GoodSteps, IsEntry, IsNamedEntry, IsTarget, code_begins}
use Rattle.mit_ssa.proofs.ReachingPlaces.{WholeAt, code_at, code_last, code_many, whole_end, whole_good}
use Rattle.mit_ssa.proofs.ReachingSteps.{Goes}
use Rattle.mit_ssa.proofs.ReachingWoven.{IsProperHead, block_stands}
use Rattle.mit_ssa.proofs.StructureEach.{each_made}

-- ---- what is known of all blocks

abbrev pub no_entry : Entry
no_entry = λ variable. []

-- the first block is entered with nothing, and what is no variable is defined nowhere
abbrev pub known_of : ℕ → List Entry → List (Option ℕ) → Reaching
known_of variables entries targets = record {
  defines = λ operator. get_or targets operator None;
  entry = λ block variable. cond (nat_lt variable variables) (get_or (no_entry ∷ entries) block no_entry variable) [];
}

entry_within : (variables : ℕ) (entries : List Entry) (targets : List (Option ℕ)) (block variable : ℕ) → variable < variables
    → (known_of variables entries targets).entry block variable ≡ get_or (no_entry ∷ entries) block no_entry variable
entry_within variables entries targets block variable below =
    let e : nat_lt variable variables ≡ true = grind (arith, nat_tests) in rw e refl

entry_past : (variables : ℕ) (entries : List Entry) (targets : List (Option ℕ)) (block variable : ℕ) → variables ≤ variable
    → (known_of variables entries targets).entry block variable ≡ []
entry_past variables entries targets block variable past =
    let e : nat_lt variable variables ≡ false = grind (arith, nat_tests) in rw e refl

entry_none : (variables : ℕ) (entries : List Entry) (targets : List (Option ℕ)) (block variable : ℕ) → get_or (no_entry ∷ entries) block no_entry variable ≡ []
    → (known_of variables entries targets).entry block variable ≡ []
entry_none variables entries targets block variable none = by_test (nat_lt variable variables)
  where
    by_test : (within : Bool) → cond within (get_or (no_entry ∷ entries) block no_entry variable) [] ≡ []
    by_test true = none
    by_test false = refl

are_entries : (variables : ℕ) (entries : List Entry) (targets : List (Option ℕ)) → AreEntries variables (known_of variables entries targets) (0 + 1) entries
are_entries variables entries targets =
    each_made (IsEntry variables (known_of variables entries targets)) entries (0 + 1) no_entry (λ k within variable below.
    let e : 0 + 1 + k ≡ suc k = omega arith in
    entry_within variables entries targets (0 + 1 + k) variable below ∙ ap (λ (b : ℕ). get_or (no_entry ∷ entries) b no_entry variable) e)

are_targets : (variables : ℕ) (entries : List Entry) (targets : List (Option ℕ)) → AreTargets (known_of variables entries targets) 0 targets
are_targets variables entries targets =
    each_made (IsTarget (known_of variables entries targets)) targets 0 None (λ k within.
    let e : 0 + k ≡ k = omega arith in ap (λ (n : ℕ). get_or targets n None) e)

-- ---- from parts to the whole

-- blocks beside their steps, with what is known of them
pub record HasEntries (variables : ℕ) (blocks : List Block) (codes : List Code) : Type 0 where
  pub entries : List Entry
  pub targets : List (Option ℕ)
  pub last : ℕ
  pub most : ℕ
  pub many : length (no_entry ∷ entries) ≡ last
  pub good : CodeBlocks variables (known_of variables entries targets) 0 0 blocks codes last most

entries_good : (variables : ℕ) (blocks : List Block) (codes : List Code) (has : HasEntries variables blocks codes)
    → GoodCode (known_of variables has.entries has.targets) blocks codes
entries_good variables blocks codes has = record {
  many = code_many variables known 0 0 blocks codes has.last has.most has.good;
  each = λ block below.
      whole_good variables known block (first_of blocks block) (get_or blocks block no_operators) (get_or codes block no_code) (at block below).end (at block below).good;
  start = λ variable. entry_none variables has.entries has.targets 0 variable refl;
  defined = λ block variable. by_variable block variable (cases_lt variable variables) (cases_lt block (length codes));
  leads = λ block next variable below comes. by_leads block next variable below comes (cases_lt variable variables);
}
  where
    known : Reaching
    known = known_of variables has.entries has.targets

    at : (block : ℕ) → block < length codes
        → WholeAt variables known block (first_of blocks block) (get_or blocks block no_operators) (get_or codes block no_code)
    at block below =
        let e : 0 + block ≡ block = omega arith in
        subst (λ (b : ℕ). WholeAt variables known b (first_of blocks block) (get_or blocks block no_operators) (get_or codes block no_code)) e
        (code_at variables known 0 0 blocks codes has.last has.most has.good block below)

    Named : ℕ → ℕ → Type 0
    Named block variable = All (λ operator. known.defines operator ≡ Some variable) (known.entry block variable)

    nothing : (block variable : ℕ) → known.entry block variable ≡ [] → Named block variable
    nothing block variable none =
        subst (λ (xs : List ℕ). All (λ operator. known.defines operator ≡ Some variable) xs) (sym none) (All-nil (λ operator. known.defines operator ≡ Some variable))

    by_variable : (block variable : ℕ) → (variable < variables) ⊎ (variables ≤ variable) → (block < length codes) ⊎ (length codes ≤ block) → Named block variable
    by_variable block variable (inr past) within = nothing block variable (entry_past variables has.entries has.targets block variable past)
    by_variable block variable (inl below) (inl within) = (at block within).good.named variable below
    by_variable block variable (inl below) (inr past) =
        let e = has.many in
        let f = code_last variables known 0 0 blocks codes has.last has.most has.good in
        nothing block variable (entry_none variables has.entries has.targets block variable
        (ap (λ (entry : Entry). entry variable) (get_or_past (no_entry ∷ has.entries) block no_entry (omega (arith, e, f, past)))))

    by_leads : (block next variable : ℕ) → block < length codes → Contains (next_of (get_or blocks block no_operators).leave) next
        → (variable < variables) ⊎ (variables ≤ variable)
        → (known.entry next variable ≡ [])
        ⊎ AreListed (reach known block (first_of blocks block) (length (get_or blocks block no_operators).operators) variable) (known.entry next variable)
    by_leads block next variable below comes (inr past) = inl (entry_past variables has.entries has.targets next variable past)
    by_leads block next variable below comes (inl within) =
        let whole = at block below in
        let e = whole_end variables known block (first_of blocks block) (get_or blocks block no_operators) (get_or codes block no_code) whole.end whole.good in
        subst (λ (n : ℕ). (known.entry next variable ≡ []) ⊎ AreListed (reach known block (first_of blocks block) n variable) (known.entry next variable)) e
        (each_contains (Brings variables known block (first_of blocks block) whole.end) (next_of (get_or blocks block no_operators).leave) next whole.good.rest.brings comes
        variable within)

-- ---- the whole script

goes_entries : (variables : ℕ) (weaves : List Weave) (onto : Stretch → Stretch) → Goes variables start_place (weave_adds weaves) (woven_all weaves start_place) onto
    → HasEntries variables (stretch_blocks ((woven_all weaves start_place).onto (just_left End))) (all_of (onto (code_left End)))
unfolding CodeBlocks GoodSteps Each reach
goes_entries variables weaves onto goes = record {
  entries = goes.entries;
  targets = goes.targets;
  last = 0 + weave_adds weaves + 1;
  most = (woven_all weaves start_place).operator;
  many = (let e = goes.many in omega (arith, e));
  good = code_begins variables known 0 0 0 [] ((woven_all weaves start_place).onto (just_left End)) (onto (code_left End)) (0 + weave_adds weaves + 1)
      (woven_all weaves start_place).operator refl named tt
      (goes.carries known (are_entries variables goes.entries goes.targets) (are_targets variables goes.entries goes.targets)
      (λ variable operator below none. absurd cc) (just_left End) (code_left End) (0 + weave_adds weaves + 1) (woven_all weaves start_place).operator
      (λ first index same reached. record {
        end = index;
        good = record { leave_is = refl; decided = λ branch. absurd cc; steps = refl; brings = tt };
        later = (refl, same);
      })
      0 0 refl (λ variable below. nothing variable));
}
  where
    known : Reaching
    known = known_of variables goes.entries goes.targets

    nothing : (variable : ℕ) → known.entry 0 variable ≡ []
    nothing variable = entry_none variables goes.entries goes.targets 0 variable refl

    named : IsNamedEntry variables known 0
    named variable below =
        subst (λ (xs : List ℕ). All (λ operator. known.defines operator ≡ Some variable) xs) (sym (nothing variable))
        (All-nil (λ operator. known.defines operator ≡ Some variable))

plain_head : (variables : ℕ) (head : Head) → IsFormedHead variables head → IsProperHead head
plain_head variables (assigns target operator args) formed = formed.1
plain_head variables (writes operator args) formed = tt
plain_head variables (decides operator args) formed = formed.0

has_entries : (script : Script) (types : List VarType) → IsFormed script → checked script ≡ Ok types
    → HasEntries (length types) (woven_blocks script types) (blocks_of script)
has_entries script types formed accepted =
    let ended = ends_with script.names (in_order (map check_of script.body) (at_start script.names)) types accepted in
    let a = (block_flows types script.body).sizes (at_start script.names) ended.last ended.is in
    let b = map_length type_or_unset ended.last.types in
    let c = ap (λ (ts : List VarType). length ts) ended.types_are in
    let d = map_length {B = Option VarType} (λ name. None) script.names in
    goes_entries (length types) (map (weave_of types) script.body) (cut_in_turn (map cut_of script.body) 0 1)
    ((block_stands types script.body (All-weaker (IsFormedHead (length script.names)) IsProperHead (plain_head (length script.names)) (heads_of script) formed.formed)).goes
    start_place (at_start script.names) ended.last ended.is (start_ready script.names (length types) (omega (arith, a, b, c, d))))

-- the operators of an accepted script stand beside its steps, and each takes what may have defined its variables last
pub code_good : (script : Script) (types : List VarType) → IsFormed script → checked script ≡ Ok types
    → (known : Reaching) × GoodCode known (woven_blocks script types) (blocks_of script)
code_good script types formed accepted =
    let has = has_entries script types formed accepted in
    (known_of (length types) has.entries has.targets, entries_good (length types) (woven_blocks script types) (blocks_of script) has)
