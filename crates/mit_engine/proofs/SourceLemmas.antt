-- The sources of the statements: one for each argument, an earlier operator that assigned it.
use Rattle.std.proofs.Common.{◌≡◌, ◌∙◌, ◌+◌, ◌++◌, ℕ, zero, suc, List, [], ◌∷◌, length, Some, ap, sym, subst, refl, arith}
use Rattle.std.specs.Prelude.{nat_lt, slice_get, slice_set}
use Rattle.std.specs.List.{All}
use Rattle.std.proofs.lemmas.Bool.{cond_both}
use Rattle.std.proofs.lemmas.List.Elements.{All-cons, All-nil, All-push, All-set, All-weaker}
use Rattle.std.proofs.lemmas.Option.{same_Some}
use Rattle.mit_engine.specs.Operators.{FitsVariables, assigned_after, assigner, sources, sources_from, sources_of}
use Rattle.mit_engine.specs.Thin.{edges_of, item_put}
use Rattle.mit_engine.specs.declared.thin.ThinStep.{ThinStep}
use Rattle.mit_engine.specs.declared.thin.ThinStep.TheVariants as step
use Rattle.mit_engine.proofs.FormedLemmas.{FormedAfter, formed_next}
use Rattle.mit_engine.proofs.Places.{got_beside}

-- ---- how many there are

-- a statement has as many sources as arguments
pub length-sources_of : (assigned : List ℕ) (statement : ThinStep) → length (sources_of assigned statement) ≡ edges_of statement
length-sources_of assigned (step.Read target name count) = refl
length-sources_of assigned (step.Union target left right) = refl
length-sources_of assigned (step.Write source name) = refl

pub length-sources_from : (assigned : List ℕ) (at : ℕ) (steps : List ThinStep) → length (sources_from assigned at steps) ≡ length steps
unfolding sources_from
length-sources_from assigned at [] = refl
length-sources_from assigned at (first ∷ steps) = ap suc (length-sources_from (assigned_after assigned at first) (at + 1) steps)

pub sources_at : (steps : List ThinStep) (at : ℕ) (statement : ThinStep) → slice_get steps at ≡ Some statement
    → (from : List ℕ) × (slice_get (sources steps) at ≡ Some from)
sources_at steps at statement does = got_beside steps (sources steps) at statement (sym (length-sources_from [] 0 steps)) does

pub length-sources_at : (assigned : List ℕ) (at : ℕ) (steps : List ThinStep) (k : ℕ) (statement : ThinStep) (from : List ℕ) → slice_get steps k ≡ Some statement
    → slice_get (sources_from assigned at steps) k ≡ Some from → length from ≡ edges_of statement
unfolding sources_from
length-sources_at assigned at [] k statement from does leads = cc
length-sources_at assigned at (first ∷ steps) zero statement from does leads =
    ap length (sym (same_Some (sources_of assigned first) from leads)) ∙ length-sources_of assigned first ∙ ap edges_of (same_Some first statement does)
length-sources_at assigned at (first ∷ steps) (suc k) statement from does leads =
    length-sources_at (assigned_after assigned at first) (at + 1) steps k statement from does leads

-- ---- what they are

-- the statement assigns a variable
abbrev pub Assigns : ThinStep → Type 0
Assigns (step.Read target name count) = Unit {0}
Assigns (step.Union target left right) = Unit {0}
Assigns (step.Write source name) = ⊥

all_assign : (P : ℕ → Type 0) (assigned : List ℕ) (target at : ℕ) → All P assigned → P at → All P (item_put assigned target at)
all_assign P assigned target at all own =
    cond_both (nat_lt target (length assigned)) (slice_set assigned target at) (assigned ++ at ∷ []) (All P)
    (λ _. All-set P assigned target at own all) (λ _. All-push P assigned at all own)

all_after : (P : ℕ → Type 0) (assigned : List ℕ) (at : ℕ) (first : ThinStep) → All P assigned → (Assigns first → P at) → All P (assigned_after assigned at first)
all_after P assigned at (step.Read target name count) all own = all_assign P assigned target at all (own tt)
all_after P assigned at (step.Union target left right) all own = all_assign P assigned target at all (own tt)
all_after P assigned at (step.Write source name) all own = all

all_sources : (P : ℕ → Type 0) (assigned : List ℕ) (first : ThinStep) → FitsVariables (length assigned) first → All P assigned → All P (sources_of assigned first)
all_sources P assigned (step.Read target name count) fits all = All-nil P
all_sources P assigned (step.Union target left right) fits all =
    All-cons P (assigner assigned left) (assigner assigned right ∷ []) (all left 0 fits.1)
    (All-cons P (assigner assigned right) [] (all right 0 fits.2) (All-nil P))
all_sources P assigned (step.Write source name) fits all = All-cons P (assigner assigned source) [] (all source 0 fits) (All-nil P)

-- what each operator that assigns is to the next one, and so to the later ones, each source is to its target
pub sources_all : (R : ℕ → ℕ → Type 0) (assigned : List ℕ) (at : ℕ) (steps : List ThinStep) → FormedAfter assigned steps
    → ((n source : ℕ) → R n source → R (n + 1) source)
    → ((k n : ℕ) (statement : ThinStep) → n ≡ at + k → slice_get steps k ≡ Some statement → Assigns statement → R (n + 1) n)
    → All (R at) assigned → (k n : ℕ) (from : List ℕ) → n ≡ at + k → slice_get (sources_from assigned at steps) k ≡ Some from → All (R n) from
unfolding sources_from
sources_all R assigned at [] formed more own all k n from here leads = cc
sources_all R assigned at (first ∷ steps) formed more own all zero n from here leads =
    let same : at ≡ n = omega arith in
    let fits = (formed_next assigned at first steps formed).fits in
    subst (λ (m : ℕ). All (R m) from) same (subst (All (R at)) (same_Some (sources_of assigned first) from leads) (all_sources (R at) assigned first fits all))
sources_all R assigned at (first ∷ steps) formed more own all (suc k) n from here leads =
    let now = all_after (R (at + 1)) assigned at first (All-weaker (R at) (R (at + 1)) (more at) assigned all) (own 0 at first (omega arith) refl) in
    sources_all R (assigned_after assigned at first) (at + 1) steps (formed_next assigned at first steps formed).later more
    (λ j m statement is does. own (suc j) m statement (omega arith) does) now k n from (omega arith) leads
