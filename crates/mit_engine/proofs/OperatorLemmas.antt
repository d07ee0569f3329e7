-- Loops over the operators and their edges: what is made so far, with what the rest makes, gives the whole.
use Rattle.std.proofs.Common.{◌≡◌, ◌∙◌, ◌<◌, ◌≤◌, ◌+◌, ◌-◌, ℕ, List, [], ◌∷◌, ◌++◌, length, drop, get_or, ap, sym, subst, refl, arith}
use Rattle.std.specs.Prelude.{Bool, true, false, ◌==◌, if◌then◌else◌, Option, Some, None, map, take}
use Rattle.std.proofs.lemmas.Bool.{eqb-true, false≢true}
use Rattle.std.proofs.lemmas.List.{append-nil, append_assoc, at_drop_all, drop_all, get_or-append_right, get_or-drop, length-map, length-take-le}
use Rattle.mit_rows.specs.Bags.{BagOf}
use Rattle.mit_files.specs.Files.{FileMap}
use Rattle.mit_files.specs.Printed.{published_onto}
use Rattle.mit_engine.specs.Operators.{staged_write, staged_writes}
use Rattle.mit_engine.specs.Running.{verdict_at, verdict_from, where_any}
use Rattle.mit_engine.specs.declared.operators.Operator.{Operator}
use Rattle.mit_engine.specs.declared.operators.Outcome.{Outcome}
use Rattle.mit_engine.specs.declared.job.Action.{Action}
use Rattle.mit_engine.specs.declared.job.Verdict.{Verdict}
use Rattle.mit_engine.specs.declared.job.Verdict.TheVariants as verdict
use Rattle.mit_engine.specs.declared.thin.ThinStep.{ThinStep}
use Rattle.mit_engine.specs.declared.thin.ThinStep.TheVariants as step
use Rattle.mit_engine.proofs.FormedLemmas.{FormedAfter, FormedNext, formed_next}
use Rattle.mit_engine.proofs.Places.{at_hand}

-- ---- a list that is made of the items one after another

-- what the item at hand makes, and what the later ones make, is what was left to make
pub made_more : {X A : Type 0} (F G : List X → List A) (made : List A) (xs : List X) (at : ℕ) (x : X) (before after whole : List A)
    → F (x ∷ drop (at + 1) xs) ≡ made ++ G (drop (at + 1) xs) → at < length xs → x ≡ get_or xs at x
    → before ++ F (drop at xs) ≡ whole → after ≡ before ++ made → after ++ G (drop (at + 1) xs) ≡ whole
made_more F G made xs at x before after whole makes within is so_far grown =
    ap (λ some. some ++ G (drop (at + 1) xs)) grown ∙ append_assoc before made (G (drop (at + 1) xs))
    ∙ ap (λ rest. before ++ rest) (sym makes ∙ ap F (sym (at_hand xs at x within is))) ∙ so_far

pub made_all : {X A : Type 0} (F : List X → List A) (xs : List X) (at : ℕ) (before whole : List A) → F [] ≡ [] → length xs ≤ at → before ++ F (drop at xs) ≡ whole → before ≡ whole
made_all F xs at before whole none all so_far = sym (append-nil before) ∙ ap (λ rest. before ++ rest) (sym (at_drop_all F xs at all ∙ none)) ∙ so_far

-- ---- items that are changed in place one after another

-- the item at hand is still as it was
pub untouched : {X : Type 0} (f : X → X) (xs ys : List X) (at : ℕ) (x : X) → at < length xs → ys ≡ map f (take at xs) ++ drop at xs → x ≡ get_or ys at x → x ≡ get_or xs at x
untouched f xs ys at x within so_far is =
    let reached : length (map f (take at xs)) ≡ at = length-map (take at xs) f ∙ length-take-le at xs (omega arith) in
    is ∙ ap (λ zs. get_or zs at x) so_far ∙ get_or-append_right (map f (take at xs)) (drop at xs) at at x reached (omega arith)
    ∙ get_or-drop at xs (at - at) x ∙ ap (λ n. get_or xs n x) (omega arith)

-- ---- the offer

-- an action joins the offer where its channel is not empty
pub offered : {M : Type 0} (messages : List M) (one : Action) (before after : List Action) (empty : Bool) → empty ≡ (length messages == 0) → empty ≡ false
    → after ≡ before ++ one ∷ [] → after ≡ before ++ where_any messages one
offered [] one before after empty is some joined = absurd (false≢true (sym some ∙ is))
offered (message ∷ later) one before after empty is some joined = joined

pub not_offered : {M : Type 0} (messages : List M) (one : Action) (before after : List Action) (empty : Bool) → empty ≡ (length messages == 0) → empty ≡ true
    → after ≡ before → after ≡ before ++ where_any messages one
not_offered [] one before after empty is any same = same ∙ sym (append-nil before)
not_offered (message ∷ later) one before after empty is any same = absurd (omega (arith, eqb-true (length (message ∷ later)) 0 (sym is ∙ any)))

-- a poll joins the offer where its operator can be polled
pub poll_offered : (can : Bool) (one : Action) (before after : List Action) (result : Bool) → result ≡ can → result ≡ true
    → after ≡ before ++ one ∷ [] → after ≡ before ++ (if can then one ∷ [] else [])
poll_offered true one before after result is some joined = joined
poll_offered false one before after result is some joined = absurd (false≢true (sym is ∙ some))

pub poll_not_offered : (can : Bool) (one : Action) (before after : List Action) (result : Bool) → result ≡ can → result ≡ false
    → after ≡ before → after ≡ before ++ (if can then one ∷ [] else [])
poll_not_offered true one before after result is none same = absurd (false≢true (sym none ∙ is))
poll_not_offered false one before after result is none same = same ∙ sym (append-nil before)

-- ---- the bags of a poll

-- the bag of one edge joins them, where it is here
pub bag_joins : (bags due before after : List BagOf) (bag : BagOf) → bags ≡ due → bags ≡ bag ∷ [] → after ≡ before ++ bag ∷ [] → after ≡ before ++ due
bag_joins bags due before after bag is one joined = joined ∙ ap (λ more. before ++ more) (sym one ∙ is)

pub no_bag_joins : (bags due before after : List BagOf) → bags ≡ due → bags ≡ [] → after ≡ before → after ≡ before ++ due
no_bag_joins bags due before after is none same = same ∙ sym (append-nil before) ∙ ap (λ more. before ++ more) (sym none ∙ is)

-- ---- the verdict

-- the first of the operators that are left, by its report that was heard
pub verdict_heard : (operators : List Operator) (at : ℕ) (operator : Operator) (heard : Option Outcome) (whole : Verdict) → at < length operators → operator ≡ get_or operators at operator
    → operator.heard ≡ heard → verdict_from at (drop at operators) ≡ whole → verdict_at at heard (verdict_from (at + 1) (drop (at + 1) operators)) ≡ whole
unfolding verdict_from
verdict_heard operators at operator heard whole within is heard_is so_far =
    ap (λ h. verdict_at at h (verdict_from (at + 1) (drop (at + 1) operators))) (sym heard_is)
    ∙ ap (verdict_from at) (sym (at_hand operators at operator within is)) ∙ so_far

pub verdict_end : (operators : List Operator) (at : ℕ) (whole : Verdict) → length operators ≤ at → verdict_from at (drop at operators) ≡ whole → verdict.Complete ≡ whole
unfolding verdict_from
verdict_end operators at whole all so_far = sym (at_drop_all (verdict_from at) operators at all) ∙ so_far

-- ---- the statements that are left of a formed script

-- the statement at hand names what is assigned, and the later ones are formed after it
pub formed_at_hand : (assigned : List ℕ) (steps : List ThinStep) (at : ℕ) (first : ThinStep) → at < length steps → first ≡ get_or steps at first
    → FormedAfter assigned (drop at steps) → FormedNext assigned at first (drop (at + 1) steps)
formed_at_hand assigned steps at first within is formed =
    formed_next assigned at first (drop (at + 1) steps) (subst (FormedAfter assigned) (at_hand steps at first within is) formed)

-- ---- the files of the writes

-- the files of one operator, and then those of the later ones
published_next : (written : FileMap) (first : ThinStep) (steps : List ThinStep) (operator : Operator) (operators : List Operator)
    → published_onto (published_onto written (staged_writes (first ∷ []) (operator ∷ []))) (staged_writes steps operators) ≡ published_onto written (staged_writes (first ∷ steps) (operator ∷ operators))
unfolding staged_writes published_onto
published_next written (step.Read target name count) steps operator operators = refl
published_next written (step.Union target left right) steps operator operators = refl
published_next written (step.Write source name) steps operator operators = by_staged operator.staged
  where
    by_staged : (staged : Option BagOf) → published_onto (published_onto written (staged_write name staged [])) (staged_writes steps operators)
        ≡ published_onto written (staged_write name staged (staged_writes steps operators))
    by_staged None = refl
    by_staged (Some bag) = refl

pub files_more : (steps : List ThinStep) (operators : List Operator) (at : ℕ) (first : ThinStep) (operator : Operator) (before after whole : FileMap)
    → at < length steps → at < length operators → first ≡ get_or steps at first → operator ≡ get_or operators at operator
    → published_onto before (staged_writes (drop at steps) (drop at operators)) ≡ whole → after ≡ published_onto before (staged_writes (first ∷ []) (operator ∷ []))
    → published_onto after (staged_writes (drop (at + 1) steps) (drop (at + 1) operators)) ≡ whole
files_more steps operators at first operator before after whole within inside is this so_far grown =
    ap (λ files. published_onto files (staged_writes (drop (at + 1) steps) (drop (at + 1) operators))) grown
    ∙ published_next before first (drop (at + 1) steps) operator (drop (at + 1) operators)
    ∙ ap (λ rest. published_onto before (staged_writes rest (operator ∷ drop (at + 1) operators))) (sym (at_hand steps at first within is))
    ∙ ap (λ rest. published_onto before (staged_writes (drop at steps) rest)) (sym (at_hand operators at operator inside this)) ∙ so_far

pub files_end : (steps : List ThinStep) (operators : List Operator) (at : ℕ) (written whole : FileMap) → length steps ≤ at
    → published_onto written (staged_writes (drop at steps) (drop at operators)) ≡ whole → written ≡ whole
unfolding staged_writes published_onto
files_end steps operators at written whole all so_far =
    sym (ap (λ (rest : List ThinStep). published_onto written (staged_writes rest (drop at operators))) (drop_all at steps all)) ∙ so_far
