-- One verdict is due over the same words and files, and not more.
use Rattle.std.proofs.Common.{◌≡◌, ◌∙◌, ℕ, List, [], ◌∷◌, ap, sym, subst, refl, inl, inr, arith}
use Rattle.std.specs.Prelude.{◌⊎◌, Bool, true, false, codes, Option, Some, None, Result, Ok, Err}
use Rattle.std.specs.FinMap as fin
use Rattle.mit_rows.specs.Integers.{magnitude}
use Rattle.mit_files.specs.Files.{FileMap}
use Rattle.mit_world.specs.Outside.{AsksAtMost}
use Rattle.mit_ops.specs.declared.types.VarType.{VarType}
use Rattle.mit_script.specs.Accepted.{checked}
use Rattle.mit_script.specs.declared.tree.Script.{Script}
use Rattle.mit_script.specs.declared.typed.CheckCode.{CheckCode}
use Rattle.mit_script.specs.Grammar.{IsSpelled}
use Rattle.mit_parse.specs.Places.{IsRefusedAt}
use Rattle.mit_engine.specs.Thin.{action_count}
use Rattle.mit_engine.specs.declared.thin.ThinStep.{ThinStep}
use Rattle.mit_words.specs.Words.{AreDecisions, AreWordsFor, IsCheckOrPlan, IsCommand, IsUsage}
use Rattle.mit_words.specs.declared.words.Task.{Task}
use Rattle.mit_words.specs.declared.words.Task.TheVariants.{Run, Step, Check, Plan}
use Rattle.mit_words.specs.declared.words.TheConstants.{MAX_DECISIONS}
use Rattle.mit_thin.specs.ThinScript.{thin_steps}
use Rattle.mit_app.specs.Due.{Accepted, AreActions, Due, DueFor, Found, IsFound, IsFoundIn, Misspelled, Missing, Rejected, RunsIn, Verdict, verdict_for}
use Rattle.mit_app.specs.Ends.{Counted, IsShowing}

-- a text spells one script, or is refused at one place
pub record IsRead : Type 0 where
  pub script : (text : List ℕ) (one other : Script) → IsSpelled text one → IsSpelled text other → one ≡ other
  pub place : (text : List ℕ) (one other : ℕ) → IsRefusedAt text one → IsRefusedAt text other → one ≡ other
  pub either : (text : List ℕ) (script : Script) (place : ℕ) → IsSpelled text script → IsRefusedAt text place → ⊥
  pub read : (text : List ℕ) → ((script : Script) × IsSpelled text script) ⊎ ((place : ℕ) × IsRefusedAt text place)

-- ---- what is found

-- what is checked of a script that is another one by name only
moved : (text : List ℕ) (one other : Script) (outcome : Result (List VarType) (ℕ × CheckCode)) → IsRead → IsSpelled text one → IsSpelled text other → checked other ≡ outcome
    → checked one ≡ outcome
moved text one other outcome read a b is = ap checked (read.script text one other a b) ∙ is

same_fault : (a b : ℕ × CheckCode) → ◌≡◌ {A = Result (List VarType) (ℕ × CheckCode)} (Err a) (Err b) → a ≡ b
same_fault a b e = cc

same_rejection : (s t : ℕ) (c d : CheckCode) → ◌≡◌ {A = Result (List VarType) (ℕ × CheckCode)} (Err (s, c)) (Err (t, d)) → Rejected s c ≡ Rejected t d
same_rejection s t c d e = ap (λ (p : ℕ × CheckCode). Rejected p.0 p.1) (same_fault (s, c) (t, d) e)

no_rejection : (fault : ℕ × CheckCode) (types : List VarType) → ◌≡◌ {A = Result (List VarType) (ℕ × CheckCode)} (Err fault) (Ok types) → ⊥
no_rejection fault types e = cc

same_acceptance : (s t : Script) (ts us : List VarType) → s ≡ t → ◌≡◌ {A = Result (List VarType) (ℕ × CheckCode)} (Ok ts) (Ok us) → Accepted s ts ≡ Accepted t us
same_acceptance s t ts us same e = cc

found_once : (look : Option (List ℕ)) (a b : Found) → IsRead → IsFoundIn look a → IsFoundIn look b → a ≡ b
found_once None Missing Missing read x y = refl
found_once None Missing (Misspelled q) read x y = absurd y
found_once None Missing (Rejected t d) read x y = absurd y
found_once None Missing (Accepted t us) read x y = absurd y
found_once None (Misspelled p) b read x y = absurd x
found_once None (Rejected s c) b read x y = absurd x
found_once None (Accepted s ts) b read x y = absurd x
found_once (Some text) Missing b read x y = absurd x
found_once (Some text) (Misspelled p) Missing read x y = absurd y
found_once (Some text) (Misspelled p) (Misspelled q) read x y = ap Misspelled (read.place text p q x y)
found_once (Some text) (Misspelled p) (Rejected s c) read x y = absurd (read.either text y.0 p y.1 x)
found_once (Some text) (Misspelled p) (Accepted s ts) read x y = absurd (read.either text s p y.0 x)
found_once (Some text) (Rejected s c) Missing read x y = absurd y
found_once (Some text) (Rejected s c) (Misspelled q) read x y = absurd (read.either text x.0 q x.1 y)
found_once (Some text) (Rejected s c) (Rejected t d) read x y = same_rejection s t c d (sym x.2 ∙ moved text x.0 y.0 (Err (t, d)) read x.1 y.1 y.2)
found_once (Some text) (Rejected s c) (Accepted t us) read x y = absurd (no_rejection (s, c) us (sym x.2 ∙ moved text x.0 t (Ok us) read x.1 y.0 y.1))
found_once (Some text) (Accepted s ts) Missing read x y = absurd y
found_once (Some text) (Accepted s ts) (Misspelled q) read x y = absurd (read.either text s q x.0 y)
found_once (Some text) (Accepted s ts) (Rejected t d) read x y = absurd (no_rejection (t, d) ts (sym (sym x.1 ∙ moved text s y.0 (Err (t, d)) read x.0 y.1 y.2)))
found_once (Some text) (Accepted s ts) (Accepted t us) read x y =
    same_acceptance s t ts us (read.script text s t x.0 y.0) (sym x.1 ∙ moved text s t (Ok us) read x.0 y.0 y.1)

checked_found : (text : List ℕ) (script : Script) (outcome : Result (List VarType) (ℕ × CheckCode)) → IsSpelled text script → checked script ≡ outcome
    → (found : Found) × IsFoundIn (Some text) found
checked_found text script (Ok types) spelled is = (Accepted script types, (spelled, is))
checked_found text script (Err fault) spelled is = (Rejected fault.0 fault.1, (script, spelled, is))

some_found : (look : Option (List ℕ)) → IsRead → (found : Found) × IsFoundIn look found
some_found None read = (Missing, tt)
some_found (Some text) read = elim (read.read text) [
  | inl spelled ↦ checked_found text spelled.0 (checked spelled.0) spelled.1 refl
  | inr place ↦ (Misspelled place.0, place.1)
]

-- ---- what is due

for_once : (task : Task) (name : List ℕ) (files : FileMap) (v w : Verdict) → IsRead → DueFor task name files v → DueFor task name files w → v ≡ w
for_once task name files v w read x y =
    x.2 ∙ ap (verdict_for task name files) (found_once (fin.get files name) x.0 y.0 read x.1 y.1) ∙ sym y.2

pub some_due : (task : Task) (name : List ℕ) (files : FileMap) → IsRead → (verdict : Verdict) × DueFor task name files verdict
some_due task name files read =
    let found = some_found (fin.get files name) read in
    (verdict_for task name files found.0, (found.0, found.1, refl))

-- words that ask for steps ask for nothing else
step_or_run : (words : List (List ℕ)) (decisions : ℕ) (a b : List ℕ) → AreWordsFor (Step decisions) words a → AreWordsFor Run words b → ⊥
step_or_run words decisions a b (inl x) y = let e = sym x.0 ∙ y in cc
step_or_run words decisions a b (inr x) y = let e = sym x.1 ∙ y in cc

step_or_check : (words : List (List ℕ)) (decisions : ℕ) (shown : Bool) (a b : List ℕ) → AreWordsFor (Step decisions) words a → AreWordsFor (Check shown) words b → ⊥
step_or_check words decisions false a b (inl x) y = let e = sym x.0 ∙ y in cc
step_or_check words decisions false a b (inr x) y = let e = sym x.1 ∙ y in cc
step_or_check words decisions true a b (inl x) y = let e = sym x.0 ∙ y in cc
step_or_check words decisions true a b (inr x) y = let e = sym x.1 ∙ y in cc

-- the first letter of the first word
abbrev first_letter : List (List ℕ) → ℕ
first_letter [] = 0
first_letter ([] ∷ words) = 0
first_letter ((letter ∷ letters) ∷ words) = letter

-- words that ask for a plan ask for nothing else
run_or_plan : (words : List (List ℕ)) (a b : List ℕ) → AreWordsFor Run words a → AreWordsFor Plan words b → ⊥
run_or_plan words a b x y = let e : 114 ≡ 112 = ap first_letter (sym x ∙ y) in absurd (omega (arith, e))

step_or_plan : (words : List (List ℕ)) (decisions : ℕ) (a b : List ℕ) → AreWordsFor (Step decisions) words a → AreWordsFor Plan words b → ⊥
step_or_plan words decisions a b (inl x) y = let e : 115 ≡ 112 = ap first_letter (sym x.0 ∙ y) in absurd (omega (arith, e))
step_or_plan words decisions a b (inr x) y = let e : 115 ≡ 112 = ap first_letter (sym x.1 ∙ y) in absurd (omega (arith, e))

check_or_plan : (words : List (List ℕ)) (shown : Bool) (a b : List ℕ) → AreWordsFor (Check shown) words a → AreWordsFor Plan words b → ⊥
check_or_plan words false a b x y = let e : 99 ≡ 112 = ap first_letter (sym x ∙ y) in absurd (omega (arith, e))
check_or_plan words true a b x y = let e : 99 ≡ 112 = ap first_letter (sym x ∙ y) in absurd (omega (arith, e))

-- two such words of one call are the same words
same_word : (words : List (List ℕ)) (a b x y : List ℕ) → words ≡ codes "step" ∷ a ∷ codes "--decisions" ∷ x ∷ [] → words ≡ codes "step" ∷ b ∷ codes "--decisions" ∷ y ∷ []
    → (x ≡ y) × (a ≡ b)
same_word words a b x y one other = let e = sym one ∙ other in (cc, cc)

same_count : (a b : ℕ) → Some a ≡ Some b → a ≡ b
same_count a b e = cc

-- a word gives at most one number of decisions
decisions_once : (word other : List ℕ) (a b : ℕ) → word ≡ other → AreDecisions word a → AreDecisions other b → a ≡ b
decisions_once word other a b same x y = same_count a b (sym x.0 ∙ ap (magnitude MAX_DECISIONS) same ∙ y.0)

-- and one number of decisions
step_once : (words : List (List ℕ)) (c d : ℕ) (a b : List ℕ) → AreWordsFor (Step c) words a → AreWordsFor (Step d) words b → (Step c ≡ Step d) × (a ≡ b)
step_once words c d a b (inl x) (inl y) = let e = sym x.0 ∙ y.0 in (ap Step (x.1 ∙ sym y.1), cc)
step_once words c d a b (inl x) (inr y) = let e = sym x.0 ∙ y.1 in cc
step_once words c d a b (inr x) (inl y) = let e = sym x.1 ∙ y.0 in cc
step_once words c d a b (inr x) (inr y) =
    let same = same_word words a b x.0 y.0 x.1 y.1 in
    (ap Step (decisions_once x.0 y.0 c d same.0 x.2 y.2), same.1)

-- words are at most one command
command_once : (words : List (List ℕ)) (t u : Task) (a b : List ℕ) → IsCommand words t a → IsCommand words u b → (t ≡ u) × (a ≡ b)
command_once words Run Run a b x y = let e = sym x.0 ∙ y.0 in (refl, cc)
command_once words Run (Step d) a b x y = absurd (step_or_run words d b a y.0 x.0)
command_once words Run (Check false) a b x y = let e = sym x.0 ∙ y.0 in cc
command_once words Run (Check true) a b x y = let e = sym x.0 ∙ y.0 in cc
command_once words Run Plan a b x y = absurd (run_or_plan words a b x.0 y.0)
command_once words (Step c) Run a b x y = absurd (step_or_run words c a b x.0 y.0)
command_once words (Step c) (Step d) a b x y = step_once words c d a b x.0 y.0
command_once words (Step c) (Check shown) a b x y = absurd (step_or_check words c shown a b x.0 y.0)
command_once words (Step c) Plan a b x y = absurd (step_or_plan words c a b x.0 y.0)
command_once words (Check false) Run a b x y = let e = sym x.0 ∙ y.0 in cc
command_once words (Check true) Run a b x y = let e = sym x.0 ∙ y.0 in cc
command_once words (Check shown) (Step d) a b x y = absurd (step_or_check words d shown b a y.0 x.0)
command_once words (Check false) (Check false) a b x y = let e = sym x.0 ∙ y.0 in (refl, cc)
command_once words (Check false) (Check true) a b x y = let e = sym x.0 ∙ y.0 in cc
command_once words (Check true) (Check false) a b x y = let e = sym x.0 ∙ y.0 in cc
command_once words (Check true) (Check true) a b x y = let e = sym x.0 ∙ y.0 in (refl, cc)
command_once words (Check shown) Plan a b x y = absurd (check_or_plan words shown a b x.0 y.0)
command_once words Plan Run a b x y = absurd (run_or_plan words b a y.0 x.0)
command_once words Plan (Step d) a b x y = absurd (step_or_plan words d b a y.0 x.0)
command_once words Plan (Check shown) a b x y = absurd (check_or_plan words shown b a y.0 x.0)
command_once words Plan Plan a b x y = let e = sym x.0 ∙ y.0 in (refl, cc)

-- words that ask for a check or a plan of a script are the command of a task that shows, with that script
showing_command : (words : List (List ℕ)) (task : Task) (name script : List ℕ) → IsCommand words task name → IsCheckOrPlan words script → IsShowing task × (name ≡ script)
showing_command words task name script command (inl check) =
    let same = command_once words task (Check check.0) name script command check.1 in
    (subst (λ (t : Task). IsShowing t) (sym same.0) tt, same.1)
showing_command words task name script command (inr plan) =
    let same = command_once words task Plan name script command plan in
    (subst (λ (t : Task). IsShowing t) (sym same.0) tt, same.1)

-- so the folder is asked for that script at most, where such tasks ask for theirs at most
pub asks_for_script : (words : List (List ℕ)) (task : Task) (name script : List ℕ) (before now : Option (List (List ℕ))) → IsCommand words task name
    → (IsShowing task → AsksAtMost name before now) → IsCheckOrPlan words script → AsksAtMost script before now
asks_for_script words task name script before now command asks looks =
    let shows = showing_command words task name script command looks in
    subst (λ (n : List ℕ). AsksAtMost n before now) shows.1 (asks shows.0)

-- what is due for the task and the name of a command is what is due over its words
once : (words : List (List ℕ)) (files : FileMap) (task : Task) (name : List ℕ) (v w : Verdict) → IsRead → IsCommand words task name → DueFor task name files v
    → Due words files w → v ≡ w
once words files task name v w read run d (inl usage) = absurd (usage.0 task name run)
once words files task name v w read run d (inr due) =
    let same = command_once words due.0 task due.1 name due.2 run in
    for_once task name files v w read d (subst (λ (n : List ℕ). DueFor task n files w) same.1 (subst (λ (t : Task). DueFor t due.1 files w) same.0 due.3))

pub due_once : (words : List (List ℕ)) (files : FileMap) (v w : Verdict) → IsRead → Due words files v → Due words files w → v ≡ w
due_once words files v w read (inl x) (inl y) = x.1 ∙ sym y.1
due_once words files v w read (inl x) (inr y) = absurd (x.0 y.0 y.1 y.2)
due_once words files v w read (inr x) y = once words files x.0 x.1 v w read x.2 x.3 y

-- ---- the number of actions

actions_at : Option (List ThinStep) → ℕ
actions_at None = 0
actions_at (Some steps) = action_count steps

-- whatever a script is, its actions are counted
pub any_actions : (script : Script) → (actions : ℕ) × ((steps : List ThinStep) → thin_steps script ≡ Some steps → actions ≡ action_count steps)
unfolding actions_at
any_actions script = (actions_at (thin_steps script), λ steps is. ap actions_at is)

pub counted_at : (name : List ℕ) (files : FileMap) (script : Script) (types : List VarType) → IsFound files name (Accepted script types)
    → (actions : ℕ) × Counted name files actions
counted_at name files script types found = let counts = any_actions script in (counts.0, (script, types, found, counts.1))

same_script : (one other : Script) (types others : List VarType) → Accepted one types ≡ Accepted other others → one ≡ other
same_script one other types others e = cc

-- counted for the script that was found, they are those of any script that is found
are_actions : (name : List ℕ) (files : FileMap) (actions : ℕ) → IsRead → Counted name files actions → AreActions name files actions
are_actions name files actions read counted script types steps found thin =
    let same = same_script counted.0 script counted.1 types (found_once (fin.get files name) (Accepted counted.0 counted.1) (Accepted script types) read counted.2 found) in
    counted.3 steps (ap thin_steps same ∙ thin)

pub runs_in : (words : List (List ℕ)) (task : Task) (name : List ℕ) (files : FileMap) (actions : ℕ) → IsRead → IsCommand words task name → Counted name files actions → RunsIn words files actions
runs_in words task name files actions read command counted other run =
    let same = command_once words task Run name other command run in
    subst (λ (n : List ℕ). AreActions n files actions) same.1 (are_actions name files actions read counted)

no_accepted : (script : Script) (types : List VarType) (found : Found) → Accepted script types ≡ found → (found ≡ Missing) ⊎ (((place : ℕ) × (found ≡ Misspelled place)) ⊎ ((s : ℕ) × (c : CheckCode) × (found ≡ Rejected s c))) → ⊥
no_accepted script types found e (inl is) = let x = e ∙ is in cc
no_accepted script types found e (inr (inl is)) = let x = e ∙ is.1 in cc
no_accepted script types found e (inr (inr is)) = let x = e ∙ is.2 in cc

-- there are such actions, whatever is found
found_actions : (name : List ℕ) (files : FileMap) (found : Found) → IsRead → IsFound files name found → (actions : ℕ) × AreActions name files actions
found_actions name files (Accepted script types) read is =
    let counted = counted_at name files script types is in
    (counted.0, are_actions name files counted.0 read counted.1)
found_actions name files Missing read is =
    (0, λ script types steps there thin. absurd (no_accepted script types Missing (found_once (fin.get files name) (Accepted script types) Missing read there is) (inl refl)))
found_actions name files (Misspelled place) read is = (
  0,
  λ script types steps there thin. absurd (no_accepted script types (Misspelled place) (found_once (fin.get files name) (Accepted script types) (Misspelled place) read there is)
      (inr (inl (place, refl)))),
)
found_actions name files (Rejected s c) read is = (
  0,
  λ script types steps there thin. absurd (no_accepted script types (Rejected s c) (found_once (fin.get files name) (Accepted script types) (Rejected s c) read there is)
      (inr (inr (s, c, refl)))),
)

pub some_runs_in : (words : List (List ℕ)) (task : Task) (name : List ℕ) (files : FileMap) → IsRead → IsCommand words task name → (actions : ℕ) × RunsIn words files actions
some_runs_in words task name files read command =
    let found = some_found (fin.get files name) read in
    let counts = found_actions name files found.0 read found.1 in (
      counts.0,
      λ other run.
          let same = command_once words task Run name other command run in
          subst (λ (n : List ℕ). AreActions n files counts.0) same.1 counts.1,
    )

pub usage_runs_in : (words : List (List ℕ)) (files : FileMap) → IsUsage words → RunsIn words files 0
usage_runs_in words files usage name run = absurd (usage Run name run)
