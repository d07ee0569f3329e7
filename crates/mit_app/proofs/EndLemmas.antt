-- How the end of a task is what is due.
use Rattle.std.proofs.Common.{append_assoc, ◌≡◌, ◌≢◌, ◌∙◌, ◌++◌, ℕ, List, [], ap, sym, subst, refl, arith, inl, inr}
use Rattle.std.specs.Prelude.{◌⊎◌, Option, Some, None, IfSome, Err, option_map}
use Rattle.std.specs.FinMap as fin
use Rattle.mit_files.specs.Files.{FileMap}
use Rattle.mit_world.specs.Outside.{Continues, Held}
use Rattle.mit_shelf.specs.Shelf.{Agrees, Kept, kept_files}
use Rattle.mit_shelf.specs.Staging.{stages_all}
use Rattle.mit_words.specs.Words.{IsCommand, IsUsage}
use Rattle.mit_words.specs.declared.words.Task.{Task}
use Rattle.mit_app.specs.Answers.{Answers, Gains, Leaves, Publishing, Stages, TellsFiles}
use Rattle.mit_app.specs.Due.{DueFor, Publishes, Refused, Shows, Verdict, console_text}
use Rattle.mit_app.specs.Ends.{Ends, EndsStaging, EndsWell, IfLine, StagesFront, StopsStaging, halt_line, halt_status}
use Rattle.mit_app.specs.Lines.{outside_line, refusal_line}
use Rattle.mit_app.specs.Statuses.{IsOutside, IsUnstaged, refusal_status}
use Rattle.mit_app.specs.declared.ends.Halt.{Halt}
use Rattle.mit_app.specs.declared.ends.Halt.TheVariants as halt
use Rattle.mit_app.specs.declared.ends.Outside.{Outside}
use Rattle.mit_app.specs.declared.ends.Outside.TheVariants as outside
use Rattle.mit_app.specs.declared.ends.Refusal.{Refusal}
use Rattle.mit_app.specs.declared.ends.Refusal.TheVariants as refusal
use Rattle.mit_app.proofs.DueLemmas.{IsRead, runs_in, some_due, some_runs_in, usage_runs_in}

-- ---- the files over which a call answers

-- there are files with which the shelf agrees: those that the folder tells, or those that it keeps
files_for : (told : Option FileMap) (shelf : Kept) → ((kept : Kept) → Agrees kept (kept_files kept)) → IfSome told (λ files. Agrees shelf files)
    → (files : FileMap) × TellsFiles told files × Agrees shelf files
files_for None shelf law agrees = (kept_files shelf, tt, law shelf)
files_for (Some known) shelf law agrees = (known, refl, agrees)

-- a shelf that was empty has agreed with all files
agrees_first : (told : Option FileMap) (old new : Kept) → ((files : FileMap) → Agrees old files) → IfSome told (λ files. Agrees old files → Agrees new files)
    → IfSome told (λ files. Agrees new files)
agrees_first None old new empty agrees = tt
agrees_first (Some files) old new empty agrees = agrees (empty files)

empty_agrees : (shelf : Kept) → shelf ≡ [] → (files : FileMap) → Agrees shelf files
empty_agrees shelf none files = subst (λ (k : Kept). Agrees k files) (sym none) (λ name. tt)

-- after calls that began with an empty shelf
pub files_after : (told : Option FileMap) (first last : Kept) → first ≡ [] → ((kept : Kept) → Agrees kept (kept_files kept))
    → IfSome told (λ files. Agrees first files → Agrees last files) → (files : FileMap) × TellsFiles told files × Agrees last files
files_after told first last none law agrees = files_for told last law (agrees_first told first last (empty_agrees first none) agrees)

-- two steps after one another
pub agrees_both : (told told' : Option FileMap) (old mid new : Kept) → told' ≡ told → IfSome told (λ files. Agrees old files → Agrees mid files)
    → IfSome told' (λ files. Agrees mid files → Agrees new files) → IfSome told (λ files. Agrees old files → Agrees new files)
agrees_both None told' old mid new same first second = tt
agrees_both (Some files) told' old mid new same first second = λ before.
    subst (λ (t : Option FileMap). IfSome t (λ f. Agrees mid f → Agrees new f)) same second (first before)

pub some_files : (told : Option FileMap) → (files : FileMap) × TellsFiles told files
some_files None = (fin.empty, tt)
some_files (Some known) = (known, refl)

-- ---- statuses

-- what is refused has a status of its own
pub refusal_small : (why : Refusal) → (refusal_status why ≢ 4) × (refusal_status why ≢ 5) × (refusal_status why ≢ 6) × (refusal_status why ≢ 7) × (refusal_status why ≢ 0)
refusal_small refusal.Usage = (omega arith, omega arith, omega arith, omega arith, omega arith)
refusal_small (refusal.Absent name) = (omega arith, omega arith, omega arith, omega arith, omega arith)
refusal_small (refusal.Syntax place) = (omega arith, omega arith, omega arith, omega arith, omega arith)
refusal_small (refusal.Statement s c) = (omega arith, omega arith, omega arith, omega arith, omega arith)
refusal_small refusal.NotThin = (omega arith, omega arith, omega arith, omega arith, omega arith)
refusal_small refusal.TooLarge = (omega arith, omega arith, omega arith, omega arith, omega arith)
refusal_small (refusal.Fault fault) = (omega arith, omega arith, omega arith, omega arith, omega arith)

-- a halt ended with this status: its own, or that of a line that could not be put
abbrev pub HaltsWith : Halt → ℕ → Type 0
HaltsWith h status = (status ≡ halt_status h) ⊎ (status ≡ 6) ⊎ (status ≡ 7)

pub halts_apart : (h : Halt) (status : ℕ) → HaltsWith h status → status ≢ 0
halts_apart (halt.Refused why) status (inl is) = λ e. (refusal_small why).4 (sym is ∙ e)
halts_apart (halt.Failed outside.Folder) status (inl is) = λ e. absurd (omega (arith, is, e))
halts_apart (halt.Failed outside.Outbox) status (inl is) = λ e. absurd (omega (arith, is, e))
halts_apart (halt.Failed outside.Console) status (inl is) = λ e. absurd (omega (arith, is, e))
halts_apart (halt.Failed outside.NoMemory) status (inl is) = λ e. absurd (omega (arith, is, e))
halts_apart h status (inr (inl is)) = λ e. absurd (omega (arith, is, e))
halts_apart h status (inr (inr is)) = λ e. absurd (omega (arith, is, e))

-- what failed outside has a status of the outside
failed_outside : (why : Outside) (status : ℕ) → HaltsWith (halt.Failed why) status → IsOutside status
failed_outside why status (inl is) = (why, is)
failed_outside why status (inr (inl is)) = (outside.Console, is)
failed_outside why status (inr (inr is)) = (outside.NoMemory, is)

-- only the outbox has the status 5
not_outbox : (h : Halt) (status : ℕ) → (h ≢ halt.Failed outside.Outbox) → HaltsWith h status → status ≢ 5
not_outbox (halt.Refused why) status other (inl is) = λ e. (refusal_small why).1 (sym is ∙ e)
not_outbox (halt.Failed outside.Folder) status other (inl is) = λ e. absurd (omega (arith, is, e))
not_outbox (halt.Failed outside.Outbox) status other (inl is) = λ e. other refl
not_outbox (halt.Failed outside.Console) status other (inl is) = λ e. absurd (omega (arith, is, e))
not_outbox (halt.Failed outside.NoMemory) status other (inl is) = λ e. absurd (omega (arith, is, e))
not_outbox h status other (inr (inl is)) = λ e. absurd (omega (arith, is, e))
not_outbox h status other (inr (inr is)) = λ e. absurd (omega (arith, is, e))

-- ---- what the outbox and the console gained

gains_after : (text : List ℕ) (old mid new : Option (List ℕ)) → mid ≡ old → Gains text mid new → Gains text old new
gains_after text old mid new same is = is ∙ ap (option_map (λ before. before ++ text)) same

gains_both : (one other : List ℕ) (old mid new : Option (List ℕ)) → Gains one old mid → Gains other mid new → Gains (one ++ other) old new
gains_both one other None mid new first second = second ∙ ap (option_map (λ before. before ++ other)) first
gains_both one other (Some before) mid new first second =
    second ∙ ap (option_map (λ text. text ++ other)) first ∙ ap Some (append_assoc before one other)

-- what a console had written stays over two steps
pub continues_both : (old mid new : Option (List ℕ)) → Continues old mid → Continues mid new → Continues old new
continues_both None mid new first second = subst (λ (m : Option (List ℕ)). Continues m new) first second
continues_both (Some before) mid new first second =
    let next = subst (λ (m : Option (List ℕ)). Continues m new) first.1 second in
    (first.0 ++ next.0, next.1 ∙ ap Some (append_assoc before first.0 next.0))

stages_none : (files : FileMap) (old new : Option Held) → new ≡ old → Stages 0 files old new
unfolding stages_all
stages_none files None new is = is
stages_none files (Some held) new is = is

-- an outbox that is as it was, at a status that is neither 0 nor its own
untouched : {O : Type 0} (held : O → Option Held) (verdict : Verdict) (actions status : ℕ) (old new : O) (written written' : Option (List ℕ))
    → status ≢ 0 → status ≢ 5 → new ≡ old → Leaves held verdict actions status old new written written'
untouched held (Refused why) actions status old new written written' none own same = (same, own)
untouched held (Shows text) actions status old new written written' none own same = (same, own)
untouched held (Publishes files tally) actions status old new written written' none own same = record {
  done = λ e. absurd (none e);
  count = 0;
  within = omega arith;
  staged = λ _. stages_none files (held old) (held new) (ap held same);
  stopped = λ e. absurd (own e);
}

-- ---- the answer

pub answers_well : {O : Type 0} (held : O → Option Held) (words : List (List ℕ)) (task : Task) (name : List ℕ) (files : FileMap) (old new : O) (written written' : Option (List ℕ))
    → IsRead → IsCommand words task name → EndsWell held task name files old new written written' → Answers held words files 0 old new written written'
answers_well held words task name files old new written written' read command ends = record {
  verdict = ends.verdict;
  due = inr (task, name, command, ends.due);
  actions = ends.actions;
  counted = runs_in words task name files ends.actions read command ends.counted;
  answered = inr (sym ends.well, ends.text);
  outbox = ends.outbox;
}

-- a call that was halted by the outside before it called the outbox
answers_untouched : {O : Type 0} (held : O → Option Held) (words : List (List ℕ)) (task : Task) (name : List ℕ) (files : FileMap) (status : ℕ) (old new : O) (written written' : Option (List ℕ))
    → IsRead → IsCommand words task name → IsOutside status → status ≢ 0 → status ≢ 5 → new ≡ old → Answers held words files status old new written written'
answers_untouched held words task name files status old new written written' read command is none own same =
    let due = some_due task name files read in
    let counts = some_runs_in words task name files read command in
    record {
      verdict = due.0;
      due = inr (task, name, command, due.1);
      actions = counts.0;
      counted = counts.1;
      answered = inl is;
      outbox = untouched held due.0 counts.0 status old new written written' none own same;
    }

-- a call whose publication stopped, at a status that is not the outbox's
answers_some : {O : Type 0} (held : O → Option Held) (words : List (List ℕ)) (task : Task) (name : List ℕ) (files : FileMap) (status : ℕ) (old new : O) (written written' : Option (List ℕ))
    → IsRead → IsCommand words task name → IsOutside status → status ≢ 0 → status ≢ 5
    → EndsStaging task name files (λ published report. StagesFront published (held old) (held new)) → Answers held words files status old new written written'
answers_some held words task name files status old new written written' read command is none own ends = record {
  verdict = Publishes ends.published ends.tally;
  due = inr (task, name, command, ends.due);
  actions = ends.actions;
  counted = runs_in words task name files ends.actions read command ends.counted;
  answered = inl is;
  outbox = record {
    done = λ e. absurd (none e);
    count = ends.stopped.0;
    within = ends.stopped.1;
    staged = λ _. ends.stopped.2;
    stopped = λ e. absurd (own e);
  };
}

-- a call that was halted by the outside, before it called the outbox or while it did
answers_perhaps : {O : Type 0} (held : O → Option Held) (words : List (List ℕ)) (task : Task) (name : List ℕ) (files : FileMap) (status : ℕ) (old new : O) (written written' : Option (List ℕ))
    → IsRead → IsCommand words task name → IsOutside status → status ≢ 0 → status ≢ 5
    → (new ≡ old) ⊎ EndsStaging task name files (λ published report. StagesFront published (held old) (held new)) → Answers held words files status old new written written'
answers_perhaps held words task name files status old new written written' read command is none own (inl same) =
    answers_untouched held words task name files status old new written written' read command is none own same
answers_perhaps held words task name files status old new written written' read command is none own (inr ends) =
    answers_some held words task name files status old new written written' read command is none own ends

-- how far a publication came that the outbox stopped, by the line after it
stopped_publishing : (files : FileMap) (report : List ℕ) (status : ℕ) (old new : Option Held) (written mid written' : Option (List ℕ))
    → status ≢ 0 → StopsStaging files report old new written mid → (status ≡ 5 → Gains (outside_line outside.Outbox) mid written')
    → Publishing files report status old new written written'
stopped_publishing files report status old new written mid written' none (inl stops) line = record {
  done = λ e. absurd (none e);
  count = stops.0;
  within = omega (arith, stops.1);
  staged = λ _. stops.2;
  stopped = λ e. inl (stops.1, gains_after (outside_line outside.Outbox) written mid written' stops.3 (line e));
}
stopped_publishing files report status old new written mid written' none (inr stops) line = record {
  done = λ e. absurd (none e);
  count = fin.len files;
  within = omega arith;
  staged = λ _. stops.0;
  stopped = λ e. inr (refl, gains_both report (outside_line outside.Outbox) written mid written' stops.1 (line e));
}

answers_stopped : {O : Type 0} (held : O → Option Held) (words : List (List ℕ)) (task : Task) (name : List ℕ) (files : FileMap) (status : ℕ) (old new : O) (written mid written' : Option (List ℕ))
    → IsRead → IsCommand words task name → IsOutside status → status ≢ 0
    → EndsStaging task name files (λ published report. StopsStaging published report (held old) (held new) written mid)
    → (status ≡ 5 → Gains (outside_line outside.Outbox) mid written') → Answers held words files status old new written written'
answers_stopped held words task name files status old new written mid written' read command is none ends line = record {
  verdict = Publishes ends.published ends.tally;
  due = inr (task, name, command, ends.due);
  actions = ends.actions;
  counted = runs_in words task name files ends.actions read command ends.counted;
  answered = inl is;
  outbox = stopped_publishing ends.published (console_text (Publishes ends.published ends.tally) ends.actions) status (held old) (held new) written mid written' none ends.stopped line;
}

-- what is refused is answered with its line, or the line could not be put
answers_refused : {O : Type 0} (held : O → Option Held) (words : List (List ℕ)) (task : Task) (name : List ℕ) (files : FileMap) (status : ℕ) (old new : O) (written mid written' : Option (List ℕ)) (why : Refusal)
    → IsRead → IsCommand words task name → DueFor task name files (Refused why) → new ≡ old → mid ≡ written → HaltsWith (halt.Refused why) status
    → (status ≡ refusal_status why → Gains (refusal_line why) mid written') → Answers held words files status old new written written'
answers_refused held words task name files status old new written mid written' why read command due same untold halts line =
    let counts = some_runs_in words task name files read command in
    let own : status ≢ 5 = not_outbox (halt.Refused why) status (λ e. cc) halts in
    record {
      verdict = Refused why;
      due = inr (task, name, command, due);
      actions = counts.0;
      counted = counts.1;
      answered = elim halts [
        | inl is ↦ inr (is, gains_after (refusal_line why) written mid written' untold (line is))
        | inr (inl is) ↦ inl (outside.Console, is)
        | inr (inr is) ↦ inl (outside.NoMemory, is)
      ];
      outbox = (same, own);
    }

-- the answer of a task that was halted
pub answers_halted : {O : Type 0} (held : O → Option Held) (words : List (List ℕ)) (task : Task) (name : List ℕ) (files : FileMap) (status : ℕ) (old new : O) (written mid written' : Option (List ℕ)) (h : Halt)
    → IsRead → IsCommand words task name → Ends held task name files old new written mid (Err h) → HaltsWith h status
    → (status ≡ halt_status h → IfLine h (Gains (halt_line h) mid written')) → Answers held words files status old new written written'
answers_halted held words task name files status old new written mid written' (halt.Refused why) read command ends halts line =
    answers_refused held words task name files status old new written mid written' why read command ends.0 ends.1 ends.2 halts line
answers_halted held words task name files status old new written mid written' (halt.Failed outside.Folder) read command ends halts line =
    answers_untouched held words task name files status old new written written' read command (failed_outside outside.Folder status halts)
    (halts_apart (halt.Failed outside.Folder) status halts) (not_outbox (halt.Failed outside.Folder) status (λ e. cc) halts) ends.0
answers_halted held words task name files status old new written mid written' (halt.Failed outside.Outbox) read command ends halts line =
    answers_stopped held words task name files status old new written mid written' read command (failed_outside outside.Outbox status halts)
    (halts_apart (halt.Failed outside.Outbox) status halts) ends line
answers_halted held words task name files status old new written mid written' (halt.Failed outside.Console) read command ends halts line =
    answers_perhaps held words task name files status old new written written' read command (failed_outside outside.Console status halts)
    (halts_apart (halt.Failed outside.Console) status halts) (not_outbox (halt.Failed outside.Console) status (λ e. cc) halts) ends
answers_halted held words task name files status old new written mid written' (halt.Failed outside.NoMemory) read command ends halts line =
    answers_perhaps held words task name files status old new written written' read command (failed_outside outside.NoMemory status halts)
    (halts_apart (halt.Failed outside.NoMemory) status halts) (not_outbox (halt.Failed outside.NoMemory) status (λ e. cc) halts) ends

-- words that are no command
pub answers_usage : {O : Type 0} (held : O → Option Held) (words : List (List ℕ)) (files : FileMap) (status : ℕ) (old new : O) (written written' : Option (List ℕ))
    → IsUsage words → new ≡ old → HaltsWith (halt.Refused refusal.Usage) status → (status ≡ 2 → Gains (refusal_line refusal.Usage) written written')
    → Answers held words files status old new written written'
answers_usage held words files status old new written written' usage same halts line = record {
  verdict = Refused refusal.Usage;
  due = inl (usage, refl);
  actions = 0;
  counted = usage_runs_in words files usage;
  answered = elim halts [
    | inl is ↦ inr (is, line is)
    | inr (inl is) ↦ inl (outside.Console, is)
    | inr (inr is) ↦ inl (outside.NoMemory, is)
  ];
  outbox = (same, not_outbox (halt.Refused refusal.Usage) status (λ e. cc) halts);
}

-- ---- before staging

-- a status that comes before staging is not one of a call that was halted later
not_unstaged : (status : ℕ) → IsUnstaged status → (status ≢ 5) × (status ≢ 6) × (status ≢ 7)
not_unstaged status (inl (why, is)) =
    let small = refusal_small why in
    (λ e. small.1 (sym is ∙ e), λ e. small.2 (sym is ∙ e), λ e. small.3 (sym is ∙ e))
not_unstaged status (inr is) = (λ e. absurd (omega (arith, is, e)), λ e. absurd (omega (arith, is, e)), λ e. absurd (omega (arith, is, e)))

-- then the outbox is as it was
pub halted_uncalled : {O : Type 0} (held : O → Option Held) (task : Task) (name : List ℕ) (files : FileMap) (status : ℕ) (old new : O) (written mid : Option (List ℕ)) (h : Halt)
    → Ends held task name files old new written mid (Err h) → HaltsWith h status → IsUnstaged status → new ≡ old
halted_uncalled held task name files status old new written mid (halt.Refused why) ends halts early = ends.1
halted_uncalled held task name files status old new written mid (halt.Failed outside.Folder) ends halts early = ends.0
halted_uncalled held task name files status old new written mid (halt.Failed outside.Outbox) ends (inl is) early = absurd ((not_unstaged status early).0 is)
halted_uncalled held task name files status old new written mid (halt.Failed outside.Console) ends (inl is) early = absurd ((not_unstaged status early).1 is)
halted_uncalled held task name files status old new written mid (halt.Failed outside.NoMemory) ends (inl is) early = absurd ((not_unstaged status early).2 is)
halted_uncalled held task name files status old new written mid h ends (inr (inl is)) early = absurd ((not_unstaged status early).1 is)
halted_uncalled held task name files status old new written mid h ends (inr (inr is)) early = absurd ((not_unstaged status early).2 is)

pub well_staged : IsUnstaged 0 → ⊥
well_staged (inl (why, is)) = (refusal_small why).4 (sym is)
well_staged (inr is) = absurd (omega (arith, is))

-- the folder's line, where the status is the folder's
pub halted_folder : {O : Type 0} (held : O → Option Held) (task : Task) (name : List ℕ) (files : FileMap) (status : ℕ) (old new : O) (written mid written' : Option (List ℕ)) (h : Halt)
    → Ends held task name files old new written mid (Err h) → HaltsWith h status → (status ≡ halt_status h → IfLine h (Gains (halt_line h) mid written')) → status ≡ 4
    → Gains (outside_line outside.Folder) written written'
halted_folder held task name files status old new written mid written' (halt.Refused why) ends (inl is) line four = absurd ((refusal_small why).0 (sym is ∙ four))
halted_folder held task name files status old new written mid written' (halt.Failed outside.Folder) ends (inl is) line four =
    gains_after (outside_line outside.Folder) written mid written' ends.1 (line is)
halted_folder held task name files status old new written mid written' (halt.Failed outside.Outbox) ends (inl is) line four = absurd (omega (arith, is, four))
halted_folder held task name files status old new written mid written' (halt.Failed outside.Console) ends (inl is) line four = absurd (omega (arith, is, four))
halted_folder held task name files status old new written mid written' (halt.Failed outside.NoMemory) ends (inl is) line four = absurd (omega (arith, is, four))
halted_folder held task name files status old new written mid written' h ends (inr (inl is)) line four = absurd (omega (arith, is, four))
halted_folder held task name files status old new written mid written' h ends (inr (inr is)) line four = absurd (omega (arith, is, four))
