-- What a call answers and leaves.
use Rattle.std.specs.Prelude.{◌≡◌, ◌≢◌, ◌⊎◌, ◌<◌, ◌≤◌, ℕ, List, ◌++◌, take, Option, Some, IfSome, option_map}
use Rattle.std.specs.FinMap as fin
use Rattle.mit_files.specs.Files.{FileMap}
use Rattle.mit_world.specs.Outside.{Held, publishes}
use Rattle.mit_shelf.specs.Staging.{stages_all}
use Rattle.mit_app.specs.Due.{Due, Publishes, Refused, RunsIn, Shows, Verdict, status_of, console_text}
use Rattle.mit_app.specs.Lines.{outside_line}
use Rattle.mit_app.specs.Statuses.{IsOutside, outside_status}
use Rattle.mit_app.specs.declared.ends.Outside.TheVariants as outside

-- these are the files that a folder tells, where it tells them
abbrev pub TellsFiles : Option FileMap → FileMap → Type 0
TellsFiles told files = IfSome told (λ known. files ≡ known)

-- the console has gained this text, and nothing else
abbrev pub Gains : List ℕ → Option (List ℕ) → Option (List ℕ) → Type 0
Gains text old new = new ≡ option_map (λ before. before ++ text) old

-- the outbox has staged the first so many of these files, in rising order of names
abbrev pub Stages : ℕ → FileMap → Option Held → Option Held → Type 0
Stages count files old new = new ≡ option_map (stages_all (take count (fin.entries files))) old

-- it has staged and published all of them; where nothing was staged before, these and no others are published
pub record PublishesAll (files : FileMap) (old new : Option Held) : Type 0 where
  pub all : new ≡ option_map (λ before. publishes (stages_all (fin.entries files) before)) old
  pub afresh : IfSome old (λ before. before.staged ≡ fin.empty → new ≡ Some (record { staged = files; published = Some files }))

-- Where the publication of these files and this report is due, the files are staged one after another, then the report is printed, and
-- then they are published. At status 0 all of it was done; at any other one so many files are staged, and at that of the outbox all of them
-- exactly where the report was printed.
pub record Publishing (files : FileMap) (report : List ℕ) (status : ℕ) (old new : Option Held) (written written' : Option (List ℕ)) : Type 0 where
  pub done : status ≡ 0 → PublishesAll files old new
  pub count : ℕ
  pub within : count ≤ fin.len files
  pub staged : status ≢ 0 → Stages count files old new
  pub stopped : status ≡ outside_status outside.Outbox
      → ((count < fin.len files) × Gains (outside_line outside.Outbox) written written')
      ⊎ ((count ≡ fin.len files) × Gains (report ++ outside_line outside.Outbox) written written')

-- what becomes of the outbox: it is as it was, and has not failed, where no publication is due
abbrev pub Leaves : {O : Type 0} → (O → Option Held) → Verdict → ℕ → ℕ → O → O → Option (List ℕ) → Option (List ℕ) → Type 0
Leaves held (Refused why) actions status old new written written' = (new ≡ old) × (status ≢ outside_status outside.Outbox)
Leaves held (Shows text) actions status old new written written' = (new ≡ old) × (status ≢ outside_status outside.Outbox)
Leaves held (Publishes files tally) actions status old new written written' =
    Publishing files (console_text (Publishes files tally) actions) status (held old) (held new) written written'

-- a call over these words and files: a verdict is due, and the status is its own, with its text on the console, or one of the outside
pub record Answers {O : Type 0} (held : O → Option Held) (words : List (List ℕ)) (files : FileMap) (status : ℕ) (old new : O)
    (written written' : Option (List ℕ)) : Type 0 where
  pub verdict : Verdict
  pub due : Due words files verdict
  pub actions : ℕ
  pub counted : RunsIn words files actions
  pub answered : IsOutside status ⊎ ((status ≡ status_of verdict) × Gains (console_text verdict actions) written written')
  pub outbox : Leaves held verdict actions status old new written written'
