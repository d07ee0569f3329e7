-- The statuses of the program; where all was done it is 0.
use Rattle.std.specs.Prelude.{◌≡◌, ◌⊎◌, ℕ}
use Rattle.mit_app.specs.declared.ends.Outside.{Outside}
use Rattle.mit_app.specs.declared.ends.Outside.TheVariants as outside
use Rattle.mit_app.specs.declared.ends.Refusal.{Refusal}
use Rattle.mit_app.specs.declared.ends.Refusal.TheVariants as refusal

abbrev pub refusal_status : Refusal → ℕ
refusal_status refusal.Usage = 2
refusal_status (refusal.Absent name) = 9
refusal_status (refusal.Syntax place) = 3
refusal_status (refusal.Statement statement code) = 3
refusal_status refusal.NotThin = 3
refusal_status refusal.TooLarge = 3
refusal_status (refusal.Fault fault) = 1

abbrev pub outside_status : Outside → ℕ
outside_status outside.Folder = 4
outside_status outside.Outbox = 5
outside_status outside.Console = 6
outside_status outside.NoMemory = 7

-- a status that tells of the folder, the outbox, the console or memory
abbrev pub IsOutside : ℕ → Type 0
IsOutside status = (why : Outside) × (status ≡ outside_status why)

-- a status that comes before anything is staged: of a refusal, or of the folder
abbrev pub IsUnstaged : ℕ → Type 0
IsUnstaged status = ((why : Refusal) × (status ≡ refusal_status why)) ⊎ (status ≡ outside_status outside.Folder)
