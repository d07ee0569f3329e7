-- What a part of a call says of causes, counts and the console is said of the whole call.
use Rattle.std.proofs.Common.{◌≤◌, ℕ, List, [], append-nil, ap, sym, refl, arith}
use Rattle.std.specs.Prelude.{Option, Some, None, Result, IfErr, Ok, Err}
use Rattle.mit_world.specs.Outside.{Continues, Rose}
use Rattle.mit_app.specs.Ends.{IfOutsideFailed}
use Rattle.mit_app.specs.declared.ends.Halt.{Halt}
use Rattle.mit_app.specs.declared.ends.Halt.TheVariants as halt
use Rattle.mit_app.specs.declared.ends.Outside.TheVariants as outside

-- ---- the console and the counts

pub continues_same : (old : Option (List ℕ)) → Continues old old
continues_same None = refl
continues_same (Some before) = ([], ap Some (sym (append-nil before)))

-- a count that rose in the later part of a call rose in the call
pub rose_later : (first mid last : ℕ) → first ≤ mid → Rose mid last → Rose first last
rose_later first mid last counts rose = omega arith

-- ---- causes

-- the cause of a halt, in other words
pub halt_within : (h : Halt) (folder outbox console folder' outbox' console' : Type 0) → (folder → folder') → (outbox → outbox') → (console → console')
    → IfOutsideFailed h folder outbox console → IfOutsideFailed h folder' outbox' console'
halt_within (halt.Refused why) folder outbox console folder' outbox' console' f o c cause = tt
halt_within (halt.Failed outside.Folder) folder outbox console folder' outbox' console' f o c cause = f cause
halt_within (halt.Failed outside.Outbox) folder outbox console folder' outbox' console' f o c cause = o cause
halt_within (halt.Failed outside.Console) folder outbox console folder' outbox' console' f o c cause = c cause
halt_within (halt.Failed outside.NoMemory) folder outbox console folder' outbox' console' f o c cause = tt

-- where only the folder can have failed
pub folder_within : (h : Halt) (folder folder' outbox console : Type 0) → (folder → folder') → IfOutsideFailed h folder ⊥ ⊥ → IfOutsideFailed h folder' outbox console
folder_within h folder folder' outbox console f cause =
    halt_within h folder ⊥ ⊥ folder' outbox console f (λ (none : ⊥). absurd none) (λ (none : ⊥). absurd none) cause

-- where only the console can have failed
pub console_within : (result : Result (Unit {0}) Halt) (folder outbox console : Type 0) → IfErr result (λ h. IfOutsideFailed h ⊥ ⊥ console)
    → IfErr result (λ h. IfOutsideFailed h folder outbox console)
console_within (Ok _) folder outbox console cause = tt
console_within (Err h) folder outbox console cause =
    halt_within h ⊥ ⊥ console folder outbox console (λ (none : ⊥). absurd none) (λ (none : ⊥). absurd none) (λ (rose : console). rose) cause

-- where the folder cannot have failed
pub publish_within : (result : Result (Unit {0}) Halt) (folder outbox console : Type 0) → IfErr result (λ h. IfOutsideFailed h ⊥ outbox console)
    → IfErr result (λ h. IfOutsideFailed h folder outbox console)
publish_within (Ok _) folder outbox console cause = tt
publish_within (Err h) folder outbox console cause =
    halt_within h ⊥ outbox console folder outbox console (λ (none : ⊥). absurd none) (λ (rose : outbox). rose) (λ (rose : console). rose) cause
