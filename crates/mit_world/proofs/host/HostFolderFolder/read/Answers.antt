use Rattle.std.proofs.Common.{◌≡◌, ◌++◌, ℕ, Bool, true, false, List, None, refl, sym, ap, ◌∙◌, drop, length}
use Rattle.std.proofs.lemmas.List.{take-append-drop}
use Rattle.std.specs.Io.{StartsWith}
use Rattle.mit_world.specs.Outside.{ReadsAs}
use Rattle.mit_world.proofs.host.HostFolderFolder.read.Goals as goal

reads : (name : List ℕ) (found : Bool) (old new : List ℕ) → StartsWith new old → (found ≡ false → new ≡ old) → ReadsAs None name found old new
reads name true old new appends absent = (drop (length old) new, sym (take-append-drop (length old) new) ∙ ap (λ (xs : List ℕ). xs ++ drop (length old) new) appends, tt)
reads name false old new appends absent = (absent refl, tt)

pub returns-in-Ok-clause-ok : goal.returns-in-Ok-clause-ok
returns-in-Ok-clause-ok g c =
    let absent = rw (← c.in-Ok.ensures) at c.append_file-read.ensures.absent in
    reads c.args.name.now c.in-Ok.found _ _ c.append_file-read.ensures.appends absent
