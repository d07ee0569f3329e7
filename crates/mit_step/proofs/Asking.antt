-- Calls of the folder, one after another.
use Rattle.std.proofs.Common.{◌≡◌, ◌≢◌, ◌∙◌, ◌≤◌, ℕ, Option, Some, None, Result, Ok, Err, arith, refl, subst, sym}
use Rattle.std.specs.Prelude.{IfErr, IfSome, OnOk}
use Rattle.mit_files.specs.Files.{FileMap}
use Rattle.mit_world.specs.Outside.{Rose}
use Rattle.mit_shelf.specs.Shelf.{Agrees, Kept}
use Rattle.mit_shelf.specs.Stops.{IfFolder}
use Rattle.mit_shelf.specs.declared.stop.Stop.{Stop}
use Rattle.mit_shelf.specs.declared.stop.Stop.TheVariants as stop
use Rattle.mit_step.specs.Running.{Asks}

agrees_none : (files : Option FileMap) (shelf : Kept) → IfSome files (λ all. Agrees shelf all → Agrees shelf all)
agrees_none None shelf = tt
agrees_none (Some files) shelf = λ agrees. agrees

agrees_more : (files files' : Option FileMap) (first middle last : Kept) → files' ≡ files → IfSome files (λ all. Agrees first all → Agrees middle all)
    → IfSome files' (λ all. Agrees middle all → Agrees last all) → IfSome files (λ all. Agrees first all → Agrees last all)
agrees_more None files' first middle last same before after = tt
agrees_more (Some files) files' first middle last same before after =
    let P : Option FileMap → Type 0 = λ t. IfSome t (λ all. Agrees middle all → Agrees last all) in
    let next : Agrees middle files → Agrees last files = subst P same after in
    λ agrees. next (before agrees)

-- no call
pub asks_none : (files : Option FileMap) (faults : ℕ) (shelf : Kept) → Asks files files faults faults shelf shelf
asks_none files faults shelf = record { grows = λ all agrees. agrees; agrees = agrees_none files shelf; told = refl; count = omega arith }

-- and more calls
pub asks_more : {one two three : Option FileMap} {n m k : ℕ} {first middle last : Kept} → Asks one two n m first middle → Asks two three m k middle last → Asks one three n k first last
asks_more {one} {two} {three} {n} {m} {k} {first} {middle} {last} before after = record {
  grows = λ all agrees. before.grows all (after.grows all agrees);
  agrees = agrees_more one two first middle last before.told before.agrees after.agrees;
  told = after.told ∙ before.told;
  count = omega (arith, before.count, after.count);
}

-- a count that rose since a later moment rose since an earlier one
pub failed_more : {A X : Type 0} (result : Result A (Stop X)) (first middle last : ℕ) → first ≤ middle → IfErr result (λ why. IfFolder why (Rose middle last))
    → IfErr result (λ why. IfFolder why (Rose first last))
failed_more (Ok value) first middle last before failed = tt
failed_more (Err (stop.Fault fault)) first middle last before failed = tt
failed_more (Err stop.Folder) first middle last before failed = omega (arith, failed, before)
failed_more (Err stop.NoMemory) first middle last before failed = tt

-- an answer that is a stop is what is said of the stop
pub stopped_as : {A E : Type 0} (result : Result A E) (why : E) (P : E → Type 0) → result ≡ Err why → P why → IfErr result P
stopped_as result why P is fact = subst (λ found. IfErr found P) (sym is) fact

-- the same of a stop since an earlier moment
pub stopped_more : {A X : Type 0} (result : Result A (Stop X)) (why : Stop X) (first middle last : ℕ) → result ≡ Err why → first ≤ middle → IfFolder why (Rose middle last)
    → IfErr result (λ stop. IfFolder stop (Rose first last))
stopped_more {A} {X} result why first middle last is before failed =
    subst (λ found. IfErr found (λ stop. IfFolder stop (Rose first last))) (sym is) (failed_more {A = A} (Err why) first middle last before failed)

-- a stop says nothing of an answer
pub no_answer : {A E : Type 0} (result : Result A E) (why : E) (P : Type 0) → result ≡ Err why → OnOk result P
no_answer result why P is = subst (λ found. OnOk found P) (sym is) tt

-- a call of no folder fails with none
pub own_failed : {A X : Type 0} (result : Result A (Stop X)) (P : Type 0) → IfErr result (λ why. why ≢ stop.Folder) → IfErr result (λ why. IfFolder why P)
own_failed (Ok value) P own = tt
own_failed (Err (stop.Fault fault)) P own = tt
own_failed (Err stop.Folder) P own = absurd (own refl)
own_failed (Err stop.NoMemory) P own = tt
