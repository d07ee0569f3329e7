-- Staging the files one after another: what is left after some of them, and what all of them give where nothing was staged before.
use Rattle.std.proofs.Common.{◌≡◌, ◌∙◌, Bor, List, [], ◌∷◌, ◌++◌, ℕ, Option, Some, None, length, take, ap, sym, refl, arith, append_assoc, append-nil}
use Rattle.std.specs.Prelude.{map, Bool, true, false, cond, ◌&&◌, T, Result, Ok, Err, OnErr, option_map}
use Rattle.std.proofs.Math.Seq.{take-append_seam}
use Rattle.std.proofs.lemmas.List.{length-append, map-append}
use Rattle.std.specs.Ordering.{eq_by_cmp, is_eq, is_lt}
use Rattle.std.specs.Cmp.Lexicographic.{nat_list_cmp_total}
use Rattle.std.specs.declared.cmp.Ordering.{Ordering}
use Rattle.std.specs.declared.cmp.Ordering.TheVariants.{Less, Equal, Greater}
use Rattle.std.specs.FinMap as fin
use Rattle.std.specs.FinMap.Entries.{below_all, find, is_sorted}
use Rattle.mit_files.specs.Files.{FileMap, name_cmp}
use Rattle.mit_world.specs.Outside.{Held, stages}
use Rattle.mit_shelf.specs.Staging.{StagesAfresh, StagesSome, published_in, stages_all}

-- ---- one file

-- a file that was gone over, as its name and its bytes
abbrev pub told : Bor (List ℕ) × Bor (List ℕ) → List ℕ × List ℕ
told file = (file.0.now, file.1.now)

stages_all-more : (files : List (List ℕ × List ℕ)) (name bytes : List ℕ) (held : Held) → stages_all (files ++ (name, bytes) ∷ []) held ≡ stages name bytes (stages_all files held)
unfolding stages_all
stages_all-more [] name bytes held = refl
stages_all-more (file ∷ files) name bytes held = stages_all-more files name bytes (stages file.0 file.1 held)

staged_more : (files : List (List ℕ × List ℕ)) (name bytes : List ℕ) (old : Option Held)
    → option_map (stages name bytes) (option_map (stages_all files) old) ≡ option_map (stages_all (files ++ (name, bytes) ∷ [])) old
staged_more files name bytes None = refl
staged_more files name bytes (Some held) = ap Some (sym (stages_all-more files name bytes held))

pub staged_none : (held : Option Held) → held ≡ option_map (stages_all []) held
unfolding stages_all
staged_none None = refl
staged_none (Some held) = refl

-- one more file is staged
pub goes_on : (before : List (Bor (List ℕ) × Bor (List ℕ))) (name bytes : Bor (List ℕ)) (first old new : Option Held) → new ≡ option_map (stages name.now bytes.now) old
    → old ≡ option_map (stages_all (map told before)) first → new ≡ option_map (stages_all (map told (before ++ (name, bytes) ∷ []))) first
goes_on before name bytes first old new is so_far =
    is ∙ ap (option_map (stages name.now bytes.now)) so_far ∙ staged_more (map told before) name.now bytes.now first
    ∙ ap (λ (those : List (List ℕ × List ℕ)). option_map (stages_all those) first) (sym (map-append told before ((name, bytes) ∷ [])))

-- and is gone over
pub all_more : (files : List (List ℕ × List ℕ)) (before : List (Bor (List ℕ) × Bor (List ℕ))) (name bytes : Bor (List ℕ)) (left after : List (List ℕ × List ℕ))
    → files ≡ map told before ++ left → left ≡ (name.now, bytes.now) ∷ after → files ≡ map told (before ++ (name, bytes) ∷ []) ++ after
all_more files before name bytes left after all first =
    all ∙ ap (λ (l : List (List ℕ × List ℕ)). map told before ++ l) first ∙ sym (append_assoc (map told before) ((name.now, bytes.now) ∷ []) after)
    ∙ ap (λ (l : List (List ℕ × List ℕ)). l ++ after) (sym (map-append told before ((name, bytes) ∷ [])))

-- a stop before the end leaves those before it
pub stages_some : (files : FileMap) (before : List (Bor (List ℕ) × Bor (List ℕ))) (name bytes : Bor (List ℕ)) (left after : List (List ℕ × List ℕ)) (first old new : Option Held)
    → fin.entries files ≡ map told before ++ left → left ≡ (name.now, bytes.now) ∷ after → new ≡ old
    → old ≡ option_map (stages_all (map told before)) first → StagesSome files first new
stages_some files before name bytes left after first old new all next kept so_far =
    let whole = all ∙ ap (λ (l : List (List ℕ × List ℕ)). map told before ++ l) next in (
      length (map told before),
      omega (arith, fin.len-entries files, ap length whole, length-append (map told before) ((name.now, bytes.now) ∷ after)),
      kept ∙ so_far
          ∙ ap (λ (those : List (List ℕ × List ℕ)). option_map (stages_all those) first)
          (sym (ap (take (length (map told before))) whole ∙ take-append_seam (map told before) ((name.now, bytes.now) ∷ after))),
    )

pub publishes_same : (name bytes : List ℕ) (old new : Option Held) → new ≡ option_map (stages name bytes) old → published_in new ≡ published_in old
publishes_same name bytes None new is = ap published_in is
publishes_same name bytes (Some held) new is = ap published_in is

-- ---- all files

pub all_here : (files before left : List (List ℕ × List ℕ)) → files ≡ before ++ left → left ≡ [] → before ≡ files
all_here files before left all none = sym (all ∙ ap (λ (l : List (List ℕ × List ℕ)). before ++ l) none ∙ append-nil before)

-- ---- onto nothing

-- the map after these files, one after another
abbrev inserted : FileMap → List (List ℕ × List ℕ) → FileMap
inserted files [] = files
inserted files (file ∷ rest) = inserted (fin.insert files file.0 file.1) rest

staged_inserted : (files : List (List ℕ × List ℕ)) (held : Held) → stages_all files held ≡ record held { staged = inserted held.staged files }
unfolding stages_all
staged_inserted [] held = refl
staged_inserted (file ∷ files) held = staged_inserted files (stages file.0 file.1 held)

both : (a b : Bool) → T (a && b) → T a × T b
both true b p = (tt, p)
both false b p = absurd p

tied : (r : Ordering) → is_eq r ≡ true → r ≡ Equal
tied Less e = cc
tied Equal e = refl
tied Greater e = cc

apart : (r : Ordering) → T (is_lt r) → is_eq r ≡ false
apart Less p = refl
apart Equal p = absurd p
apart Greater p = absurd p

-- a name that ties with one below all others is not among them
find_below : (q name : List ℕ) (files : List (List ℕ × List ℕ)) → name_cmp q name ≡ Equal → T (below_all name_cmp name files) → find name_cmp q files ≡ None
find_below q name [] tie below = refl
find_below q name (file ∷ files) tie below =
    let p = both _ _ below in
    let same : name_cmp q file.0 ≡ name_cmp name file.0 = nat_list_cmp_total.congr q name file.0 tie in
    ap (λ r. cond (is_eq r) (Some file.1) (find name_cmp q files)) same
    ∙ ap (λ b. cond b (Some file.1) (find name_cmp q files)) (apart _ p.0) ∙ find_below q name files tie p.1

-- the one, or else the other
abbrev or_else : Option (List ℕ) → Option (List ℕ) → Option (List ℕ)
or_else None other = other
or_else (Some bytes) other = Some bytes

chosen : (tie : Bool) (found other : Option (List ℕ)) (bytes : List ℕ) → (tie ≡ true → found ≡ None)
    → or_else found (cond tie (Some bytes) other) ≡ or_else (cond tie (Some bytes) found) other
chosen true found other bytes none = ap (λ (o : Option (List ℕ)). or_else o (Some bytes)) (none refl)
chosen false found other bytes none = refl

get_inserted : (before : FileMap) (files : List (List ℕ × List ℕ)) (q : List ℕ) → T (is_sorted name_cmp files)
    → fin.get (inserted before files) q ≡ or_else (find name_cmp q files) (fin.get before q)
get_inserted before [] q rising = refl
get_inserted before (file ∷ files) q rising =
    let p = both _ _ rising in
    get_inserted (fin.insert before file.0 file.1) files q p.1
    ∙ ap (or_else (find name_cmp q files)) (fin.get-insert nat_list_cmp_total before file.0 file.1 q)
    ∙ chosen (eq_by_cmp name_cmp q file.0) (find name_cmp q files) (fin.get before q) file.1 (λ tie. find_below q file.0 files (tied _ tie) p.0)

or_none : (found : Option (List ℕ)) → or_else found None ≡ found
or_none None = refl
or_none (Some bytes) = refl

-- the entries of a map, one after another onto nothing, give that map
all_inserted : (files : FileMap) → inserted fin.empty (fin.entries files) ≡ files
all_inserted files =
    fin.same_map nat_list_cmp_total (fin.slice_cmp-IsAntisymmetric fin.nat_cmp-IsAntisymmetric) (inserted fin.empty (fin.entries files)) files
    (λ q. get_inserted fin.empty (fin.entries files) q (fin.entries_sorted files)
    ∙ ap (or_else (find name_cmp q (fin.entries files))) (fin.get-empty name_cmp q)
    ∙ or_none (find name_cmp q (fin.entries files)) ∙ sym (fin.get-entries files q))

pub afresh : (files : FileMap) (old new : Option Held) → new ≡ option_map (stages_all (fin.entries files)) old → StagesAfresh files old new
afresh files None new is = tt
afresh files (Some held) new is = λ none.
    is ∙ ap Some (staged_inserted (fin.entries files) held
    ∙ ap (λ (m : FileMap). record held { staged = m }) (ap (λ (m : FileMap). inserted m (fin.entries files)) none ∙ all_inserted files))

-- ---- an error

pub on_err : {T E : Type 0} (result : Result T E) {fact : Type 0} → fact → OnErr result fact
on_err (Ok value) is = tt
on_err (Err error) is = is
