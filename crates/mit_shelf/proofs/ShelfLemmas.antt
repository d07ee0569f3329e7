-- What a shelf keeps after a name more, and how it is looked up in the map that stores it.
use Rattle.std.proofs.Common.{◌≡◌, ◌∙◌, ◌++◌, ℕ, List, [], ◌∷◌, Option, Some, None, Vec, length, ap, sym, subst, refl}
use Rattle.std.specs.Prelude.{Bool, true, false, cond, MatchOption, Result, Ok, Err, option_and_then, slice_get}
use Rattle.std.specs.Option.{IfSome, option_map}
use Rattle.std.specs.Map.{lookup, lookup_key}
use Rattle.std.proofs.lemmas.Option.{slice_get-map}
use Rattle.std.specs.Str.{bytes_eq}
use Rattle.std.proofs.lemmas.List.{length-map, map-append}
use Rattle.std.proofs.lemmas.Slice.Eq.{bytes_eq-Decides}
use Rattle.std.specs.Bool.{one_answer}
use mathlib.Core.Bool.{true≢false}
use Rattle.std.specs.Ordering.{eq_by_cmp, is_eq}
use Rattle.std.specs.declared.cmp.Ordering.{Ordering}
use Rattle.std.specs.declared.cmp.Ordering.TheVariants.{Less, Equal, Greater}
use Rattle.std.specs.Cmp.{tied_itself}
use Rattle.std.specs.Cmp.Lexicographic.{nat_list_cmp_total}
use Rattle.std.specs.FinMap as fin
use Rattle.mit_files.specs.Files.{FileMap, name_cmp}
use Rattle.mit_world.specs.Outside.{ReadsAs}
use Rattle.mit_shelf.specs.declared.shelf.FetchFault.{FetchFault}
use Rattle.mit_shelf.specs.declared.shelf.FetchFault.TheVariants.{BadName, NoFile}
use Rattle.mit_shelf.specs.declared.stop.Stop.{Stop}
use Rattle.mit_shelf.specs.declared.stop.Stop.TheVariants.{Fault, Folder, NoMemory}
use Rattle.mit_shelf.specs.Shelf.{Agrees, FetchesAs, Kept, KeepsAs, kept, kept_bytes, kept_files, with_file}
use Rattle.mit_shelf.specs.Stored.{KeepsLast, entries_of, entry_of}

-- ---- the stored map

-- what is kept, from what the stored map has
abbrev shown : {A : Type 0} → Option (Option (Vec ℕ A)) → Option (Option (List ℕ))
shown file = option_map (λ found. option_map (λ bytes. bytes.items) found) file

shown_or : {A : Type 0} (same : Bool) (file : Option (Vec ℕ A)) (other : Option (Option (Vec ℕ A)))
    → cond same (Some (option_map (λ (b : Vec ℕ A). b.items) file)) (shown other) ≡ shown (cond same (Some file) other)
shown_or true file other = refl
shown_or false file other = refl

-- a name is kept as the stored map has it
pub kept-stored : {A : Type 0} (name : List ℕ) (entries : List (Vec ℕ A × Option (Vec ℕ A)))
    → kept (entries_of entries) name ≡ shown (lookup (λ k. bytes_eq name k.items) entries)
kept-stored name [] = refl
kept-stored name (entry ∷ entries) =
    ap (cond (bytes_eq name entry.0.items) (Some (option_map (λ b. b.items) entry.1))) (kept-stored name entries)
    ∙ shown_or (bytes_eq name entry.0.items) entry.1 (lookup (λ k. bytes_eq name k.items) entries)

shown_none : {A : Type 0} (file : Option (Option (Vec ℕ A))) → shown file ≡ None → file ≡ None
shown_none None e = refl
shown_none (Some file) e = cc

-- a name that is not kept is not in the stored map
pub stored_none : {A : Type 0} (shelf : Kept) (name : List ℕ) (entries : List (Vec ℕ A × Option (Vec ℕ A)))
    → entries_of entries ≡ shelf → kept shelf name ≡ None → lookup (λ k. bytes_eq name k.items) entries ≡ None
stored_none shelf name entries view none =
    shown_none _ (sym (kept-stored name entries) ∙ ap (λ (k : Kept). kept k name) view ∙ none)

last_at : (shelf : Kept) (entry : List ℕ × Option (List ℕ)) → slice_get (shelf ++ entry ∷ []) (length shelf) ≡ Some entry
last_at [] entry = refl
last_at (first ∷ shelf) entry = last_at shelf entry

-- ---- a name more

-- what is kept of any name after a new last entry
abbrev or_last : List ℕ → List ℕ → Option (List ℕ) → Option (Option (List ℕ)) → Option (Option (List ℕ))
or_last q name file None = cond (bytes_eq q name) (Some file) None
or_last q name file (Some before) = Some before

or_last-cond : (q name : List ℕ) (file first : Option (List ℕ)) (same : Bool) (rest : Option (Option (List ℕ)))
    → cond same (Some first) (or_last q name file rest) ≡ or_last q name file (cond same (Some first) rest)
or_last-cond q name file first true rest = refl
or_last-cond q name file first false rest = refl

kept-last : (shelf : Kept) (name : List ℕ) (file : Option (List ℕ)) (q : List ℕ)
    → kept (shelf ++ (name, file) ∷ []) q ≡ or_last q name file (kept shelf q)
kept-last [] name file q = refl
kept-last (entry ∷ shelf) name file q =
    ap (cond (bytes_eq q entry.0) (Some entry.1)) (kept-last shelf name file q)
    ∙ or_last-cond q name file entry.1 (bytes_eq q entry.0) (kept shelf q)

-- ---- agreement with files

-- what files have of a kept name
abbrev HasAs : FileMap → List ℕ → Option (Option (List ℕ)) → Type 0
HasAs files q file = IfSome file (λ f. fin.get files q ≡ f)

before_last : (files : FileMap) (q name : List ℕ) (file : Option (List ℕ)) (old : Option (Option (List ℕ)))
    → HasAs files q (or_last q name file old) → HasAs files q old
before_last files q name file None is = tt
before_last files q name file (Some before) is = is

only_last : (files : FileMap) (q name : List ℕ) (file : Option (List ℕ)) (same : Bool) → bytes_eq q name ≡ same → fin.get files name ≡ file
    → HasAs files q (cond same (Some file) None)
only_last files q name file true same is = ap (fin.get files) ((bytes_eq-Decides q name).0 same) ∙ is
only_last files q name file false same is = tt

with_last : (files : FileMap) (q name : List ℕ) (file : Option (List ℕ)) (old : Option (Option (List ℕ))) → fin.get files name ≡ file
    → HasAs files q old → HasAs files q (or_last q name file old)
with_last files q name file None is before = only_last files q name file (bytes_eq q name) refl is
with_last files q name file (Some f) is before = before

grows_last : (shelf : Kept) (name : List ℕ) (file : Option (List ℕ)) (files : FileMap) → Agrees (shelf ++ (name, file) ∷ []) files → Agrees shelf files
grows_last shelf name file files agrees q =
    before_last files q name file (kept shelf q) (subst (HasAs files q) (kept-last shelf name file q) (agrees q))

agrees_last : (shelf : Kept) (name : List ℕ) (file : Option (List ℕ)) (files : FileMap) → fin.get files name ≡ file
    → Agrees shelf files → Agrees (shelf ++ (name, file) ∷ []) files
agrees_last shelf name file files is agrees q =
    subst (HasAs files q) (sym (kept-last shelf name file q)) (with_last files q name file (kept shelf q) is (agrees q))

-- by what was kept of the name before
grows_by : (old new : Kept) (name : List ℕ) (told : Option FileMap) (file : Option (List ℕ)) (before : Option (Option (List ℕ)))
    → MatchOption before ((new ≡ old ++ (name, file) ∷ []) × IfSome told (λ files. fin.get files name ≡ file)) (λ b. (new ≡ old) × (b ≡ file))
    → (files : FileMap) → Agrees new files → Agrees old files
grows_by old new name told file None is files agrees = grows_last old name file files (subst (λ (k : Kept). Agrees k files) is.0 agrees)
grows_by old new name told file (Some b) is files agrees = subst (λ (k : Kept). Agrees k files) is.0 agrees

agrees_by : (old new : Kept) (name : List ℕ) (told : Option FileMap) (file : Option (List ℕ)) (before : Option (Option (List ℕ)))
    → MatchOption before ((new ≡ old ++ (name, file) ∷ []) × IfSome told (λ files. fin.get files name ≡ file)) (λ b. (new ≡ old) × (b ≡ file))
    → IfSome told (λ files. Agrees old files → Agrees new files)
agrees_by old new name None file before is = tt
agrees_by old new name (Some files) file None is =
    λ agrees. subst (λ (k : Kept). Agrees k files) (sym is.0) (agrees_last old name file files is.1 agrees)
agrees_by old new name (Some files) file (Some b) is = λ agrees. subst (λ (k : Kept). Agrees k files) (sym is.0) agrees

-- files that agree with the shelf after a fetch agreed with it before
pub fetch_grows : (old new : Kept) (name : List ℕ) (told : Option FileMap) (result : Result ℕ (Stop FetchFault)) → FetchesAs old new name told result
    → (files : FileMap) → Agrees new files → Agrees old files
fetch_grows old new name told (Ok place) is = grows_by old new name told (Some is.0) (kept old name) is.2.1
fetch_grows old new name told (Err (Fault NoFile)) is = grows_by old new name told None (kept old name) is.1
fetch_grows old new name told (Err (Fault BadName)) is = λ files now. subst (λ (k : Kept). Agrees k files) is now
fetch_grows old new name told (Err Folder) is = λ files now. subst (λ (k : Kept). Agrees k files) is.1 now
fetch_grows old new name told (Err NoMemory) is = λ files now. subst (λ (k : Kept). Agrees k files) is.1 now

stays : (old new : Kept) (told : Option FileMap) → new ≡ old → IfSome told (λ files. Agrees old files → Agrees new files)
stays old new None is = tt
stays old new (Some files) is = λ before. subst (λ (k : Kept). Agrees k files) (sym is) before

-- and files that the folder tells still agree with it
pub fetch_agrees : (old new : Kept) (name : List ℕ) (told : Option FileMap) (result : Result ℕ (Stop FetchFault)) → FetchesAs old new name told result
    → IfSome told (λ files. Agrees old files → Agrees new files)
fetch_agrees old new name told (Ok place) is = agrees_by old new name told (Some is.0) (kept old name) is.2.1
fetch_agrees old new name told (Err (Fault NoFile)) is = agrees_by old new name told None (kept old name) is.1
fetch_agrees old new name told (Err (Fault BadName)) is = stays old new told is
fetch_agrees old new name told (Err Folder) is = stays old new told is.1
fetch_agrees old new name told (Err NoMemory) is = stays old new told is.1

-- ---- the files that are kept as found

is_equal : (r : Ordering) → is_eq r ≡ true → r ≡ Equal
is_equal Less e = absurd (true≢false (sym e))
is_equal Equal e = refl
is_equal Greater e = absurd (true≢false (sym e))

same_name : (q name : List ℕ) → eq_by_cmp name_cmp q name ≡ true → q ≡ name
same_name q name e = fin.slice_cmp-IsAntisymmetric fin.nat_cmp-IsAntisymmetric q name (is_equal (name_cmp q name) e)

itself : (name : List ℕ) → eq_by_cmp name_cmp name name ≡ true
itself name = ap is_eq (tied_itself nat_list_cmp_total name)

-- both tests of two names say the same
same_test : (q name : List ℕ) → eq_by_cmp name_cmp q name ≡ bytes_eq q name
same_test q name =
    one_answer (eq_by_cmp name_cmp q name) (bytes_eq q name) (same_name q name, λ (e : q ≡ name). subst (λ (n : List ℕ). eq_by_cmp name_cmp q n ≡ true) e (itself q))
    (bytes_eq-Decides q name)

got-with_file : (files : FileMap) (name : List ℕ) (file : Option (List ℕ)) (q : List ℕ)
    → fin.get (with_file files name file) q ≡ cond (eq_by_cmp name_cmp q name) file (fin.get files q)
got-with_file files name (Some bytes) q = fin.get-insert nat_list_cmp_total files name bytes q
got-with_file files name None q = fin.get-remove nat_list_cmp_total files name q

first_or : (same : Bool) (file : Option (List ℕ)) (rest : Option (Option (List ℕ)))
    → cond same file (option_and_then (λ (f : Option (List ℕ)). f) rest) ≡ option_and_then (λ f. f) (cond same (Some file) rest)
first_or true file rest = refl
first_or false file rest = refl

-- they hold the bytes of each name that is kept as found, and no others
pub got_kept : (shelf : Kept) (q : List ℕ) → fin.get (kept_files shelf) q ≡ kept_bytes shelf q
unfolding kept_files
got_kept [] q = fin.get-empty name_cmp q
got_kept (entry ∷ rest) q =
    got-with_file (kept_files rest) entry.0 entry.1 q
    ∙ ap (λ b. cond b entry.1 (fin.get (kept_files rest) q)) (same_test q entry.0)
    ∙ ap (cond (bytes_eq q entry.0) entry.1) (got_kept rest q)
    ∙ first_or (bytes_eq q entry.0) entry.1 (kept rest q)

has_kept : (files : FileMap) (q : List ℕ) (file : Option (Option (List ℕ))) → fin.get files q ≡ option_and_then (λ f. f) file → HasAs files q file
has_kept files q None is = tt
has_kept files q (Some file) is = is

pub agrees_kept : (shelf : Kept) → Agrees shelf (kept_files shelf)
agrees_kept shelf q = has_kept (kept_files shelf) q (kept shelf q) (got_kept shelf q)

-- ---- the calls

-- a new entry of the stored map is a new last entry of the shelf
pub keeps_last : {A : Type 0} (old : Kept) (name : List ℕ) (entries after : List (Vec ℕ A × Option (Vec ℕ A))) (key : Vec ℕ A) (file : Option (Vec ℕ A)) (place : ℕ)
    → entries_of entries ≡ old → after ≡ entries ++ (key, file) ∷ [] → key.items ≡ name → place ≡ length entries
    → KeepsLast old (entries_of after) name (option_map (λ bytes. bytes.items) file) place
keeps_last {A} old name entries after key file place view put same at =
    let entry : List ℕ × Option (List ℕ) = (name, option_map (λ (b : Vec ℕ A). b.items) file) in
    let new : entries_of after ≡ old ++ entry ∷ [] =
    ap (entries_of {A = A}) put ∙ map-append (entry_of {A = A}) entries ((key, file) ∷ [])
    ∙ ap (λ (n : List ℕ). entries_of entries ++ (n, option_map (λ (b : Vec ℕ A). b.items) file) ∷ []) same
    ∙ ap (λ (k : Kept). k ++ entry ∷ []) view in
    let many : place ≡ length old = at ∙ sym (length-map entries (entry_of {A = A})) ∙ ap (λ (k : Kept). length k) view in
    (new, ap (λ (k : Kept). slice_get k place) new ∙ ap (slice_get (old ++ entry ∷ [])) many ∙ last_at old entry)

-- the map has no such key
pub key_absent : {A : Type 0} (old : Kept) (name : List ℕ) (entries : List (Vec ℕ A × Option (Vec ℕ A))) (key : Vec ℕ A)
    → entries_of entries ≡ old → key.items ≡ name → kept old name ≡ None → lookup (λ (k : Vec ℕ A). bytes_eq key.items k.items) entries ≡ None
key_absent old name entries key view same none = stored_none old key.items entries view (ap (kept old) same ∙ none)

kept_there : (old : Kept) (name : List ℕ) (file : Option (List ℕ)) → kept old name ≡ None → kept (old ++ (name, file) ∷ []) name ≡ Some file
kept_there old name file none =
    kept-last old name file name
    ∙ ap (or_last name name file) none
    ∙ ap (λ b. cond b (Some file) None) ((bytes_eq-Decides name name).1 refl)

-- the first fetch of a name
keeps_first : (old new : Kept) (name : List ℕ) (told : Option FileMap) (file : Option (List ℕ)) → kept old name ≡ None
    → new ≡ old ++ (name, file) ∷ [] → IfSome told (λ files. fin.get files name ≡ file) → KeepsAs old new name told file
keeps_first old new name told file none is has =
    let there : kept new name ≡ Some file = ap (λ (k : Kept). kept k name) is ∙ kept_there old name file none in
    (there, rw none (is, has))

-- the same from what a read of the folder tells
pub found_first : (old new : Kept) (name text : List ℕ) (told : Option FileMap) (read : Bool) (before into : List ℕ) (place : ℕ)
    → kept old name ≡ None → text ≡ name → read ≡ true → ReadsAs told text read before into → before ≡ [] → KeepsLast old new name (Some into) place
    → FetchesAs old new name told (Ok place)
found_first old new name text told read before into place none same is reads empty last =
    let P : Bool → Type 0 = λ b. ReadsAs told text b before into in
    let r = subst P is reads in
    let whole : into ≡ r.0 = r.1 ∙ ap (λ xs. xs ++ r.0) empty in
    let Q : List ℕ → Type 0 = λ bytes. IfSome told (λ files. fin.get files text ≡ Some bytes) in
    let R : List ℕ → Type 0 = λ n. IfSome told (λ files. fin.get files n ≡ Some into) in
    (into, last.1, keeps_first old new name told (Some into) none last.0 (subst R same (subst Q (sym whole) r.2)))

pub absent_first : (old new : Kept) (name text : List ℕ) (told : Option FileMap) (read : Bool) (before into : List ℕ) (place : ℕ)
    → kept old name ≡ None → text ≡ name → read ≡ false → ReadsAs told text read before into → KeepsLast old new name None place
    → KeepsAs old new name told None
absent_first old new name text told read before into place none same is reads last =
    let P : Bool → Type 0 = λ b. ReadsAs told text b before into in
    let r = subst P is reads in
    let R : List ℕ → Type 0 = λ n. IfSome told (λ files. fin.get files n ≡ None) in
    keeps_first old new name told None none last.0 (subst R same r.1)

-- what is kept, from what the map answered
pub kept_from : {A : Type 0} (shelf : Kept) (name : List ℕ) (entries : List (Vec ℕ A × Option (Vec ℕ A))) (file : Option (Option (Vec ℕ A)))
    → entries_of entries ≡ shelf → file ≡ lookup (λ (k : Vec ℕ A). bytes_eq name k.items) entries → kept shelf name ≡ shown file
kept_from {A} shelf name entries file view is =
    ap (λ (k : Kept). kept k name) (sym view) ∙ kept-stored name entries ∙ ap (shown {A = A}) (sym is)

-- a later fetch
keeps_again : (old : Kept) (name : List ℕ) (told : Option FileMap) (file : Option (List ℕ)) → kept old name ≡ Some file → KeepsAs old old name told file
keeps_again old name told file is = (is, rw is (refl, refl))

passes_or : {K : Type 0} (test : K → Bool) (first k : K) (rest : Option K) (same : Bool) → test first ≡ same → (Some k ≡ rest → test k ≡ true)
    → Some k ≡ cond same (Some first) rest → test k ≡ true
passes_or test first k rest true same later is = let e : k ≡ first = cc in ap test e ∙ same
passes_or test first k rest false same later is = later is

key_passes : {K X : Type 0} (test : K → Bool) (entries : List (K × X)) (k : K) → Some k ≡ lookup_key test entries → test k ≡ true
key_passes test [] k is = cc
key_passes test (entry ∷ entries) k is = passes_or test entry.0 k (lookup_key test entries) (test entry.0) refl (key_passes test entries k) is

pub found_again : {A : Type 0} (shelf : Kept) (name : List ℕ) (told : Option FileMap) (entries : List (Vec ℕ A × Option (Vec ℕ A))) (place : ℕ) (key : Vec ℕ A) (file : Option (Vec ℕ A)) (bytes : Vec ℕ A)
    → entries_of entries ≡ shelf → file ≡ Some bytes → Some file ≡ lookup (λ (k : Vec ℕ A). bytes_eq name k.items) entries
    → Some key ≡ lookup_key (λ (k : Vec ℕ A). bytes_eq name k.items) entries → slice_get entries place ≡ Some (key, file)
    → FetchesAs shelf shelf name told (Ok place)
found_again {A} shelf name told entries place key file bytes view some found stored at =
    let items : option_map (λ (b : Vec ℕ A). b.items) file ≡ Some bytes.items = ap (option_map (λ (b : Vec ℕ A). b.items)) some in
    let is : kept shelf name ≡ Some (Some bytes.items) = kept_from shelf name entries (Some file) view found ∙ ap Some items in
    let named : name ≡ key.items = (bytes_eq-Decides name key.items).0 (key_passes (λ (k : Vec ℕ A). bytes_eq name k.items) entries key stored) in
    let here : slice_get shelf place ≡ Some (name, Some bytes.items) =
    ap (λ (k : Kept). slice_get k place) (sym view) ∙ slice_get-map (entry_of {A = A}) entries place ∙ ap (option_map (entry_of {A = A})) at
    ∙ ap (λ (n : List ℕ). Some (n, option_map (λ (b : Vec ℕ A). b.items) file)) (sym named)
    ∙ ap (λ (f : Option (List ℕ)). Some (name, f)) items in
    (bytes.items, here, keeps_again shelf name told (Some bytes.items) is)

pub absent_again : {A : Type 0} (shelf : Kept) (name : List ℕ) (told : Option FileMap) (entries : List (Vec ℕ A × Option (Vec ℕ A))) (file : Option (Vec ℕ A))
    → entries_of entries ≡ shelf → file ≡ None → Some file ≡ lookup (λ (k : Vec ℕ A). bytes_eq name k.items) entries → KeepsAs shelf shelf name told None
absent_again {A} shelf name told entries file view none found =
    keeps_again shelf name told None
    (kept_from shelf name entries (Some file) view found ∙ ap (λ (f : Option (Vec ℕ A)). Some (option_map (λ (b : Vec ℕ A). b.items) f)) none)

-- the bytes of a kept name
pub text_from : {A : Type 0} (shelf : Kept) (name : List ℕ) (entries : List (Vec ℕ A × Option (Vec ℕ A))) (file : Option (Option (Vec ℕ A)))
    → entries_of entries ≡ shelf → file ≡ lookup (λ (k : Vec ℕ A). bytes_eq name k.items) entries → option_and_then (λ f. f) (shown file) ≡ kept_bytes shelf name
text_from shelf name entries file view is = ap (option_and_then (λ (f : Option (List ℕ)). f)) (sym (kept_from shelf name entries file view is))
