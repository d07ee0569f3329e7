-- What is marked, taken back and marked again.
use Rattle.std.proofs.Common.{◌≡◌, ◌<◌, ◌≢◌, ℕ, zero, suc, List, [], ◌∷◌, ◌++◌, length, get_or, set, zip, take, drop, filter, Bool, true, false, Ok, not, eqb, ◌&&◌, ◌||◌, cond, refl, sym, ap, ◌∙◌, arith, append_assoc, get_or-set_other, eqb-true}
use Rattle.std.specs.List.{list_any}
use Rattle.std.proofs.lemmas.Bool.{and_parts}
use Rattle.std.proofs.lemmas.List.{append-nil, ext_get_or, length-map, length-set, get_or-map, set-get_or}
use Rattle.std.proofs.lemmas.List.Sums.{fold-append}
use Rattle.std.proofs.lemmas.List.Folds.{list_all-append}
use Rattle.std.proofs.lemmas.Option.{unwrap_or-slice_get}
use Rattle.std.proofs.Math.Seq.{drop-append_seam, take-append_seam}
use Rattle.std.proofs.lemmas.Slice.Zip.{get_or-zip, length-zip}
use Rattle.std.proofs.lemmas.Grind.{get_or-set_at}
use Rattle.std.proofs.lemmas.Bool.Decides.{nat_tests}
use Rattle.mit_script.specs.Accepted.{Check, Known, and_then, assigned_in_both, branched, in_order, is_assigned, rejoined, with_assigned}
use Rattle.mit_check.specs.Trails.{ExtendsTrail, are_fresh, known_in, marked, newly}
use Rattle.mit_check.specs.declared.tables.Tables.{Tables}

-- ---- what stands at a place

length-marked : (is : Bool) (vs : List ℕ) (xs : List Bool) → length (marked is vs xs) ≡ length xs
length-marked is [] xs = refl
length-marked is (v ∷ vs) xs = length-marked is vs (set xs v is) ∙ length-set xs v is

-- the variable is among these
abbrev among : List ℕ → ℕ → Bool
among vs i = list_any (λ v. eqb i v) vs

get-set : (xs : List Bool) (v i : ℕ) (is same : Bool) → eqb i v ≡ same → i < length xs → get_or (set xs v is) i false ≡ cond same is (get_or xs i false)
get-set xs v i is true same lt = let e : i ≡ v = eqb-true i v same in get_or-set_at xs v i is false e (omega (arith, e, lt))
get-set xs v i is false same lt = let other : i ≢ v = grind (arith, nat_tests) in get_or-set_other xs v i is false other

either : (one other is x : Bool) → cond one is (cond other is x) ≡ cond (other || one) is x
either true true is x = refl
either true false is x = refl
either false true is x = refl
either false false is x = refl

get-marked : (is : Bool) (vs : List ℕ) (xs : List Bool) (i : ℕ) → i < length xs → get_or (marked is vs xs) i false ≡ cond (among vs i) is (get_or xs i false)
get-marked is [] xs i lt = refl
get-marked is (v ∷ vs) xs i lt =
    let size : length (set xs v is) ≡ length xs = length-set xs v is in
    get-marked is vs (set xs v is) i (omega (arith, size, lt))
    ∙ (ap (λ x. cond (among vs i) is x) (get-set xs v i is (eqb i v) refl lt) ∙ either (among vs i) (eqb i v) is (get_or xs i false))

is_assigned-get : (xs : List Bool) (i : ℕ) → is_assigned xs i ≡ get_or xs i false
is_assigned-get xs i = unwrap_or-slice_get xs i false

-- ---- what is taken back

not_true : (b : Bool) → not b ≡ true → b ≡ false
not_true true e = sym e
not_true false e = refl

fresh_by : (xs : List Bool) (v i : ℕ) (same : Bool) → eqb i v ≡ same → not (is_assigned xs v) ≡ true → (same ≡ false → get_or xs i false ≡ false) → get_or xs i false ≡ false
fresh_by xs v i true same fresh later = let e : i ≡ v = eqb-true i v same in rw e (sym (is_assigned-get xs v) ∙ not_true (is_assigned xs v) fresh)
fresh_by xs v i false same fresh later = later refl

fresh_is : (xs : List Bool) (vs : List ℕ) (i : ℕ) → are_fresh xs vs ≡ true → among vs i ≡ true → get_or xs i false ≡ false
fresh_is xs [] i fresh found = absurd cc
fresh_is xs (v ∷ vs) i fresh found =
    let parts = and_parts (not (is_assigned xs v)) (are_fresh xs vs) fresh in
    fresh_by xs v i (eqb i v) refl parts.0 (λ other. fresh_is xs vs i parts.1 (rw other at found))

back_at : (there : Bool) (x : Bool) → (there ≡ true → x ≡ false) → cond there false (cond there true x) ≡ x
back_at true x fresh = sym (fresh refl)
back_at false x fresh = refl

-- what was marked and is taken back
pub taken_back : (vs : List ℕ) (xs : List Bool) → are_fresh xs vs ≡ true → marked false vs (marked true vs xs) ≡ xs
taken_back vs xs fresh =
    let one : length (marked true vs xs) ≡ length xs = length-marked true vs xs in
    let two : length (marked false vs (marked true vs xs)) ≡ length xs = length-marked false vs (marked true vs xs) ∙ one in
    ext_get_or false (marked false vs (marked true vs xs)) xs two
    (λ i lt. get-marked false vs (marked true vs xs) i (omega (arith, two, one, lt))
    ∙ (ap (λ x. cond (among vs i) false x) (get-marked true vs xs i (omega (arith, two, lt)))
    ∙ back_at (among vs i) (get_or xs i false) (fresh_is xs vs i fresh)))

-- ---- what is assigned on both ways

among-filter-by : (p : ℕ → Bool) (v i : ℕ) (vs : List ℕ) (passes same : Bool) → p v ≡ passes → eqb i v ≡ same → among (filter p vs) i ≡ (among vs i && p i)
    → among (filter p (v ∷ vs)) i ≡ (among (v ∷ vs) i && p i)
among-filter-by p v i vs true true passes same later = let e : i ≡ v = eqb-true i v same in rw (passes, same, e, passes) refl
among-filter-by p v i vs true false passes same later = rw (passes, same) later
among-filter-by p v i vs false true passes same later =
    let e : i ≡ v = eqb-true i v same in
    let never : p i ≡ false = rw e passes in
    rw (passes, same, never) (later ∙ rw never (grind arith))
among-filter-by p v i vs false false passes same later = rw (passes, same) later

among-filter : (p : ℕ → Bool) (vs : List ℕ) (i : ℕ) → among (filter p vs) i ≡ (among vs i && p i)
among-filter p [] i = refl
among-filter p (v ∷ vs) i = among-filter-by p v i vs (p v) (eqb i v) refl refl (among-filter p vs i)

both_at : (one other x : Bool) → cond (one && cond other true x) true x ≡ (cond one true x && cond other true x)
both_at true true x = refl
both_at true false true = refl
both_at true false false = refl
both_at false true true = refl
both_at false true false = refl
both_at false false true = refl
both_at false false false = refl

get-both : (xs ys : List Bool) (i : ℕ) → i < length xs → i < length ys → get_or (assigned_in_both xs ys) i false ≡ (get_or xs i false && get_or ys i false)
get-both xs ys i lt lt' =
    let size : i < length (zip xs ys) = grind (arith, length-zip) in
    get_or-map (λ (pair : Bool × Bool). pair.0 && pair.1) (zip xs ys) i (false, false) false size ∙ ap (λ (pair : Bool × Bool). pair.0 && pair.1) (get_or-zip xs ys i (false, false) lt lt')

length-both : (xs ys : List Bool) → length xs ≡ length ys → length (assigned_in_both xs ys) ≡ length xs
length-both xs ys same = length-map (zip xs ys) (λ (pair : Bool × Bool). pair.0 && pair.1) ∙ grind (arith, length-zip)

-- those of the first way that the second one has as well
pub marked_both : (first second : List ℕ) (xs : List Bool)
    → marked true (filter (is_assigned (marked true second xs)) first) xs ≡ assigned_in_both (marked true first xs) (marked true second xs)
marked_both first second xs =
    let p = is_assigned (marked true second xs) in
    let one : length (marked true first xs) ≡ length xs = length-marked true first xs in
    let other : length (marked true second xs) ≡ length xs = length-marked true second xs in
    let left : length (marked true (filter p first) xs) ≡ length xs = length-marked true (filter p first) xs in
    let right : length (assigned_in_both (marked true first xs) (marked true second xs)) ≡ length xs = length-both (marked true first xs) (marked true second xs) (one ∙ sym other) ∙ one in
    ext_get_or false (marked true (filter p first) xs) (assigned_in_both (marked true first xs) (marked true second xs)) (left ∙ sym right)
    (λ i lt. let within : i < length xs = omega (arith, left, lt) in
    let passes : p i ≡ cond (among second i) true (get_or xs i false) = is_assigned-get (marked true second xs) i ∙ get-marked true second xs i within in
    get-marked true (filter p first) xs i within
    ∙ (ap (λ x. cond x true (get_or xs i false)) (among-filter p first i ∙ ap (λ x. among first i && x) passes)
    ∙ (both_at (among first i) (among second i) (get_or xs i false)
    ∙ sym (get-both (marked true first xs) (marked true second xs) i (omega (arith, one, within)) (omega (arith, other, within))
    ∙ rw (get-marked true first xs i within, get-marked true second xs i within) refl))))

-- ---- the trail

-- a variable that is assigned already
pub set_in : (xs : List Bool) (v : ℕ) → is_assigned xs v ≡ true → xs ≡ set xs v true
set_in xs v is = sym (ap (λ x. set xs v x) (sym (sym (is_assigned-get xs v) ∙ is)) ∙ set-get_or xs v false)

-- a variable that is not among the assigned ones
marked_newly : (xs : List Bool) (v : ℕ) → marked true (newly xs v) xs ≡ set xs v true
marked_newly xs v = by_test (is_assigned xs v) refl
  where
    by_test : (is : Bool) → is_assigned xs v ≡ is → marked true (newly xs v) xs ≡ set xs v true
    by_test true is = rw is (set_in xs v is)
    by_test false is = rw is refl

fresh_newly : (xs : List Bool) (v : ℕ) → are_fresh xs (newly xs v) ≡ true
fresh_newly xs v = by_test (is_assigned xs v) refl
  where
    by_test : (is : Bool) → is_assigned xs v ≡ is → are_fresh xs (newly xs v) ≡ true
    by_test true is = rw is refl
    by_test false is = rw (is, is) refl

-- one variable may have become assigned
pub extends_by_one : (old new : Tables) (v : ℕ) → new.trail.items ≡ old.trail.items ++ newly old.assigned.items v
    → new.assigned.items ≡ set old.assigned.items v true → ExtendsTrail old new
extends_by_one old new v trail assigned = record {
  more = newly old.assigned.items v;
  trail = trail;
  assigned = assigned ∙ sym (marked_newly old.assigned.items v);
  fresh = fresh_newly old.assigned.items v;
}

-- nothing became assigned
pub extends_by_none : (old new : Tables) → new.trail.items ≡ old.trail.items → new.assigned.items ≡ old.assigned.items → ExtendsTrail old new
extends_by_none old new trail assigned = record { more = []; trail = trail ∙ sym (append-nil old.trail.items); assigned = assigned; fresh = refl }

inside : (xs : List Bool) (i : ℕ) → get_or xs i false ≡ true → i < length xs
inside [] i is = absurd cc
inside (x ∷ xs) zero is = omega arith
inside (x ∷ xs) (suc i) is = omega (arith, inside xs i is)

always : (there : Bool) → cond there true true ≡ true
always true = refl
always false = refl

-- what is assigned stays so
stays : (xs : List Bool) (vs : List ℕ) (i : ℕ) → is_assigned xs i ≡ true → is_assigned (marked true vs xs) i ≡ true
stays xs vs i is =
    let there : get_or xs i false ≡ true = sym (is_assigned-get xs i) ∙ is in
    is_assigned-get (marked true vs xs) i ∙ (get-marked true vs xs i (inside xs i there) ∙ rw there (always (among vs i)))

before_by : (is later : Bool) → (is ≡ true → later ≡ true) → not later ≡ true → not is ≡ true
before_by true true kept fresh = fresh
before_by true false kept fresh = absurd (let h = kept refl in cc)
before_by false later kept fresh = refl

-- what is not assigned after was not assigned before
fresh_before : (xs : List Bool) (vs ws : List ℕ) → are_fresh (marked true vs xs) ws ≡ true → are_fresh xs ws ≡ true
fresh_before xs vs [] fresh = refl
fresh_before xs vs (w ∷ ws) fresh =
    let parts = and_parts (not (is_assigned (marked true vs xs) w)) (are_fresh (marked true vs xs) ws) fresh in
    rw (before_by (is_assigned xs w) (is_assigned (marked true vs xs) w) (stays xs vs w) parts.0, fresh_before xs vs ws parts.1) refl

-- one growth after another
pub extends_twice : (one two three : Tables) → ExtendsTrail one two → ExtendsTrail two three → ExtendsTrail one three
extends_twice one two three first second = record {
  more = first.more ++ second.more;
  trail = second.trail ∙ rw first.trail (append_assoc one.trail.items first.more second.more);
  assigned = second.assigned ∙ rw first.assigned (sym (fold-append (λ list v. set list v true) one.assigned.items first.more second.more));
  fresh = list_all-append (λ v. not (is_assigned one.assigned.items v)) first.more second.more
      ∙ rw (first.fresh, fresh_before one.assigned.items first.more second.more (rw first.assigned at second.fresh)) refl;
}

-- ---- blocks

-- what is known where all that became assigned is taken back
pub record Restored (old last back : Tables) (taken : List ℕ) : Type 0 where
  pub known : known_in back ≡ with_assigned old.assigned.items (known_in last)
  pub assigned : back.assigned.items ≡ old.assigned.items
  pub trail : back.trail.items ≡ old.trail.items
  pub first : last.assigned.items ≡ marked true taken old.assigned.items
  pub fresh : are_fresh old.assigned.items taken ≡ true

pub restored : {old last : Tables} {taken : List ℕ} {size : ℕ} (back : Tables) → size ≡ length old.trail.items → ExtendsTrail old last
    → known_in back ≡ with_assigned (marked false (drop size last.trail.items) last.assigned.items) (known_in last)
    → back.trail.items ≡ take size last.trail.items → taken ≡ drop size last.trail.items → Restored old last back taken
restored {old} {last} {taken} {size} back is extends known trail rest =
    let more : drop size last.trail.items ≡ extends.more = rw (is, extends.trail) (drop-append_seam old.trail.items extends.more) in
    let front : take size last.trail.items ≡ old.trail.items = rw (is, extends.trail) (take-append_seam old.trail.items extends.more) in
    let same : taken ≡ extends.more = rest ∙ more in
    let again : marked false (drop size last.trail.items) last.assigned.items ≡ old.assigned.items =
    rw (more, extends.assigned) (taken_back extends.more old.assigned.items extends.fresh) in
    record {
      known = known ∙ ap (λ assigned. with_assigned assigned (known_in last)) again;
      assigned = ap (λ (k : Known). k.assigned) known ∙ again;
      trail = trail ∙ front;
      first = rw same extends.assigned;
      fresh = rw same extends.fresh;
    }

fresh_by_one : (xs : List Bool) (p : ℕ → Bool) (v : ℕ) (vs : List ℕ) (passes : Bool) → not (is_assigned xs v) ≡ true → are_fresh xs (filter p vs) ≡ true
    → are_fresh xs (cond passes (v ∷ filter p vs) (filter p vs)) ≡ true
fresh_by_one xs p v vs true one more = rw (one, more) refl
fresh_by_one xs p v vs false one more = more

fresh-filter : (xs : List Bool) (p : ℕ → Bool) (vs : List ℕ) → are_fresh xs vs ≡ true → are_fresh xs (filter p vs) ≡ true
fresh-filter xs p [] fresh = refl
fresh-filter xs p (v ∷ vs) fresh =
    let parts = and_parts (not (is_assigned xs v)) (are_fresh xs vs) fresh in
    fresh_by_one xs p v vs (p v) parts.0 (fresh-filter xs p vs parts.1)

-- what is known after both blocks of an `if`
pub joined : (before other back after : Tables) (first taken found : List ℕ) → Restored before other back taken
    → found ≡ filter (is_assigned other.assigned.items) first
    → known_in after ≡ with_assigned (marked true found back.assigned.items) (known_in back)
    → known_in after ≡ with_assigned (assigned_in_both (marked true first before.assigned.items) other.assigned.items) (known_in other)
joined before other back after first taken found restored is known =
    let marks : marked true found back.assigned.items ≡ assigned_in_both (marked true first before.assigned.items) other.assigned.items =
    rw (is, restored.assigned, restored.first) (marked_both first taken before.assigned.items) in
    known ∙ (ap (λ assigned. with_assigned assigned (known_in back)) marks
    ∙ ap (λ k. with_assigned (assigned_in_both (marked true first before.assigned.items) other.assigned.items) k) restored.known)

pub extends_joined : (before other back after : Tables) (first taken found : List ℕ) → Restored before other back taken → are_fresh before.assigned.items first ≡ true
    → found ≡ filter (is_assigned other.assigned.items) first
    → known_in after ≡ with_assigned (marked true found back.assigned.items) (known_in back)
    → after.trail.items ≡ back.trail.items ++ found → ExtendsTrail before after
extends_joined before other back after first taken found restored fresh is known trail = record {
  more = found;
  trail = trail ∙ ap (λ front. front ++ found) restored.trail;
  assigned = ap (λ (k : Known). k.assigned) known ∙ ap (λ assigned. marked true found assigned) restored.assigned;
  fresh = rw is (fresh-filter before.assigned.items (is_assigned other.assigned.items) first fresh);
}

-- an `if` goes on with its second block over what was known before the first one
pub branched_on : (on_true on_false : List Check) (inside one before : Tables) (taken first : List ℕ) → in_order on_true (known_in inside) ≡ Ok (known_in one)
    → Restored inside one before taken → first ≡ taken
    → branched on_true on_false (known_in inside) ≡ rejoined on_false before.assigned.items (with_assigned (marked true first before.assigned.items) (known_in before))
branched_on on_true on_false inside one before taken first read restored same =
    let marks = marked true first before.assigned.items in
    let is : marks ≡ one.assigned.items = rw (same, restored.assigned) (sym restored.first) in
    let again : with_assigned marks (known_in before) ≡ known_in one =
    ap (λ k. with_assigned marks k) restored.known ∙ ap (λ assigned. with_assigned assigned (known_in one)) is in
    ap (λ found. and_then found (rejoined on_false inside.assigned.items)) read
    ∙ sym (ap (λ assigned. rejoined on_false assigned (with_assigned marks (known_in before))) restored.assigned
    ∙ ap (λ k. rejoined on_false inside.assigned.items k) again)
