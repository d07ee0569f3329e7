-- Where a put goes among rising ones, and what the files are after one write more.
use Rattle.std.proofs.Common.{◌≡◌, ℕ, ◌-◌, arith, ◌+◌, ◌<◌, ◌≤◌, true, false, List, [], ◌∷◌, ◌++◌, length, get_or, take, drop, map, refl, sym, subst, ap, ◌∙◌}
use Rattle.std.proofs.lemmas.List.{drop_all, drop_more, map-append, take-append-drop, take_all, take_more}
use Rattle.std.specs.FinMap as fin
use Rattle.std.specs.List.{All}
use Rattle.std.proofs.lemmas.List.Elements.{All-nil}
use Rattle.mit_rows.specs.Bags.{BagOf}
use Rattle.mit_files.specs.Files.{FileMap}
use Rattle.mit_files.specs.Printed.{Write, bag_text, published, published_onto}
use Rattle.mit_staged.specs.Staged.{Put, is_below, with_put, writes_put}
use Rattle.mit_staged.specs.StoredPuts.{IsFirstAbove, Rises, RisesBy, put_of}
use Rattle.mit_staged.proofs.PutOrder.{BeginsAbove, all_lower, place_is, rises_front, rises_with}
use Rattle.mit_staged.specs.declared.staged.Put.{Put as Stored}

-- ---- where a put goes

rest_is : (stored : List Stored) (place : ℕ) (item : Stored) → place < length stored → item ≡ get_or stored place item
    → drop place stored ≡ item ∷ drop (place + 1) stored
rest_is stored place item h is = drop_more stored place item h ∙ ap (λ (x : Stored). x ∷ drop (place + 1) stored) (sym is)

pub above_start : (stored : List Stored) (pair : ℕ × ℕ) → BeginsAbove pair (map put_of (drop (length stored) stored))
above_start stored pair = subst (λ (l : List Stored). BeginsAbove pair (map put_of l)) (sym (drop_all (length stored) stored (omega arith))) tt

pub above_more : (stored : List Stored) (pair : ℕ × ℕ) (place : ℕ) (item : Stored) → 0 < place → place ≤ length stored → item ≡ get_or stored (place - 1) item
    → is_below pair (put_of item).0 ≡ true → BeginsAbove pair (map put_of (drop (place - 1) stored))
above_more stored pair place item h within is above =
    subst (λ (l : List Stored). BeginsAbove pair (map put_of l)) (sym (rest_is stored (place - 1) item (omega arith) is)) above

-- none of those before this place is above the pair
abbrev pub AreLower : ℕ × ℕ → List Stored → Type 0
AreLower pair stored = All (λ (put : Put). is_below pair put.0 ≡ false) (map put_of stored)

pub first_from : (stored : List Stored) (pair : ℕ × ℕ) (place : ℕ) → place ≤ length stored → AreLower pair (take place stored)
    → BeginsAbove pair (map put_of (drop place stored)) → IsFirstAbove stored pair place
first_from stored pair place within lower above = (
  within,
  λ write.
      ap (λ (l : List Stored). with_put (pair, write) (map put_of l)) (sym (take-append-drop place stored))
      ∙ ap (with_put (pair, write)) (map-append put_of (take place stored) (drop place stored))
      ∙ place_is pair write (map put_of (take place stored)) (map put_of (drop place stored)) lower above,
)

pub none_lower : (stored : List Stored) (pair : ℕ × ℕ) (place : ℕ) → place ≡ 0 → AreLower pair (take place stored)
none_lower stored pair place h = subst (λ (n : ℕ). AreLower pair (take n stored)) (sym h) (All-nil _)

pub are_lower : (stored : List Stored) (pair : ℕ × ℕ) (place : ℕ) (item : Stored) → RisesBy stored → 0 < place → place ≤ length stored
    → item ≡ get_or stored (place - 1) item → is_below pair (put_of item).0 ≡ false → AreLower pair (take place stored)
are_lower stored pair place item up h within is lower =
    let front : take place stored ≡ take (place - 1) stored ++ item ∷ [] =
    ap (λ (n : ℕ). take n stored) (omega arith) ∙ take_more stored (place - 1) item (omega arith) ∙ ap (λ (x : Stored). take (place - 1) stored ++ x ∷ []) (sym is) in
    let puts : map put_of (take place stored) ≡ map put_of (take (place - 1) stored) ++ put_of item ∷ [] =
    ap (λ (l : List Stored). map put_of l) front ∙ map-append put_of (take (place - 1) stored) (item ∷ []) in
    let whole : Rises (map put_of (take place stored) ++ map put_of (drop place stored)) =
    subst (λ (l : List Put). Rises l) (ap (λ (l : List Stored). map put_of l) (sym (take-append-drop place stored)) ∙ map-append put_of (take place stored) (drop place stored)) up in
    let rising = subst (λ (l : List Put). Rises l) puts (rises_front (map put_of (take place stored)) (map put_of (drop place stored)) whole) in
    subst (λ (l : List Put). All (λ (put : Put). is_below pair put.0 ≡ false) l) (sym puts) (all_lower pair (map put_of (take (place - 1) stored)) (put_of item) rising lower)

-- the puts still rise
pub rises_stored : (old : List Put) (stored after : List Stored) (put : Put) → RisesBy stored → map put_of stored ≡ old → map put_of after ≡ with_put put old → RisesBy after
rises_stored old stored after put up view is =
    subst (λ (l : List Put). Rises l) (sym is) (rises_with put old (subst (λ (l : List Put). Rises l) view up))

pub same_put : (pair : ℕ × ℕ) (n m : List ℕ) (b d : BagOf) → n ≡ m → b ≡ d → ◌≡◌ {A = Put} (pair, (n, b)) (pair, (m, d))
same_put pair n m b d e f = ap (λ (x : List ℕ). (pair, (x, b))) e ∙ ap (λ (x : BagOf). (pair, (m, x))) f

-- what is stored after the put
pub with_stored : (old : List Put) (stored seen after : List Stored) (place : ℕ) (item : Stored) (put : Put)
    → map put_of stored ≡ old → seen ≡ stored → IsFirstAbove seen put.0 place → put_of item ≡ put → after ≡ take place stored ++ item ∷ drop place stored
    → map put_of after ≡ with_put put old
with_stored old stored seen after place item put view read first same is =
    let P : List Stored → Type 0 = λ l. IsFirstAbove l put.0 place in
    let there = subst P read first in
    ap (λ (l : List Stored). map put_of l) is ∙ map-append put_of (take place stored) (item ∷ drop place stored)
    ∙ ap (λ (p : Put). map put_of (take place stored) ++ p ∷ map put_of (drop place stored)) same
    ∙ sym (there.1 put.1) ∙ ap (with_put put) view

-- ---- the files

published_push : (files : FileMap) (writes : List Write) (write : Write)
    → published_onto files (writes ++ write ∷ []) ≡ fin.insert (published_onto files writes) write.name (bag_text write.bag)
unfolding published_onto
published_push files [] write = refl
published_push files (first ∷ writes) write = published_push (fin.insert files first.name (bag_text first.bag)) writes write

-- the files of the puts so far
abbrev pub files_of : List Stored → FileMap
files_of stored = published (writes_put (map put_of stored))

pub files_none : fin.empty ≡ files_of []
unfolding published_onto
files_none = refl

write_of : Put → Write
write_of put = record { name = put.1.0; bag = put.1.1 }

pub files_more : (stored : List Stored) (place : ℕ) (item : Stored) (files after : FileMap) (name text : List ℕ) → place < length stored → item ≡ get_or stored place item
    → files ≡ files_of (take place stored) → after ≡ fin.insert files name text → name ≡ (put_of item).1.0 → text ≡ bag_text (put_of item).1.1
    → after ≡ files_of (take (place + 1) stored)
files_more stored place item files after name text h is before put same printed =
    put
    ∙ ap (λ (m : FileMap). fin.insert m name text) before
    ∙ ap (λ (n : List ℕ). fin.insert (files_of (take place stored)) n text) same
    ∙ ap (fin.insert (files_of (take place stored)) (put_of item).1.0) printed
    ∙ sym (published_push fin.empty (writes_put (map put_of (take place stored))) (record { name = (put_of item).1.0; bag = (put_of item).1.1 }))
    ∙ ap published
    (sym (map-append (λ (p : Put). record { name = p.1.0; bag = p.1.1 }) (map put_of (take place stored)) (put_of item ∷ [])))
    ∙ ap (λ (l : List Put). published (writes_put l))
    (sym (map-append put_of (take place stored) (item ∷ []))
    ∙ ap (λ (l : List Stored). map put_of l) (ap (λ (x : Stored). take place stored ++ x ∷ []) is ∙ sym (take_more stored place item h)))

pub files_all : (stored : List Stored) (place : ℕ) (old : List Put) (files : FileMap) → length stored ≤ place → map put_of stored ≡ old
    → files ≡ files_of (take place stored) → files ≡ published (writes_put old)
files_all stored place old files h view before =
    before ∙ ap files_of (take_all place stored h) ∙ ap (λ (l : List Put). published (writes_put l)) view
