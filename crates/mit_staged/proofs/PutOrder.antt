-- Puts in rising order, and one more in its place among them.
--     rises_with      a rising list rises with the put
--     place_is      where the put goes, by the puts around that place
use Rattle.std.proofs.Common.{◌≡◌, ℕ, true, false, cond, List, [], ◌∷◌, ◌++◌, refl, ap, ◌∙◌, arith}
use Rattle.std.specs.List.{All}
use Rattle.std.proofs.lemmas.List.Elements.{All-nil, All-cons, All-head, All-tail, All-weaker}
use Rattle.mit_rows.specs.Bags.{BagOf}
use Rattle.mit_staged.specs.Staged.{Put, is_below, with_put}
use Rattle.mit_staged.specs.StoredPuts.{NoneBelow, Rises}

not_back : (a b : ℕ × ℕ) → is_below a b ≡ true → is_below b a ≡ false
not_back a b below = grind arith

-- what is not below the one, which is not below the other, is not below that
chain : (a b c : ℕ × ℕ) → is_below a b ≡ false → is_below b c ≡ false → is_below a c ≡ false
chain a b c first second = grind arith

-- the same where the second pair is above
chain_up : (a b c : ℕ × ℕ) → is_below a b ≡ false → is_below c b ≡ true → is_below a c ≡ false
chain_up a b c first second = chain a b c first (not_back c b second)

none_below_with : (first put : Put) (puts : List Put) → is_below put.0 first.0 ≡ false → NoneBelow first puts → NoneBelow first (with_put put puts)
unfolding with_put
none_below_with first put [] h all = All-cons (λ (later : Put). is_below later.0 first.0 ≡ false) put [] h all
none_below_with first put (next ∷ rest) h all =
    let P : Put → Type 0 = λ later. is_below later.0 first.0 ≡ false in
    elim (is_below put.0 next.0) as (λ b. All P (cond b (put ∷ next ∷ rest) (next ∷ with_put put rest))) [
      | true ↦ All-cons P put (next ∷ rest) h all
      | false ↦ All-cons P next (with_put put rest) (All-head P next rest all) (none_below_with first put rest h (All-tail P next rest all))
    ]

pub rises_with : (put : Put) (puts : List Put) → Rises puts → Rises (with_put put puts)
unfolding with_put
rises_with put [] up = (All-nil _, tt)
rises_with put (next ∷ rest) up =
    let P : Put → Type 0 = λ later. is_below later.0 put.0 ≡ false in
    let Q : Put → Type 0 = λ later. is_below later.0 next.0 ≡ false in
    elim (is_below put.0 next.0) as (λ b. is_below put.0 next.0 ≡ b → Rises (cond b (put ∷ next ∷ rest) (next ∷ with_put put rest))) [
      | true ↦ λ e.
          (All-cons P next rest (not_back put.0 next.0 e) (All-weaker Q P (λ later q. chain_up later.0 next.0 put.0 q e) rest up.0), up)
      | false ↦ λ e. (none_below_with next put rest e up.0, rises_with put rest up.1)
    ] refl

-- the pair is not below the last of a rising list, so it is below none
pub all_lower : (pair : ℕ × ℕ) (puts : List Put) (last : Put) → Rises (puts ++ last ∷ []) → is_below pair last.0 ≡ false
    → All (λ (put : Put). is_below pair put.0 ≡ false) (puts ++ last ∷ [])
all_lower pair [] last up h = All-cons (λ (put : Put). is_below pair put.0 ≡ false) last [] h (All-nil _)
all_lower pair (first ∷ puts) last up h =
    let P : Put → Type 0 = λ put. is_below pair put.0 ≡ false in
    All-cons P first (puts ++ last ∷ []) (chain pair last.0 first.0 h (last_of puts up.0)) (all_lower pair puts last up.1 h)
  where
    last_of : (rest : List Put) → NoneBelow first (rest ++ last ∷ []) → is_below last.0 first.0 ≡ false
    last_of [] all = All-head (λ (later : Put). is_below later.0 first.0 ≡ false) last [] all
    last_of (next ∷ rest) all = last_of rest (All-tail (λ (later : Put). is_below later.0 first.0 ≡ false) next (rest ++ last ∷ []) all)

-- the first of these is above the pair
abbrev pub BeginsAbove : ℕ × ℕ → List Put → Type 0
BeginsAbove pair [] = Unit {0}
BeginsAbove pair (put ∷ puts) = is_below pair put.0 ≡ true

pub place_is : (pair : ℕ × ℕ) (write : List ℕ × BagOf) (before after : List Put) → All (λ (put : Put). is_below pair put.0 ≡ false) before → BeginsAbove pair after
    → with_put (pair, write) (before ++ after) ≡ before ++ (pair, write) ∷ after
unfolding with_put
place_is pair write [] [] lower above = refl
place_is pair write [] (put ∷ puts) lower above = ap (λ b. cond b ((pair, write) ∷ put ∷ puts) (put ∷ with_put (pair, write) puts)) above
place_is pair write (first ∷ before) after lower above =
    let P : Put → Type 0 = λ put. is_below pair put.0 ≡ false in
    ap (λ b. cond b ((pair, write) ∷ first ∷ (before ++ after)) (first ∷ with_put (pair, write) (before ++ after))) (All-head P first before lower)
    ∙ ap (λ (l : List Put). first ∷ l) (place_is pair write before after (All-tail P first before lower) above)

front_none : (first : Put) (before after : List Put) → NoneBelow first (before ++ after) → NoneBelow first before
front_none first [] after all = All-nil _
front_none first (put ∷ before) after all =
    let P : Put → Type 0 = λ later. is_below later.0 first.0 ≡ false in
    All-cons P put before (All-head P put (before ++ after) all) (front_none first before after (All-tail P put (before ++ after) all))

pub rises_front : (before after : List Put) → Rises (before ++ after) → Rises before
rises_front [] after up = tt
rises_front (put ∷ before) after up = (front_none put before after up.0, rises_front before after up.1)
