-- What a reader reads is spelled, and reading depends on no token after the first one that it leaves.
use Rattle.std.proofs.Common.{◌≡◌, ℕ, ◌+◌, ◌<◌, ◌≤◌, [], ◌∷◌, ◌++◌, length, Bool, true, false, ◌==◌, if◌then◌else◌, Option, Some, None, Result, Ok, Err, refl, sym, ap, ◌∙◌, subst, append_assoc, length-append, arith, eqb-true}
use Rattle.mit_lex.specs.declared.token.TokenKind.{TokenKind}
use Rattle.mit_lex.specs.declared.token.TokenKind.TheVariants.{Symbol, Keyword}
use Rattle.mit_script.specs.Grammar.{Kinds}
use Rattle.mit_script.specs.Reading.{Reading, ◌>>=◌, expect_symbol, sees_word, after_next}

-- the token that comes first
abbrev pub first_of : Kinds → Option TokenKind
first_of [] = None
first_of (token ∷ rest) = Some token

-- ---- results and options

-- results that are the same hold the same, and are both successes or both failures
pub ok_once : {A E : Type 0} (a b : A) → Path (Result A E) (Ok a) (Ok b) → a ≡ b
ok_once a b is = cc

pub err_once : {A E : Type 0} (a b : E) → Path (Result A E) (Err a) (Err b) → a ≡ b
err_once a b is = cc

pub ok_or_err : {A E : Type 0} (a : A) (e : E) → Path (Result A E) (Ok a) (Err e) → ⊥
ok_or_err a e is = cc

-- an option that holds something is not empty
pub some_or_none : {A : Type 0} (a : A) → Path (Option A) (Some a) None → ⊥
some_or_none a is = cc

-- ---- what is read

-- anything may follow
abbrev pub Anything : Kinds → Type 0
Anything rest = Unit {0}

-- What reading these tokens gives: an item that is spelled, and what may follow it; or the refused token, before which the tokens can be
-- completed. The other readers take as many tokens, or refuse the same one, whatever stands after the first one that is left.
pub data Reads {A X : Type 0} (Spelled : A → Kinds → Type 0) (Ends : Kinds → Type 0) (others : X → Kinds → Reading A) : Kinds → Reading A → Type 0 where
  takes : (item : A) (used rest : Kinds) → Spelled item used → Ends rest
      → ((x : X) (later : Kinds) → first_of later ≡ first_of rest → (other : A) × (others x (used ++ later) ≡ Ok (other, later)))
      → Reads Spelled Ends others (used ++ rest) (Ok (item, rest))
  stops : (item : A) (front rest more : Kinds) → Spelled item (front ++ more)
      → ((x : X) (later : Kinds) → first_of later ≡ first_of rest → others x (front ++ later) ≡ Err later)
      → Reads Spelled Ends others (front ++ rest) (Err rest)

-- what comes first depends on what comes first of the rest
pub first_of-append : (used later rest : Kinds) → first_of later ≡ first_of rest → first_of (used ++ later) ≡ first_of (used ++ rest)
first_of-append [] later rest same = same
first_of-append (token ∷ used) later rest same = refl

-- no token is taken
pub reads_none : {A X : Type 0} {Spelled : A → Kinds → Type 0} {Ends : Kinds → Type 0} {others : X → Kinds → Reading A} (item : A) (tokens : Kinds)
    → Spelled item [] → Ends tokens → ((x : X) (later : Kinds) → first_of later ≡ first_of tokens → (other : A) × (others x later ≡ Ok (other, later)))
    → Reads Spelled Ends others tokens (Ok (item, tokens))
reads_none item tokens spelled ends local = takes item [] tokens spelled ends local

-- the first token is refused
pub refuses : {A X : Type 0} {Spelled : A → Kinds → Type 0} {Ends : Kinds → Type 0} {others : X → Kinds → Reading A} (item : A) (more tokens : Kinds)
    → Spelled item more → ((x : X) (later : Kinds) → first_of later ≡ first_of tokens → others x later ≡ Err later)
    → Reads Spelled Ends others tokens (Err tokens)
refuses item more tokens spelled local = stops item [] tokens more spelled local

-- what is spelled may be spelled otherwise, what follows may be said in other words, and the other readers be given otherwise
pub reads_as : {A X Y : Type 0} {Spelled : A → Kinds → Type 0} {Ends : Kinds → Type 0} {others : X → Kinds → Reading A} {tokens : Kinds} {result : Reading A}
    → (Spelled' : A → Kinds → Type 0) (Ends' : Kinds → Type 0) (others' : Y → Kinds → Reading A)
    → ((item : A) (used : Kinds) → Spelled item used → Spelled' item used) → ((rest : Kinds) → Ends rest → Ends' rest)
    → ((y : Y) → (x : X) × ((later : Kinds) → others' y later ≡ others x later))
    → Reads Spelled Ends others tokens result → Reads Spelled' Ends' others' tokens result
reads_as Spelled' Ends' others' spells end_so given (takes item used rest spelled ends local) =
    takes item used rest (spells item used spelled) (end_so rest ends)
    (λ y later same. let at = local (given y).0 later same in (at.0, (given y).1 (used ++ later) ∙ at.1))
reads_as Spelled' Ends' others' spells end_so given (stops item front rest more spelled local) =
    stops item front rest more (spells item (front ++ more) spelled) (λ y later same. (given y).1 (front ++ later) ∙ local (given y).0 later same)

-- the other readers may also be given as those that agree with them where the same token comes first
pub reads_where : {A X Y : Type 0} {Spelled : A → Kinds → Type 0} {Ends : Kinds → Type 0} {others : X → Kinds → Reading A} {tokens : Kinds} {result : Reading A}
    → (others' : Y → Kinds → Reading A) → ((y : Y) → (x : X) × ((later : Kinds) → first_of later ≡ first_of tokens → others' y later ≡ others x later))
    → Reads Spelled Ends others tokens result → Reads Spelled Ends others' tokens result
reads_where others' given (takes item used rest spelled ends local) =
    takes item used rest spelled ends
    (λ y later same. let at = local (given y).0 later same in (at.0, (given y).1 (used ++ later) (first_of-append used later rest same) ∙ at.1))
reads_where others' given (stops item front rest more spelled local) =
    stops item front rest more spelled
    (λ y later same. (given y).1 (front ++ later) (first_of-append front later rest same) ∙ local (given y).0 later same)

-- a token, and then what is read after it
pub reads_behind : {A X : Type 0} {Spelled : A → Kinds → Type 0} {Ends : Kinds → Type 0} {others : X → Kinds → Reading A} {tokens : Kinds} {result : Reading A}
    → (token : TokenKind) (Spelled' : A → Kinds → Type 0) (others' : X → Kinds → Reading A)
    → ((item : A) (used : Kinds) → Spelled item used → Spelled' item (token ∷ used))
    → ((x : X) (later : Kinds) → others' x (token ∷ later) ≡ others x later)
    → Reads Spelled Ends others tokens result → Reads Spelled' Ends others' (token ∷ tokens) result
reads_behind token Spelled' others' spells given (takes item used rest spelled ends local) =
    takes item (token ∷ used) rest (spells item used spelled) ends
    (λ x later same. let at = local x later same in (at.0, given x (used ++ later) ∙ at.1))
reads_behind token Spelled' others' spells given (stops item front rest more spelled local) =
    stops item (token ∷ front) rest more (spells item (front ++ more) spelled) (λ x later same. given x (front ++ later) ∙ local x later same)

-- one reader after another: what the second one does after what the first one took
module _ {A B X : Type 0} (First : A → Kinds → Type 0) (firsts : X → Kinds → Reading A) (Second : A → B → Kinds → Type 0) (Ends : Kinds → Type 0)
    (nexts : X → A × Kinds → Reading B) (Both : B → Kinds → Type 0)
    (joined : (item : A) (last : B) (used more : Kinds) → First item used → Second item last more → Both last (used ++ more)) where
  reads_on : (item : A) (used : Kinds) {rest : Kinds} {result : Reading B} → First item used
      → ((x : X) (later : Kinds) → first_of later ≡ first_of rest → (other : A) × (firsts x (used ++ later) ≡ Ok (other, later)))
      → Reads (Second item) Ends (λ (y : X × A) (later : Kinds). nexts y.0 (y.1, later)) rest result
      → Reads Both Ends (λ (x : X) (later : Kinds). firsts x later >>= nexts x) (used ++ rest) result
  reads_on item used spelled first_local (takes last more rest spelled' ends local) =
      subst (λ tokens. Reads Both Ends (λ (x : X) (later : Kinds). firsts x later >>= nexts x) tokens (Ok (last, rest))) (append_assoc used more rest)
      (takes last (used ++ more) rest (joined item last used more spelled spelled') ends
      (λ x later same. let one = first_local x (more ++ later) (first_of-append more later rest same) in
      let two = local (x, one.0) later same in
      (two.0, ap (λ tokens. firsts x tokens >>= nexts x) (append_assoc used more later) ∙ ap (λ read. read >>= nexts x) one.1 ∙ two.1)))
  reads_on item used spelled first_local (stops last front rest more spelled' local) =
      subst (λ tokens. Reads Both Ends (λ (x : X) (later : Kinds). firsts x later >>= nexts x) tokens (Err rest)) (append_assoc used front rest)
      (stops last (used ++ front) rest more (subst (Both last) (sym (append_assoc used front more)) (joined item last used (front ++ more) spelled spelled'))
      (λ x later same. let one = first_local x (front ++ later) (first_of-append front later rest same) in
      ap (λ tokens. firsts x tokens >>= nexts x) (append_assoc used front later) ∙ ap (λ read. read >>= nexts x) one.1 ∙ local (x, one.0) later same))

  pub reads_then : {Between : Kinds → Type 0} {tokens : Kinds} {result : Reading A} → (next : A × Kinds → Reading B)
      → ((item : A) → (last : B) × (more : Kinds) × Second item last more)
      → ((item : A) (used rest : Kinds) → tokens ≡ used ++ rest → First item used → Between rest
      → Reads (Second item) Ends (λ (y : X × A) (later : Kinds). nexts y.0 (y.1, later)) rest (next (item, rest)))
      → Reads First Between firsts tokens result
      → Reads Both Ends (λ (x : X) (later : Kinds). firsts x later >>= nexts x) tokens (result >>= next)
  reads_then next completed then_reads (takes item used rest spelled ends local) =
      reads_on item used spelled local (then_reads item used rest refl spelled ends)
  reads_then next completed then_reads (stops item front rest more spelled local) =
      let end = completed item in
      stops end.0 front rest (more ++ end.1) (subst (Both end.0) (append_assoc front more end.1) (joined item end.0 (front ++ more) end.1 spelled end.2))
      (λ x later same. ap (λ read. read >>= nexts x) (local x later same))

-- ---- one token

-- what comes first is a token, and the rest comes after it
token_first : (token : TokenKind) (later : Kinds) → first_of later ≡ Some token → (more : Kinds) × (later ≡ token ∷ more)
token_first token [] is = absurd (some_or_none token (sym is))
token_first token (first ∷ more) is = (more, cc)

none_first : (later : Kinds) → first_of later ≡ None → later ≡ []
none_first [] is = refl
none_first (token ∷ more) is = cc

-- at the end of the tokens, and at a token: the reader refuses what comes first
pub refuses_end : {A X : Type 0} {Spelled : A → Kinds → Type 0} {Ends : Kinds → Type 0} {others : X → Kinds → Reading A} (item : A) (more : Kinds)
    → Spelled item more → ((x : X) → others x [] ≡ Err []) → Reads Spelled Ends others [] (Err [])
refuses_end {others = others} item more spelled local =
    refuses item more [] spelled (λ x later same. let is = none_first later same in subst (λ tokens. others x tokens ≡ Err tokens) (sym is) (local x))

pub refuses_token : {A X : Type 0} {Spelled : A → Kinds → Type 0} {Ends : Kinds → Type 0} {others : X → Kinds → Reading A} (item : A) (more : Kinds) (token : TokenKind) (rest : Kinds)
    → Spelled item more → ((x : X) (later : Kinds) → others x (token ∷ later) ≡ Err (token ∷ later)) → Reads Spelled Ends others (token ∷ rest) (Err (token ∷ rest))
refuses_token {others = others} item more token rest spelled local =
    refuses item more (token ∷ rest) spelled
    (λ x later same. let at = token_first token later same in subst (λ tokens. others x tokens ≡ Err tokens) (sym at.1) (local x at.0))

-- a single token is the item
pub reads_token : {A X : Type 0} {Spelled : A → Kinds → Type 0} {others : X → Kinds → Reading A} (item : A) (token : TokenKind) (rest : Kinds)
    → Spelled item (token ∷ []) → ((x : X) (later : Kinds) → (other : A) × (others x (token ∷ later) ≡ Ok (other, later)))
    → Reads Spelled Anything others (token ∷ rest) (Ok (item, rest))
reads_token item token rest spelled local = takes item (token ∷ []) rest spelled tt (λ x later same. local x later)

-- a single token is the item where a test of it holds, and otherwise it is refused
pub reads_if : {A X : Type 0} {Spelled : A → Kinds → Type 0} {others : X → Kinds → Reading A} (test : Bool) (item wrong : A) (items : X → A) (more : Kinds) (token : TokenKind) (rest : Kinds)
    → (test ≡ true → Spelled item (token ∷ [])) → Spelled wrong more
    → ((x : X) (later : Kinds) → others x (token ∷ later) ≡ (if test then Ok (items x, later) else Err (token ∷ later)))
    → Reads Spelled Anything others (token ∷ rest) (if test then Ok (item, rest) else Err (token ∷ rest))
reads_if true item wrong items more token rest spelled possible local = reads_token item token rest (spelled refl) (λ x later. (items x, local x later))
reads_if false item wrong items more token rest spelled possible local = refuses_token wrong more token rest possible local

abbrev pub IsSymbol : ℕ → Unit {0} → Kinds → Type 0
IsSymbol wanted read tokens = tokens ≡ Symbol wanted ∷ []

pub reads_symbol : {X : Type 0} (wanted : ℕ) (tokens : Kinds) → Reads (IsSymbol wanted) Anything (λ (x : X) (later : Kinds). expect_symbol wanted later) tokens (expect_symbol wanted tokens)
unfolding expect_symbol
reads_symbol wanted [] = refuses_end tt (Symbol wanted ∷ []) refl (λ x. refl)
reads_symbol wanted (Symbol place ∷ rest) =
    reads_if (place == wanted) tt tt (λ x. tt) (Symbol wanted ∷ []) (Symbol place) rest (λ is. ap (λ at. Symbol at ∷ []) (eqb-true place wanted is)) refl (λ x later. refl)
reads_symbol wanted (token ∷ rest) = refuses_token tt (Symbol wanted ∷ []) token rest refl (λ x later. refl)

-- one test of a table: what is found is at this place, or further down
pub found_at : {B : Type 0} (test : Bool) (here item : B) (further : Option B) (Found : B → Type 0) → (test ≡ true → Found here) → (further ≡ Some item → Found item)
    → (if test then Some here else further) ≡ Some item → Found item
found_at true here item further Found at later is = let same : here ≡ item = cc in subst Found same (at refl)
found_at false here item further Found at later is = later is

-- ---- what depends on the first token alone

-- whether the first token is this keyword
abbrev pub first_is_word : ℕ → Option TokenKind → Bool
first_is_word wanted (Some (Keyword place)) = place == wanted
first_is_word wanted _ = false

-- the keyword ahead depends on the first token
pub sees_word-first : (wanted : ℕ) (tokens : Kinds) → sees_word wanted tokens ≡ first_is_word wanted (first_of tokens)
unfolding sees_word
sees_word-first wanted [] = refl
sees_word-first wanted (Keyword place ∷ rest) = refl
sees_word-first wanted (_ ∷ rest) = refl

pub word_local : (wanted : ℕ) (later rest : Kinds) → first_of later ≡ first_of rest → sees_word wanted later ≡ sees_word wanted rest
word_local wanted later rest same = sees_word-first wanted later ∙ ap (first_is_word wanted) same ∙ sym (sees_word-first wanted rest)

pub word_seen : (wanted : ℕ) (tokens : Kinds) → sees_word wanted tokens ≡ true → tokens ≡ Keyword wanted ∷ after_next tokens
unfolding sees_word
word_seen wanted [] is = cc
word_seen wanted (Keyword place ∷ rest) is = ap (λ at. Keyword at ∷ rest) (eqb-true place wanted is)
word_seen wanted (token ∷ rest) is = cc

-- ---- what was read, made into another thing

pub reads_made : {A B X : Type 0} {Spelled : A → Kinds → Type 0} {Ends : Kinds → Type 0} {others : X → Kinds → Reading A} {tokens : Kinds} {result : Reading A}
    → (Spelled' : B → Kinds → Type 0) (made : A → B) (makes : X → A → B) → ((item : A) (used : Kinds) → Spelled item used → Spelled' (made item) used)
    → Reads Spelled Ends others tokens result
    → Reads Spelled' Ends (λ (x : X) (later : Kinds). others x later >>= λ read. Ok (makes x read.0, read.1)) tokens (result >>= λ read. Ok (made read.0, read.1))
reads_made Spelled' made makes spells (takes item used rest spelled ends local) =
    takes (made item) used rest (spells item used spelled) ends
    (λ x later same. let at = local x later same in (makes x at.0, ap (λ result. result >>= λ read. Ok (makes x read.0, read.1)) at.1))
reads_made Spelled' made makes spells (stops item front rest more spelled local) =
    stops (made item) front rest more (spells item (front ++ more) spelled)
    (λ x later same. ap (λ result. result >>= λ read. Ok (makes x read.0, read.1)) (local x later same))

-- ---- what is known of a result

pub reads_ok : {A X : Type 0} {Spelled : A → Kinds → Type 0} {Ends : Kinds → Type 0} {others : X → Kinds → Reading A} {tokens : Kinds} {result : Reading A}
    → (item : A) (rest : Kinds) → Reads Spelled Ends others tokens result → result ≡ Ok (item, rest)
    → (used : Kinds) × (tokens ≡ used ++ rest) × Spelled item used × Ends rest
    × ((x : X) (later : Kinds) → first_of later ≡ first_of rest → (other : A) × (others x (used ++ later) ≡ Ok (other, later)))
reads_ok {Spelled = Spelled} {Ends = Ends} item rest (takes read used left spelled ends local) is =
    let same = ok_once (read, left) (item, rest) is in
    let end : left ≡ rest = ap (λ p. p.1) same in (
      used,
      ap (λ p. used ++ p) end,
      subst (λ p. Spelled p.0 used) same spelled,
      subst Ends end ends,
      λ x later first.
          let at = local x later (first ∙ ap first_of (sym end)) in (at.0, at.1),
    )
reads_ok item rest (stops read front left more spelled local) is = absurd (ok_or_err (item, rest) left (sym is))

pub reads_err : {A X : Type 0} {Spelled : A → Kinds → Type 0} {Ends : Kinds → Type 0} {others : X → Kinds → Reading A} {tokens : Kinds} {result : Reading A}
    → (rest : Kinds) → Reads Spelled Ends others tokens result → result ≡ Err rest
    → (front : Kinds) × (item : A) × (more : Kinds) × (tokens ≡ front ++ rest) × Spelled item (front ++ more)
    × ((x : X) (later : Kinds) → first_of later ≡ first_of rest → others x (front ++ later) ≡ Err later)
reads_err rest (takes read used left spelled ends local) is = absurd (ok_or_err (read, left) rest is)
reads_err rest (stops item front left more spelled local) is =
    let same = err_once left rest is in
    (front, item, more, ap (λ p. front ++ p) same, spelled, λ x later first. local x later (first ∙ ap first_of (sym same)))

-- and the other way round, where the tokens are cut so
pub takes_these : {A X : Type 0} {Spelled : A → Kinds → Type 0} {Ends : Kinds → Type 0} {others : X → Kinds → Reading A} (item : A) (used rest tokens : Kinds)
    → tokens ≡ used ++ rest → Spelled item used → Ends rest
    → ((x : X) (later : Kinds) → first_of later ≡ first_of rest → (other : A) × (others x (used ++ later) ≡ Ok (other, later)))
    → Reads Spelled Ends others tokens (Ok (item, rest))
takes_these {Spelled = Spelled} {Ends = Ends} {others = others} item used rest tokens cut spelled ends local =
    subst (λ all. Reads Spelled Ends others all (Ok (item, rest))) (sym cut) (takes item used rest spelled ends local)

pub stops_there : {A X : Type 0} {Spelled : A → Kinds → Type 0} {Ends : Kinds → Type 0} {others : X → Kinds → Reading A} (item : A) (front rest more tokens : Kinds)
    → tokens ≡ front ++ rest → Spelled item (front ++ more)
    → ((x : X) (later : Kinds) → first_of later ≡ first_of rest → others x (front ++ later) ≡ Err later)
    → Reads Spelled Ends others tokens (Err rest)
stops_there {Spelled = Spelled} {Ends = Ends} {others = others} item front rest more tokens cut spelled local =
    subst (λ all. Reads Spelled Ends others all (Err rest)) (sym cut) (stops item front rest more spelled local)

-- ---- bounds

-- other readers, each with a bound of its own that is no lower
abbrev pub Bounded : Type 0 → ℕ → Type 0
Bounded X turns = (x : X) × (bound : ℕ) × (turns ≤ bound)

-- what is left is no longer than what was there
pub left_below : (tokens used rest : Kinds) (most : ℕ) → tokens ≡ used ++ rest → length tokens < most → length rest < most
left_below tokens used rest most is few =
    let whole : length tokens ≡ length used + length rest = ap length is ∙ length-append used rest in omega arith
