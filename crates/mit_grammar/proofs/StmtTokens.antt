-- Readers of one token, choices by the next one, and lists.
use Rattle.std.proofs.Common.{◌≡◌, ℕ, zero, suc, ◌+◌, ◌≤◌, List, [], ◌∷◌, ◌++◌, length, Bool, true, false, ◌==◌, if◌then◌else◌, Option, Some, Ok, Err, ◌⊎◌, inl, inr, refl, ap, sym, subst, ◌∙◌, arith, append-nil}
use Rattle.std.proofs.lemmas.Bool.{eq-eqb}
use Rattle.std.proofs.lemmas.Bool.Decides.{eqb_tells}
use Rattle.mit_rows.specs.declared.value.ColType.{ColType}
use Rattle.mit_rows.specs.declared.value.ColType.TheVariants.{Int, Text as Letters, Bool as Truth}
use Rattle.mit_lex.specs.declared.token.TokenKind.{TokenKind}
use Rattle.mit_lex.specs.declared.token.TokenKind.TheVariants.{Name, Column, Text, Symbol, Keyword}
use Rattle.mit_lex.specs.declared.symbol.TheConstants as symbol
use Rattle.mit_lex.specs.declared.keyword.TheConstants as word
use Rattle.mit_script.specs.Grammar.{Kinds, Listed, single_item, and_more, SpellsType, SpellsColumn, type_token}
use Rattle.mit_script.specs.Reading.{Reading, ◌>>=◌, expect_symbol, expect_word, name_at, column_at, text_at, type_word_at, sees_symbol, sees_word, after_next, listed}
use Rattle.mit_grammar.proofs.Readers.{first_of, word_local}
use Rattle.mit_grammar.proofs.StmtReaders.{Spelling, Reader, IsReader, IsLocal, TakesOne, One, one, reads_one, Bind, both, bind, bind_within, Made, made, make, along, convert, Pure, pure, reads_pure, Or, this, other, choose, deeper, at_no_depth, widely}

-- anything may follow
abbrev pub Whatever : Option TokenKind → Type 0
Whatever first = Unit {0}

-- ---- one token

symbol_refused : (wanted : ℕ) (next : TokenKind) → ((a : Unit {0}) × (next ≡ Symbol wanted)) ⊎ ((rest : Kinds) → expect_symbol wanted (next ∷ rest) ≡ Err (next ∷ rest))
unfolding expect_symbol
symbol_refused wanted (Symbol place) = elim (eqb_tells place wanted) [ inl e ↦ inl (tt, ap Symbol e.1) | inr e ↦ inr (λ rest. rw e.0 refl) ]
symbol_refused wanted _ = inr (λ rest. refl)

-- the readers of one token: this symbol, this keyword, a name, a column, a text, a type
symbol_takes : (wanted : ℕ) → TakesOne (λ (u : Unit {0}). Symbol wanted) (expect_symbol wanted)
unfolding expect_symbol
symbol_takes wanted = record { sample = tt; at_end = refl; takes = λ a rest. rw (eq-eqb wanted wanted refl) refl; refuses = symbol_refused wanted }

word_refused : (wanted : ℕ) (next : TokenKind) → ((a : Unit {0}) × (next ≡ Keyword wanted)) ⊎ ((rest : Kinds) → expect_word wanted (next ∷ rest) ≡ Err (next ∷ rest))
unfolding expect_word
word_refused wanted (Keyword place) = elim (eqb_tells place wanted) [ inl e ↦ inl (tt, ap Keyword e.1) | inr e ↦ inr (λ rest. rw e.0 refl) ]
word_refused wanted _ = inr (λ rest. refl)

word_takes : (wanted : ℕ) → TakesOne (λ (u : Unit {0}). Keyword wanted) (expect_word wanted)
unfolding expect_word
word_takes wanted = record { sample = tt; at_end = refl; takes = λ a rest. rw (eq-eqb wanted wanted refl) refl; refuses = word_refused wanted }

name_refused : (next : TokenKind) → ((a : List ℕ) × (next ≡ Name a)) ⊎ ((rest : Kinds) → name_at (next ∷ rest) ≡ Err (next ∷ rest))
unfolding name_at
name_refused (Name name) = inl (name, refl)
name_refused _ = inr (λ rest. refl)

name_takes : TakesOne Name name_at
unfolding name_at
name_takes = record { sample = []; at_end = refl; takes = λ a rest. refl; refuses = name_refused }

column_refused : (next : TokenKind) → ((a : ℕ) × (next ≡ Column a)) ⊎ ((rest : Kinds) → column_at (next ∷ rest) ≡ Err (next ∷ rest))
unfolding column_at
column_refused (Column column) = inl (column, refl)
column_refused _ = inr (λ rest. refl)

column_takes : TakesOne Column column_at
unfolding column_at
column_takes = record { sample = 0; at_end = refl; takes = λ a rest. refl; refuses = column_refused }

text_refused : (next : TokenKind) → ((a : List ℕ) × (next ≡ Text a)) ⊎ ((rest : Kinds) → text_at (next ∷ rest) ≡ Err (next ∷ rest))
unfolding text_at
text_refused (Text bytes) = inl (bytes, refl)
text_refused _ = inr (λ rest. refl)

text_takes : TakesOne Text text_at
unfolding text_at
text_takes = record { sample = []; at_end = refl; takes = λ a rest. refl; refuses = text_refused }

type_word_refused : (place : ℕ) → ((a : ColType) × (Keyword place ≡ type_token a)) ⊎ ((rest : Kinds) → type_word_at (Keyword place ∷ rest) ≡ Err (Keyword place ∷ rest))
unfolding type_word_at
type_word_refused place = elim (eqb_tells place word.INT) [
  | inl e ↦ inl (Int, ap Keyword e.1)
  | inr e ↦ elim (eqb_tells place word.TEXT) [
    | inl f ↦ inl (Letters, ap Keyword f.1)
    | inr f ↦ elim (eqb_tells place word.BOOL) [
      | inl g ↦ inl (Truth, ap Keyword g.1)
      | inr g ↦ inr (λ rest. rw (e.0, f.0, g.0) refl)
    ]
  ]
]

type_refused : (next : TokenKind) → ((a : ColType) × (next ≡ type_token a)) ⊎ ((rest : Kinds) → type_word_at (next ∷ rest) ≡ Err (next ∷ rest))
unfolding type_word_at
type_refused (Keyword place) = type_word_refused place
type_refused _ = inr (λ rest. refl)

type_taken : (type : ColType) (rest : Kinds) → type_word_at (type_token type ∷ rest) ≡ Ok (type, rest)
unfolding type_word_at
type_taken Int rest = refl
type_taken Letters rest = refl
type_taken Truth rest = refl

type_takes : TakesOne type_token type_word_at
unfolding type_word_at
type_takes = record { sample = Int; at_end = refl; takes = type_taken; refuses = type_refused }

abbrev pub SymbolOf : {P : Type 0} → ℕ → Spelling P (Unit {0})
SymbolOf wanted = One (λ u. Symbol wanted)

abbrev pub WordOf : {P : Type 0} → ℕ → Spelling P (Unit {0})
WordOf wanted = One (λ u. Keyword wanted)

-- the readers of one token, which anything may follow
pub reads_one_symbol : {P : Type 0} {top slack : ℕ} (wanted : ℕ) → IsReader {P = P} top slack (SymbolOf wanted) Whatever (λ p left most. expect_symbol wanted)
reads_one_symbol wanted = reads_one Whatever (λ u. Symbol wanted) (expect_symbol wanted) (symbol_takes wanted)

reads_one_word : {P : Type 0} {top slack : ℕ} (wanted : ℕ) → IsReader {P = P} top slack (WordOf wanted) Whatever (λ p left most. expect_word wanted)
reads_one_word wanted = reads_one Whatever (λ u. Keyword wanted) (expect_word wanted) (word_takes wanted)

pub reads_one_name : {P : Type 0} {top slack : ℕ} → IsReader {P = P} top slack (One Name) Whatever (λ p left most. name_at)
reads_one_name = reads_one Whatever Name name_at name_takes

pub reads_one_column : {P : Type 0} {top slack : ℕ} → IsReader {P = P} top slack (One Column) Whatever (λ p left most. column_at)
reads_one_column = reads_one Whatever Column column_at column_takes

pub reads_one_text : {P : Type 0} {top slack : ℕ} → IsReader {P = P} top slack (One Text) Whatever (λ p left most. text_at)
reads_one_text = reads_one Whatever Text text_at text_takes

-- the one token, as an equation
pub one_is : {P A : Type 0} (token : A → TokenKind) (p : P) (a : A) (tokens : Kinds) → One token p a tokens → tokens ≡ token a ∷ []
one_is token p a tokens one = refl

is_one : {P A : Type 0} (token : A → TokenKind) (p : P) (a : A) (tokens : Kinds) → tokens ≡ token a ∷ [] → One token p a tokens
is_one token p a tokens is = rw is one

pub reads_the_column : {P : Type 0} {top slack : ℕ} → IsReader {P = P} top slack (λ p. SpellsColumn) Whatever (λ p left most. column_at)
reads_the_column = convert reads_one_column (one_is Column) (is_one Column) (λ first e. e) (λ p left most tokens. refl)

pub reads_the_type : {P : Type 0} {top slack : ℕ} → IsReader {P = P} top slack (λ p. SpellsType) Whatever (λ p left most. type_word_at)
reads_the_type = convert (reads_one Whatever type_token type_word_at type_takes) (one_is type_token) (is_one type_token) (λ first e. e) (λ p left most tokens. refl)

-- ---- choices by the next token

abbrev pub first_is_symbol : ℕ → Option TokenKind → Bool
first_is_symbol wanted (Some (Symbol place)) = place == wanted
first_is_symbol wanted _ = false

-- what is seen depends on the first token
sees_symbol-first : (wanted : ℕ) (tokens : Kinds) → sees_symbol wanted tokens ≡ first_is_symbol wanted (first_of tokens)
unfolding sees_symbol
sees_symbol-first wanted [] = refl
sees_symbol-first wanted (Symbol place ∷ rest) = refl
sees_symbol-first wanted (_ ∷ rest) = refl

symbol_local : (wanted : ℕ) → IsLocal (sees_symbol wanted)
symbol_local wanted x y same = sees_symbol-first wanted x ∙ ap (first_is_symbol wanted) same ∙ sym (sees_symbol-first wanted y)

-- a test that is made twice
tested_twice : {A B : Type 0} (test : Bool) (taken : A × Kinds) (refused : Kinds) (next : A × Kinds → Reading B) (x : Reading B)
    → Path (Reading B) (if test then ((if test then Ok taken else Err refused) >>= next) else x) (if test then next taken else x)
tested_twice true taken refused next x = refl
tested_twice false taken refused next x = refl

-- after a symbol that is seen one reads as after one that is expected
behind_symbol : {A : Type 0} (wanted : ℕ) (tokens : Kinds) (next : Kinds → Reading A) (x : Reading A)
    → Path (Reading A) (if sees_symbol wanted tokens then (expect_symbol wanted tokens >>= λ end. next end.1) else x) (if sees_symbol wanted tokens then next (after_next tokens) else x)
unfolding sees_symbol expect_symbol
behind_symbol wanted [] next x = refl
behind_symbol wanted (Symbol place ∷ rest) next x = tested_twice (place == wanted) (tt, rest) (Symbol place ∷ rest) (λ end. next end.1) x
behind_symbol wanted (_ ∷ rest) next x = refl

behind_word : {A : Type 0} (wanted : ℕ) (tokens : Kinds) (next : Kinds → Reading A) (x : Reading A)
    → Path (Reading A) (if sees_word wanted tokens then (expect_word wanted tokens >>= λ end. next end.1) else x) (if sees_word wanted tokens then next (after_next tokens) else x)
unfolding sees_word expect_word
behind_word wanted [] next x = refl
behind_word wanted (Keyword place ∷ rest) next x = tested_twice (place == wanted) (tt, rest) (Keyword place ∷ rest) (λ end. next end.1) x
behind_word wanted (_ ∷ rest) next x = refl

-- a keyword, and what is read after it
abbrev pub AfterWord : {P A : Type 0} → ℕ → Spelling P A → Spelling P A
AfterWord wanted R = Bind (WordOf wanted) (λ q. R q.0)

abbrev pub AfterSymbol : {P A : Type 0} → ℕ → Spelling P A → Spelling P A
AfterSymbol wanted R = Bind (SymbolOf wanted) (λ q. R q.0)

-- what is read after a symbol shows it
symbol_sees : {P A : Type 0} (wanted : ℕ) (R : Spelling P A) (p : P) (a : A) (tokens after : Kinds) → AfterSymbol wanted R p a tokens → sees_symbol wanted (tokens ++ after) ≡ true
unfolding sees_symbol
symbol_sees wanted R p a tokens after (both one x) = eq-eqb wanted wanted refl

word_sees : {P A : Type 0} (wanted : ℕ) (R : Spelling P A) (p : P) (a : A) (tokens after : Kinds) → AfterWord wanted R p a tokens → sees_word wanted (tokens ++ after) ≡ true
unfolding sees_word
word_sees wanted R p a tokens after (both one x) = eq-eqb wanted wanted refl

-- a token makes room for one
token_room : {P A : Type 0} (slack low : ℕ) (token : A → TokenKind) → slack ≤ low + 1 → (p : P) (a : A) (tokens : Kinds) → One token p a tokens → slack ≤ low + length tokens
token_room slack low token spare p a tokens one = spare

-- what is read after a token, which leaves room
pub after_word : {P A : Type 0} {top slack : ℕ} (low : ℕ) (wanted : ℕ) {R : Spelling P A} {F : Option TokenKind → Type 0} {r : Reader P A} → slack ≤ low + 1 → IsReader top low R F r
    → IsReader top slack (AfterWord wanted R) F (λ p left most tokens. expect_word wanted tokens >>= λ end. r p left most end.1)
after_word {slack = slack} low wanted spare reads =
    bind_within low (reads_one_word wanted) (along (λ q. q.0) reads) (token_room slack low (λ u. Keyword wanted) spare) (λ p a c tokens after x e. tt)

pub after_symbol : {P A : Type 0} {top slack : ℕ} (low : ℕ) (wanted : ℕ) {R : Spelling P A} {F : Option TokenKind → Type 0} {r : Reader P A} → slack ≤ low + 1 → IsReader top low R F r
    → IsReader top slack (AfterSymbol wanted R) F (λ p left most tokens. expect_symbol wanted tokens >>= λ end. r p left most end.1)
after_symbol {slack = slack} low wanted spare reads =
    bind_within low (reads_one_symbol wanted) (along (λ q. q.0) reads) (token_room slack low (λ u. Symbol wanted) spare) (λ p a c tokens after x e. tt)

-- what is after a symbol, where it is seen, or something else
choose_symbol : {P A : Type 0} {top slack : ℕ} (low : ℕ) (wanted : ℕ) {R S : Spelling P A} {F : Option TokenKind → Type 0} {r s : Reader P A} → slack ≤ low + 1
    → IsReader top low R F r → IsReader top slack S F s → ((p : P) (a : A) (tokens after : Kinds) → S p a tokens → F (first_of after) → sees_symbol wanted (tokens ++ after) ≡ false)
    → IsReader top slack (Or (AfterSymbol wanted R) S) F
    (λ p left most tokens. if sees_symbol wanted tokens then r p left most (after_next tokens) else s p left most tokens)
choose_symbol low wanted {R = R} {r = r} {s = s} spare first second unseen =
    convert (choose (sees_symbol wanted) (symbol_local wanted) (after_symbol low wanted spare first) second (symbol_sees wanted R) unseen) (λ p a tokens x. x) (λ p a tokens x. x) (λ next e. e)
    (λ p left most tokens. behind_symbol wanted tokens (r p left most) (s p left most tokens))

-- what is after a keyword, where it is seen, or something else
pub choose_word : {P A : Type 0} {top slack : ℕ} (low : ℕ) (wanted : ℕ) {R S : Spelling P A} {F : Option TokenKind → Type 0} {r s : Reader P A} → slack ≤ low + 1
    → IsReader top low R F r → IsReader top slack S F s → ((p : P) (a : A) (tokens after : Kinds) → S p a tokens → F (first_of after) → sees_word wanted (tokens ++ after) ≡ false)
    → IsReader top slack (Or (AfterWord wanted R) S) F
    (λ p left most tokens. if sees_word wanted tokens then r p left most (after_next tokens) else s p left most tokens)
choose_word low wanted {R = R} {r = r} {s = s} spare first second unseen =
    convert (choose (sees_word wanted) (word_local wanted) (after_word low wanted spare first) second (word_sees wanted R) unseen) (λ p a tokens x. x) (λ p a tokens x. x) (λ next e. e)
    (λ p left most tokens. behind_word wanted tokens (r p left most) (s p left most tokens))

-- ---- lists

-- no comma may follow a list
abbrev pub EndsList : (Option TokenKind → Type 0) → Option TokenKind → Type 0
EndsList F first = F first × (first_is_symbol symbol.COMMA first ≡ false)

-- what stands after the first item of a list
abbrev ListRest : {P A : Type 0} → Spelling P A → Spelling (P × A) (List A)
ListRest R = Or (AfterSymbol symbol.COMMA (Made (λ q. Listed (R q.0)) (λ q items. (q.1 ∷ []) ++ items))) (Pure (λ q. q.1 ∷ []))

-- an item and what stands after it are a list
is_listed : {P A : Type 0} (R : Spelling P A) (p : P) (items : List A) (tokens : Kinds) → Bind R (ListRest R) p items tokens → Listed (R p) items tokens
is_listed R p items tokens (both x (this (both one (made y)))) = and_more x y
is_listed R p items tokens (both {a = a} {front = front} x (other pure)) = subst (λ t. Listed (R p) (a ∷ []) t) (sym (append-nil front)) (single_item x)

-- a list is an item and what stands after it
list_is : {P A : Type 0} (R : Spelling P A) (p : P) (items : List A) (tokens : Kinds) → Listed (R p) items tokens → Bind R (ListRest R) p items tokens
list_is R p items tokens (single_item {item = item} x) = subst (λ t. Bind R (ListRest R) p (item ∷ []) t) (append-nil tokens) (both x (other pure))
list_is R p items tokens (and_more x y) = both x (this (both one (made y)))

-- a comma, or what follows a list, may follow an item
rest_meets : {P A : Type 0} (R : Spelling P A) (F : Option TokenKind → Type 0) → F (Some (Symbol symbol.COMMA)) → (p : P) (a : A) (items : List A) (tokens after : Kinds)
    → ListRest R (p, a) items tokens → EndsList F (first_of after) → F (first_of (tokens ++ after))
rest_meets R F comma p a items tokens after (this (both one y)) ends = comma
rest_meets R F comma p a items tokens after (other pure) ends = ends.0

-- no comma is seen at the end of a list
none_sees : {P A : Type 0} (F : Option TokenKind → Type 0) (f : P → A) (p : P) (a : A) (tokens after : Kinds) → Pure f p a tokens → EndsList F (first_of after)
    → sees_symbol symbol.COMMA (tokens ++ after) ≡ false
none_sees F f p a tokens after pure ends = sees_symbol-first symbol.COMMA after ∙ ends.1

-- the reader of a list, to each depth
list_at : {P A : Type 0} (R : Spelling P A) (F : Option TokenKind → Type 0) (r : P → ℕ → Kinds → Reading A) → ((top slack : ℕ) → IsReader top slack R F (λ p left most. r p most))
    → F (Some (Symbol symbol.COMMA)) → (top : ℕ) → IsReader top 0 (λ p. Listed (R p)) (EndsList F) (λ p left most. listed (r p most) left)
unfolding listed
list_at R F r item comma zero = at_no_depth (λ p. let x = (item 0 0).some p in (x.0 ∷ [], x.1, single_item x.2))
list_at R F r item comma (suc top) =
    deeper (λ p left most. listed (r p most) left)
    (convert (bind (item top 1)
    (choose_symbol 0 symbol.COMMA (omega arith) (make (along (λ q. q.0) (list_at R F r item comma top)) (λ q items. (q.1 ∷ []) ++ items)) (reads_pure (EndsList F) (λ q. q.1 ∷ []))
    (none_sees F (λ q. q.1 ∷ [])))
    (rest_meets R F comma))
    (is_listed R) (list_is R) (λ next e. e) (λ p left most tokens. refl))

-- one or more, with commas between
pub reads_list : {P A : Type 0} {top slack : ℕ} (R : Spelling P A) (F : Option TokenKind → Type 0) (r : P → ℕ → Kinds → Reading A)
    → ((top slack : ℕ) → IsReader top slack R F (λ p left most. r p most)) → F (Some (Symbol symbol.COMMA))
    → IsReader top slack (λ p. Listed (R p)) (EndsList F) (λ p left most. listed (r p most) most)
reads_list R F r item comma = widely (list_at R F r item comma)
