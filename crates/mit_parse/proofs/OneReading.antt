-- A text spells at most one script, or is refused at one place, and never both.
use Rattle.std.proofs.Common.{◌≡◌, ◌∙◌, ◌-◌, ℕ, List, [], ◌∷◌, ◌++◌, length, drop, sym, subst, ap, refl, append_assoc, arith, length-append}
use Rattle.std.proofs.Math.Seq.{drop-append_seam}
use Rattle.std.proofs.lemmas.List.{append-nil, length-map}
use Rattle.mit_lex.specs.declared.token.Token.{Token}
use Rattle.mit_lex.specs.declared.token.TokenKind.{TokenKind}
use Rattle.mit_script.specs.Grammar.{CanGoOn, IsRefused, IsSpelled, Kinds, Spells, StopsBefore, kinds}
use Rattle.mit_script.specs.declared.tree.Script.{Script}
use Rattle.mit_parse.specs.Places.{IsRefusedAt, at_token, no_tokens, start_of}

-- where a spelled list begins with some tokens, it begins with the first of them
goes_on_with : (front : Kinds) (token : TokenKind) (more : Kinds) → CanGoOn (front ++ token ∷ more) → CanGoOn (front ++ token ∷ [])
goes_on_with front token more on = (
  on.0,
  more ++ on.1,
  subst (λ (all : Kinds). Spells on.0 all) (append_assoc front (token ∷ more) on.1 ∙ sym (append_assoc front (token ∷ []) (more ++ on.1))) on.2,
)

-- two cuts of one list are the same, or one is before the other
pub data Cuts {A : Type 0} : List A → List A → List A → List A → Type 0 where
  same_cut : {front rest : List A} → Cuts front rest front rest
  other_later : {front rest : List A} → (item : A) (more : List A) → Cuts front (item ∷ more ++ rest) (front ++ item ∷ more) rest
  other_earlier : {front rest : List A} → (item : A) (more : List A) → Cuts (front ++ item ∷ more) rest front (item ∷ more ++ rest)

deeper : {A : Type 0} {front rest other_front other_rest : List A} (first : A) → Cuts front rest other_front other_rest
    → Cuts (first ∷ front) rest (first ∷ other_front) other_rest
deeper first same_cut = same_cut
deeper first (other_later item more) = other_later item more
deeper first (other_earlier item more) = other_earlier item more

same_head : {A : Type 0} (a b : A) (more others : List A) → a ∷ more ≡ b ∷ others → a ≡ b
same_head a b more others e = cc

same_tail : {A : Type 0} (a b : A) (more others : List A) → a ∷ more ≡ b ∷ others → more ≡ others
same_tail a b more others e = cc

cuts : {A : Type 0} (front rest other_front other_rest : List A) → front ++ rest ≡ other_front ++ other_rest → Cuts front rest other_front other_rest
cuts {A} [] rest [] other_rest e = subst (λ (l : List A). Cuts [] rest [] l) e same_cut
cuts {A} [] rest (first ∷ others) other_rest e = subst (λ (l : List A). Cuts [] l (first ∷ others) other_rest) (sym e) (other_later first others)
cuts {A} (first ∷ front) rest [] other_rest e = subst (λ (l : List A). Cuts (first ∷ front) rest [] l) e (other_earlier first front)
cuts {A} (first ∷ front) rest (first' ∷ others) other_rest e =
    subst (λ (x : A). Cuts (first ∷ front) rest (x ∷ others) other_rest) (same_head first first' (front ++ rest) (others ++ other_rest) e)
    (deeper first (cuts front rest others other_rest (same_tail first first' (front ++ rest) (others ++ other_rest) e)))

-- the first token with which no spelled list goes on is one
same_rest : (front rest front' rest' : Kinds) → Cuts front rest front' rest' → CanGoOn front → IsRefused front rest → CanGoOn front' → IsRefused front' rest'
    → rest ≡ rest'
same_rest front rest front' rest' same_cut on refused on' refused' = refl
same_rest front rest front' rest' (other_later item more) on refused on' refused' = absurd (refused (goes_on_with front item more on'))
same_rest front rest front' rest' (other_earlier item more) on refused on' refused' = absurd (refused' (goes_on_with front' item more on))

-- the grammar stops before one token
one_stop : (tokens rest rest' : Kinds) → StopsBefore tokens rest → StopsBefore tokens rest' → rest ≡ rest'
one_stop tokens rest rest' one other =
    same_rest one.front rest other.front rest' (cuts one.front rest other.front rest' (sym one.cut ∙ other.cut)) one.goes_on one.refused other.goes_on other.refused

-- where it stops, no script is spelled
none_from : (front rest : Kinds) → IsRefused front rest → (script : Script) → Spells script (front ++ rest) → ⊥
none_from front [] refused script spelled = refused script (subst (λ (all : Kinds). Spells script all) (append-nil front) spelled)
none_from front (token ∷ rest) refused script spelled =
    refused (goes_on_with front token rest (script, [], subst (λ (all : Kinds). Spells script all) (sym (append-nil (front ++ token ∷ rest))) spelled))

-- the end of a list, by its length
pub end_is : {A : Type 0} (front rest : List A) → drop (length (front ++ rest) - length rest) (front ++ rest) ≡ rest
end_is front rest =
    let size : length (front ++ rest) - length rest ≡ length front = omega (arith, length-append front rest) in
    rw size (drop-append_seam front rest)

same_end : {A : Type 0} (front rest front' rest' : List A) → front ++ rest ≡ front' ++ rest' → length rest ≡ length rest' → rest ≡ rest'
same_end {A} front rest front' rest' same size =
    sym (end_is front rest) ∙ ap (λ (l : List A). drop (length l - length rest) l) same
    ∙ ap (λ (n : ℕ). drop (length (front' ++ rest') - n) (front' ++ rest')) size ∙ end_is front' rest'

-- two refusals of the same tokens are at the same ones
same_left : (front rest front' rest' : List Token) → front ++ rest ≡ front' ++ rest' → StopsBefore (kinds (front ++ rest)) (kinds rest)
    → StopsBefore (kinds (front' ++ rest')) (kinds rest') → rest ≡ rest'
same_left front rest front' rest' same stops stops' =
    let left : kinds rest ≡ kinds rest' =
    one_stop (kinds (front ++ rest)) (kinds rest) (kinds rest') stops (subst (λ (l : List Token). StopsBefore (kinds l) (kinds rest')) (sym same) stops') in
    let kind : Token → TokenKind = λ token. token.kind in
    same_end front rest front' rest' same (sym (length-map rest kind) ∙ ap (λ (k : Kinds). length k) left ∙ length-map rest' kind)

pub one_place : (text : List ℕ) (one other : ℕ) → IsRefusedAt text one → IsRefusedAt text other → one ≡ other
one_place text one other (no_tokens a) (no_tokens b) = cc
one_place text one other (no_tokens a) (at_token front rest b stops) = cc
one_place text one other (at_token front rest a stops) (no_tokens b) = cc
one_place text one other (at_token front rest a stops) (at_token front' rest' b stops') =
    let same : front ++ rest ≡ front' ++ rest' = cc in
    ap (λ (l : List Token). start_of text l) (same_left front rest front' rest' same stops stops')

pub never_both : (text : List ℕ) (script : Script) (place : ℕ) → IsSpelled text script → IsRefusedAt text place → ⊥
never_both text script place spelled (no_tokens a) = cc spelled.read
never_both text script place spelled (at_token front rest a stops) =
    let same : spelled.tokens ≡ front ++ rest = cc spelled.read in
    none_from stops.front (kinds rest) stops.refused script
    (subst (λ (k : Kinds). Spells script k) (ap (λ (l : List Token). kinds l) same ∙ stops.cut) spelled.spelled)

-- two scripts of one text, by the law of spelling
pub one_script : ((tokens : Kinds) (one other : Script) → Spells one tokens → Spells other tokens → one ≡ other) → (text : List ℕ) (one other : Script)
    → IsSpelled text one → IsSpelled text other → one ≡ other
one_script law text one other a b =
    let same : b.tokens ≡ a.tokens = cc (a.read, b.read) in
    law (kinds a.tokens) one other a.spelled (subst (λ (t : List Token). Spells other (kinds t)) same b.spelled)
