-- Names, each once, as they are added one after another.
use Rattle.std.proofs.Common.{◌≡◌, ◌<◌, ◌+◌, take, drop, get_or, ℕ, zero, suc, List, [], ◌∷◌, ◌++◌, map, length, Bool, true, false, not, cond, refl, sym, ap, subst, ◌∙◌, append_assoc, arith}
use Rattle.std.specs.Prelude.{filter, position, unwrap_or}
use Rattle.std.specs.List.{position_or_len, list_any, prefix_len, drop-map}
use Rattle.std.specs.Str.{bytes_eq}
use Rattle.std.specs.Borrow.{Bor}
use Rattle.std.proofs.lemmas.List.{append-nil, map-append, map_push, take-map, take_more}
use Rattle.mit_lex.specs.Limits.{ends_run}
use Rattle.mit_lex.specs.declared.token.TokenKind.TheVariants.{Name, Number, Column, Text, Symbol, Keyword}
use Rattle.mit_script.specs.Reading.{run_of}
use Rattle.mit_lex.specs.declared.token.Token.{Token}
use Rattle.mit_script.specs.Grammar.{kinds}
use Rattle.std.proofs.lemmas.Slice.Eq.{bytes_eq-Decides}
use Rattle.mit_lex.specs.declared.token.TokenKind.{TokenKind}
use Rattle.mit_script.specs.Grammar.{Kinds, captured_in, each_once, name_in, names_in, number_in}
use Rattle.mit_parse.specs.Words.{texts_of}

-- two tests that hold together are equal
both_ways : (a b : Bool) → (a ≡ true → b ≡ true) → (b ≡ true → a ≡ true) → a ≡ b
both_ways true b there back = sym (there refl)
both_ways false true there back = back refl
both_ways false false there back = refl

-- names compare alike from both sides
same_back : (one other : List ℕ) → bytes_eq one other ≡ bytes_eq other one
same_back one other =
    both_ways (bytes_eq one other) (bytes_eq other one)
    (λ same. (bytes_eq-Decides other one).1 (sym ((bytes_eq-Decides one other).0 same)))
    (λ same. (bytes_eq-Decides one other).1 (sym ((bytes_eq-Decides other one).0 same)))

length-words : (words : List (Bor (List ℕ))) → length (texts_of words) ≡ length words
length-words [] = refl
length-words (word ∷ words) = ap suc (length-words words)

place-words : (words : List (Bor (List ℕ))) (name : List ℕ)
    → position_or_len (λ word. bytes_eq name word.now) words ≡ position_or_len (λ word. bytes_eq word name) (texts_of words)
place-words [] name = refl
place-words (word ∷ words) name = rw (same_back name word.now, place-words words name) refl

-- the number of a name among borrowed ones
pub number-words : (words : List (Bor (List ℕ))) (name : List ℕ)
    → unwrap_or (position (λ word. bytes_eq name word.now) words) 0 ≡ number_in (texts_of words) name
number-words words name = rw (place-words words name, length-words words) refl

-- a name is among borrowed ones
pub any-words : (words : List (Bor (List ℕ))) (name : List ℕ) → list_any (λ word. bytes_eq name word.now) words ≡ list_any (bytes_eq name) (texts_of words)
any-words [] name = refl
any-words (word ∷ words) name = rw (any-words words name) refl

filter-append-by : (test : List ℕ → Bool) (holds : Bool) (x : List ℕ) (xs ys : List (List ℕ)) → filter test (xs ++ ys) ≡ filter test xs ++ filter test ys
    → cond holds (x ∷ filter test (xs ++ ys)) (filter test (xs ++ ys)) ≡ cond holds (x ∷ filter test xs) (filter test xs) ++ filter test ys
filter-append-by test true x xs ys e = ap (λ (l : List (List ℕ)). x ∷ l) e
filter-append-by test false x xs ys e = e

filter-append : (test : List ℕ → Bool) (xs ys : List (List ℕ)) → filter test (xs ++ ys) ≡ filter test xs ++ filter test ys
filter-append test [] ys = refl
filter-append test (x ∷ xs) ys = filter-append-by test (test x) x xs ys (filter-append test xs ys)

-- the words of names that differ from one
abbrev without : List ℕ → List (List ℕ) → List (List ℕ)
without other names = filter (λ word. not (bytes_eq other word)) names

any-filtered-by : (name other word : List ℕ) (names : List (List ℕ)) (same : Bool) → bytes_eq other word ≡ same → bytes_eq name other ≡ false
    → list_any (bytes_eq name) (without other names) ≡ list_any (bytes_eq name) names
    → list_any (bytes_eq name) (cond (not same) (word ∷ without other names) (without other names)) ≡ list_any (bytes_eq name) (word ∷ names)
any-filtered-by name other word names true same differ before =
    let one : other ≡ word = (bytes_eq-Decides other word).0 same in
    let apart : bytes_eq name word ≡ false = rw (← one) differ in
    rw (apart, before) refl
any-filtered-by name other word names false same differ before = rw before refl

-- a name is among names as before, where another one is taken out
any-filtered : (name other : List ℕ) (names : List (List ℕ)) → bytes_eq name other ≡ false
    → list_any (bytes_eq name) (without other names) ≡ list_any (bytes_eq name) names
any-filtered name other [] differ = refl
any-filtered name other (word ∷ names) differ =
    any-filtered-by name other word names (bytes_eq other word) refl differ (any-filtered name other names differ)

-- names with one more at the end, where it is not among them
abbrev pub with_name : List (List ℕ) → List ℕ → List (List ℕ)
with_name names word = cond (list_any (bytes_eq word) names) names (names ++ word ∷ [])

apart-by : (other word : List ℕ) (names : List (List ℕ)) (among : Bool) → list_any (bytes_eq word) names ≡ among → bytes_eq word other ≡ false
    → other ∷ without other (cond among names (names ++ word ∷ [])) ≡ with_name (other ∷ without other names) word
apart-by other word names true among differ = rw (differ, any-filtered word other names differ, among) refl
apart-by other word names false among differ =
    let back : bytes_eq other word ≡ false = same_back other word ∙ differ in
    rw (differ, any-filtered word other names differ, among, filter-append (λ name. not (bytes_eq other name)) names (word ∷ []), back) refl

same-by : (other word : List ℕ) (names : List (List ℕ)) (among : Bool) → bytes_eq word other ≡ true
    → other ∷ without other (cond among names (names ++ word ∷ [])) ≡ with_name (other ∷ without other names) word
same-by other word names true same = rw same refl
same-by other word names false same =
    let back : bytes_eq other word ≡ true = same_back other word ∙ same in
    rw (same, filter-append (λ name. not (bytes_eq other name)) names (word ∷ []), back, append-nil (without other names)) refl

either-by : (other word : List ℕ) (names : List (List ℕ)) (same : Bool) → bytes_eq word other ≡ same
    → other ∷ without other (with_name names word) ≡ with_name (other ∷ without other names) word
either-by other word names true same = same-by other word names (list_any (bytes_eq word) names) same
either-by other word names false same = apart-by other word names (list_any (bytes_eq word) names) refl same

filter-with_name : (other word : List ℕ) (names : List (List ℕ))
    → other ∷ without other (with_name names word) ≡ with_name (other ∷ without other names) word
filter-with_name other word names = either-by other word names (bytes_eq word other) refl

-- each once, with one more at the end
pub each_once-push : (words : List (List ℕ)) (word : List ℕ) → each_once (words ++ word ∷ []) ≡ with_name (each_once words) word
unfolding each_once
each_once-push [] word = refl
each_once-push (other ∷ words) word = rw (each_once-push words word) (filter-with_name other word (each_once words))

-- the names among tokens, with one more token at the end
pub names_in-push : (tokens : Kinds) (token : TokenKind) → names_in (tokens ++ token ∷ []) ≡ names_in tokens ++ name_in token
unfolding names_in
names_in-push [] token = append-nil (name_in token)
names_in-push (first ∷ tokens) token = rw (names_in-push tokens token) (sym (append_assoc (name_in first) (names_in tokens) (name_in token)))

-- one more name, and one more token, as a loop goes over them
pub words-more : (words : List (Bor (List ℕ))) (i : ℕ) (word : Bor (List ℕ)) → i < length words
    → texts_of (take (i + 1) words) ≡ texts_of (take i words) ++ (get_or words i word).now ∷ []
words-more words i word lt = rw (take_more words i word lt) (map_push (λ word. word.now) (take i words) (get_or words i word))

pub kinds-more : (tokens : List Token) (i : ℕ) (token : Token) → i < length tokens
    → kinds (take (i + 1) tokens) ≡ kinds (take i tokens) ++ (get_or tokens i token).kind ∷ []
kinds-more tokens i token lt = rw (take_more tokens i token lt) (map_push (λ token. token.kind) (take i tokens) (get_or tokens i token))

words-kept : (among : Bool) (keys : List (Bor (List ℕ))) (word : Bor (List ℕ))
    → texts_of (cond among keys (keys ++ word ∷ [])) ≡ cond among (texts_of keys) (texts_of keys ++ word.now ∷ [])
words-kept true keys word = refl
words-kept false keys word = map_push (λ word. word.now) keys word

-- the names after one more is inserted
pub once-more : (keys words : List (Bor (List ℕ))) (i : ℕ) (word : Bor (List ℕ)) → i < length words
    → texts_of keys ≡ each_once (texts_of (take i words))
    → texts_of (cond (list_any (λ other. bytes_eq (get_or words i word).now other.now) keys) keys (keys ++ get_or words i word ∷ [])) ≡ each_once (texts_of (take (i + 1) words))
once-more keys words i word lt before =
    let name = get_or words i word in
    rw (words-kept (list_any (λ other. bytes_eq name.now other.now) keys) keys name, any-words keys name.now, before, words-more words i word lt)
    (sym (each_once-push (texts_of (take i words)) name.now))

-- the names after those of one more token
pub names-more : (tokens : List Token) (i : ℕ) (token : Token) → i < length tokens
    → names_in (kinds (take (i + 1) tokens)) ≡ names_in (kinds (take i tokens)) ++ name_in (get_or tokens i token).kind
names-more tokens i token lt = rw (kinds-more tokens i token lt) (names_in-push (kinds (take i tokens)) (get_or tokens i token).kind)

-- a name more, and a token that is no name
pub named : (words : List (Bor (List ℕ))) (before : List (List ℕ)) (word : Bor (List ℕ)) (kind : TokenKind) (name : List ℕ)
    → texts_of words ≡ before → word.now ≡ name → kind ≡ Name name → texts_of (words ++ word ∷ []) ≡ before ++ name_in kind
named words before word kind name so_far same is = rw (is, ← same, ← so_far) (map_push (λ word. word.now) words word)

pub unnamed : (words : List (Bor (List ℕ))) (before : List (List ℕ)) (kind : TokenKind) → texts_of words ≡ before
    → ((name : List ℕ) → kind ≡ Name name → ⊥) → texts_of words ≡ before ++ name_in kind
unnamed words before (Name name) so_far other = absurd (other name refl)
unnamed words before (Number size) so_far other = so_far ∙ sym (append-nil before)
unnamed words before (Column column) so_far other = so_far ∙ sym (append-nil before)
unnamed words before (Text bytes) so_far other = so_far ∙ sym (append-nil before)
unnamed words before (Symbol place) so_far other = so_far ∙ sym (append-nil before)
unnamed words before (Keyword place) so_far other = so_far ∙ sym (append-nil before)

-- the numbers after that of one more name
pub numbers-more : (before so_far : List ℕ) (names : List (List ℕ)) (words : List (Bor (List ℕ))) (i : ℕ) (word : Bor (List ℕ)) (number : ℕ)
    → i < length words → number ≡ number_in names (get_or words i word).now
    → so_far ≡ before ++ map (number_in names) (texts_of (take i words))
    → so_far ++ number ∷ [] ≡ before ++ map (number_in names) (texts_of (take (i + 1) words))
numbers-more before so_far names words i word number lt is e =
    rw (e, is, words-more words i word lt, map_push (number_in names) (texts_of (take i words)) (get_or words i word).now)
    (append_assoc before (map (number_in names) (texts_of (take i words))) (number_in names (get_or words i word).now ∷ []))

-- the words after the first so many, and the first so many
pub past-words : (count : ℕ) (words past : List (Bor (List ℕ))) (names : List (List ℕ)) → past ≡ drop count words → texts_of words ≡ names
    → texts_of past ≡ drop count names
past-words count words past names is e = rw (is, ← e) (sym (drop-map (λ word. word.now) count words))

pub first-words : (count : ℕ) (words first : List (Bor (List ℕ))) (names : List (List ℕ)) → first ≡ take count words → texts_of words ≡ names
    → texts_of first ≡ take count names
first-words count words first names is e = rw (is, ← e) (sym (take-map (λ word. word.now) count words))

-- the words after the bags of a run, each once, are the captured names
pub captured-words : (names : List (List ℕ)) (words slice past : List (Bor (List ℕ))) (bags count : ℕ) (ahead run : Kinds) → names ≡ each_once (texts_of past)
    → past ≡ drop bags slice → slice ≡ words → texts_of words ≡ names_in ahead → ahead ≡ run → bags ≡ count → names ≡ captured_in count run
captured-words names words slice past bags count ahead run once cut same read front counted =
    let after = past-words bags words past (names_in ahead) (cut ∙ ap (λ (list : List (Bor (List ℕ))). drop bags list) same) read in
    rw (← counted, ← front) (once ∙ ap each_once after)

drop-next : (tokens : List Token) (i : ℕ) (token : Token) → i < length tokens → drop i tokens ≡ get_or tokens i token ∷ drop (suc i) tokens
drop-next [] i token lt = absurd (omega (arith, lt))
drop-next (first ∷ tokens) zero token lt = refl
drop-next (first ∷ tokens) (suc i) token lt = drop-next tokens i token (omega (arith, lt))

-- a token that does not end a run is in it
pub run-in : (token : TokenKind) (rest : Kinds) → ends_run token ≡ false → run_of (token ∷ rest) ≡ token ∷ run_of rest
run-in token rest inside =
    let size = prefix_len (λ other. not (ends_run other)) rest in
    let one : suc size ≡ 1 + size = omega arith in
    rw inside (subst (λ (n : ℕ). take n (token ∷ rest) ≡ token ∷ run_of rest) one refl)

-- the run goes on over a token that does not end it
pub run-more : (tokens : List Token) (i : ℕ) (token : Token) → i < length tokens → ends_run (get_or tokens i token).kind ≡ false
    → run_of (kinds tokens) ≡ kinds (take i tokens) ++ run_of (kinds (drop i tokens))
    → run_of (kinds tokens) ≡ kinds (take (i + 1) tokens) ++ run_of (kinds (drop (i + 1) tokens))
run-more tokens i token lt inside so_far =
    let here = get_or tokens i token in
    let next : i + 1 ≡ suc i = omega arith in
    let rest = kinds (drop (i + 1) tokens) in
    let cut : drop i tokens ≡ here ∷ drop (i + 1) tokens = rw next (drop-next tokens i token lt) in
    let one : run_of (kinds (drop i tokens)) ≡ here.kind ∷ run_of rest = ap (λ (left : List Token). run_of (kinds left)) cut ∙ run-in here.kind rest inside in
    let front : kinds (take i tokens) ++ (here.kind ∷ run_of rest) ≡ kinds (take (i + 1) tokens) ++ run_of rest =
    rw (kinds-more tokens i token lt) (sym (append_assoc (kinds (take i tokens)) (here.kind ∷ []) (run_of rest))) in
    so_far ∙ ap (λ (left : Kinds). kinds (take i tokens) ++ left) one ∙ front

-- the numbers of names and then of others
pub numbers-joined : (names first others : List (List ℕ)) (none one two : List ℕ) → none ≡ [] → one ≡ none ++ map (number_in names) first
    → two ≡ one ++ map (number_in names) others → two ≡ map (number_in names) (first ++ others)
numbers-joined names first others none one two empty begun ended = rw (ended, begun, empty, map-append (number_in names) first others) refl
