-- The words of a command line that were compared.
use Rattle.std.proofs.Common.{◌≡◌, ◌∙◌, ◌<◌, ◌≤◌, ℕ, List, [], ◌∷◌, length, get_or, ap, sym, subst, refl, inl, inr, arith}
use Rattle.std.specs.Prelude.{Bool, true, false, IfNone, Option, Some, None, String, string_bytes, codes}
use Rattle.std.specs.Str.{bytes_eq}
use Rattle.std.proofs.lemmas.Slice.Eq.{bytes_eq-Decides}
use Rattle.mit_files.specs.Names.{IsLegal, is_legal}
use Rattle.mit_words.specs.Words.{AreDecisions, IsCommand, IsUsage, texts}
use Rattle.mit_words.specs.Stepped.{IsStepped, IsSteppedWithin}
use Rattle.mit_words.specs.declared.words.Task.TheVariants.{Run, Step, Check, Plan}
use Rattle.mit_words.specs.declared.words.TheConstants.{DECISIONS}

-- a list of four elements is these
four : {X : Type 0} (xs : List X) (a b c d : X) → 4 ≤ length xs → length xs < 5 → a ≡ get_or xs 0 a → b ≡ get_or xs 1 b → c ≡ get_or xs 2 c → d ≡ get_or xs 3 d
    → xs ≡ a ∷ b ∷ c ∷ d ∷ []
four [] a b c d least most i j k l = absurd (omega arith)
four (w ∷ []) a b c d least most i j k l = absurd (omega arith)
four (w ∷ x ∷ []) a b c d least most i j k l = absurd (omega arith)
four (w ∷ x ∷ y ∷ []) a b c d least most i j k l = absurd (omega arith)
four (w ∷ x ∷ y ∷ z ∷ []) a b c d least most i j k l = cc
four (w ∷ x ∷ y ∷ z ∷ v ∷ rest) a b c d least most i j k l = absurd (omega arith)

-- a text that was compared
same_text : (text read word : List ℕ) (answer : Bool) → read ≡ text → answer ≡ bytes_eq read word → answer ≡ true → text ≡ word
same_text text read word answer is asked same = sym is ∙ (bytes_eq-Decides read word).0 (sym asked ∙ same)

pub legal_word : (read script bytes : List ℕ) → read ≡ bytes → script ≡ bytes → true ≡ is_legal read → IsLegal script
legal_word read script bytes is same legal = sym (legal ∙ ap is_legal (is ∙ sym same))

pub run_words : {A : Type 0} (words : List (String A)) (run script parts one : String A) (r p o s : List ℕ) (rb pb ob : Bool)
    → 4 ≤ length words → length words < 5 → run ≡ get_or words 0 run → script ≡ get_or words 1 script → parts ≡ get_or words 2 parts → one ≡ get_or words 3 one
    → r ≡ string_bytes run → p ≡ string_bytes parts → o ≡ string_bytes one → s ≡ string_bytes script
    → rb ≡ bytes_eq r (codes "run") → rb ≡ true → pb ≡ bytes_eq p (codes "--parts") → pb ≡ true → ob ≡ bytes_eq o (codes "1") → ob ≡ true
    → texts words ≡ codes "run" ∷ s ∷ codes "--parts" ∷ codes "1" ∷ []
run_words words run script parts one r p o s rb pb ob least most i j k l ri pi oi si ra ry pa py oa oy =
    let list = four words run script parts one least most i j k l in
    let a = same_text (string_bytes run) r (codes "run") rb ri ra ry in
    let b = same_text (string_bytes parts) p (codes "--parts") pb pi pa py in
    let c = same_text (string_bytes one) o (codes "1") ob oi oa oy in
    ap texts list ∙ ap (λ t. t ∷ string_bytes script ∷ string_bytes parts ∷ string_bytes one ∷ []) a
    ∙ ap (λ t. codes "run" ∷ string_bytes script ∷ t ∷ string_bytes one ∷ []) b
    ∙ ap (λ t. codes "run" ∷ string_bytes script ∷ codes "--parts" ∷ t ∷ []) c
    ∙ ap (λ t. codes "run" ∷ t ∷ codes "--parts" ∷ codes "1" ∷ []) (sym si)

-- a list of two elements, and of three
two : {X : Type 0} (xs : List X) (a b : X) → 2 ≤ length xs → length xs < 3 → a ≡ get_or xs 0 a → b ≡ get_or xs 1 b → xs ≡ a ∷ b ∷ []
two [] a b least most i j = absurd (omega arith)
two (w ∷ []) a b least most i j = absurd (omega arith)
two (w ∷ x ∷ []) a b least most i j = cc
two (w ∷ x ∷ y ∷ rest) a b least most i j = absurd (omega arith)

three : {X : Type 0} (xs : List X) (a b c : X) → 3 ≤ length xs → length xs < 4 → a ≡ get_or xs 0 a → b ≡ get_or xs 1 b → c ≡ get_or xs 2 c → xs ≡ a ∷ b ∷ c ∷ []
three [] a b c least most i j k = absurd (omega arith)
three (w ∷ []) a b c least most i j k = absurd (omega arith)
three (w ∷ x ∷ []) a b c least most i j k = absurd (omega arith)
three (w ∷ x ∷ y ∷ []) a b c least most i j k = cc
three (w ∷ x ∷ y ∷ z ∷ rest) a b c least most i j k = absurd (omega arith)

pub two_words : {A : Type 0} (words : List (String A)) (command : List ℕ) (first script : String A) (f s : List ℕ) (fb : Bool)
    → 2 ≤ length words → length words < 3 → first ≡ get_or words 0 first → script ≡ get_or words 1 script
    → f ≡ string_bytes first → s ≡ string_bytes script → fb ≡ bytes_eq f command → fb ≡ true
    → texts words ≡ command ∷ s ∷ []
two_words words command first script f s fb least most i j fi si fa fy =
    let list = two words first script least most i j in
    let a = same_text (string_bytes first) f command fb fi fa fy in
    ap texts list ∙ ap (λ t. t ∷ string_bytes script ∷ []) a ∙ ap (λ t. command ∷ t ∷ []) (sym si)

pub within_words : {A : Type 0} (words : List (String A)) (step script within number : String A) (t w s n : List ℕ) (tb wb : Bool)
    → 4 ≤ length words → length words < 5 → step ≡ get_or words 0 step → script ≡ get_or words 1 script → within ≡ get_or words 2 within → number ≡ get_or words 3 number
    → t ≡ string_bytes step → w ≡ string_bytes within → s ≡ string_bytes script → n ≡ string_bytes number
    → tb ≡ bytes_eq t (codes "step") → tb ≡ true → wb ≡ bytes_eq w (codes "--decisions") → wb ≡ true
    → texts words ≡ codes "step" ∷ s ∷ codes "--decisions" ∷ n ∷ []
within_words words step script within number t w s n tb wb least most i j k l ti wi si ni ta ty wa wy =
    let list = four words step script within number least most i j k l in
    let a = same_text (string_bytes step) t (codes "step") tb ti ta ty in
    let b = same_text (string_bytes within) w (codes "--decisions") wb wi wa wy in
    ap texts list ∙ ap (λ x. x ∷ string_bytes script ∷ string_bytes within ∷ string_bytes number ∷ []) a
    ∙ ap (λ x. codes "step" ∷ string_bytes script ∷ x ∷ string_bytes number ∷ []) b
    ∙ ap (λ x. codes "step" ∷ x ∷ codes "--decisions" ∷ string_bytes number ∷ []) (sym si)
    ∙ ap (λ x. codes "step" ∷ s ∷ codes "--decisions" ∷ x ∷ []) (sym ni)

-- words of a run step by step are a command
pub stepped_command : (words : List (List ℕ)) (script : List ℕ) → IsStepped words script → IsCommand words (Step DECISIONS) script
stepped_command words script is = (inl (is.0, refl), is.1)

pub within_command : (words : List (List ℕ)) (decisions : ℕ) (script : List ℕ) → IsSteppedWithin words decisions script → IsCommand words (Step decisions) script
within_command words decisions script is = (inr (is.0, is.1, is.2), is.3)

-- the number of such words is that of the list
pub within_number : (words : List (List ℕ)) (s n : List ℕ) (decisions : ℕ) (script : List ℕ) → words ≡ codes "step" ∷ s ∷ codes "--decisions" ∷ n ∷ []
    → ((other : ℕ) → ¬ AreDecisions n other) → ¬ IsSteppedWithin words decisions script
within_number words s n decisions script list none is =
    let e = sym is.1 ∙ list in
    let same : is.0 ≡ n = cc in
    none decisions (subst (λ (word : List ℕ). AreDecisions word decisions) same is.2)

pub print_words : {A : Type 0} (words : List (String A)) (check script print : String A) (c p s : List ℕ) (cb pb : Bool)
    → 3 ≤ length words → length words < 4 → check ≡ get_or words 0 check → script ≡ get_or words 1 script → print ≡ get_or words 2 print
    → c ≡ string_bytes check → p ≡ string_bytes print → s ≡ string_bytes script
    → cb ≡ bytes_eq c (codes "check") → cb ≡ true → pb ≡ bytes_eq p (codes "--print") → pb ≡ true
    → texts words ≡ codes "check" ∷ s ∷ codes "--print" ∷ []
print_words words check script print c p s cb pb least most i j k ci pi si ca cy pa py =
    let list = three words check script print least most i j k in
    let a = same_text (string_bytes check) c (codes "check") cb ci ca cy in
    let b = same_text (string_bytes print) p (codes "--print") pb pi pa py in
    ap texts list ∙ ap (λ t. t ∷ string_bytes script ∷ string_bytes print ∷ []) a
    ∙ ap (λ t. codes "check" ∷ string_bytes script ∷ t ∷ []) b
    ∙ ap (λ t. codes "check" ∷ t ∷ codes "--print" ∷ []) (sym si)

-- what holds where there is nothing
pub told_none : {A P : Type 0} (found : Option A) → P → IfNone found P
told_none None p = p
told_none (Some found) p = tt

-- words that are none of the commands
no_step : (words : List (List ℕ)) (decisions : ℕ) (script : List ℕ) → ((script : List ℕ) → ¬ IsStepped words script)
    → ((script : List ℕ) (decisions : ℕ) → ¬ IsSteppedWithin words decisions script) → ¬ IsCommand words (Step decisions) script
no_step words decisions script plain within (inl is, legal) = plain script (is.0, legal)
no_step words decisions script plain within (inr is, legal) = within script decisions (is.0, is.1, is.2, legal)

pub usage_of : (words : List (List ℕ)) → ((script : List ℕ) → ¬ IsCommand words Run script) → ((script : List ℕ) → ¬ IsStepped words script)
    → ((script : List ℕ) (decisions : ℕ) → ¬ IsSteppedWithin words decisions script) → ((script : List ℕ) → ¬ IsCommand words (Check false) script)
    → ((script : List ℕ) → ¬ IsCommand words (Check true) script) → ((script : List ℕ) → ¬ IsCommand words Plan script) → IsUsage words
usage_of words run plain within check print plan Run script = run script
usage_of words run plain within check print plan (Step decisions) script = no_step words decisions script plain within
usage_of words run plain within check print plan (Check false) script = check script
usage_of words run plain within check print plan (Check true) script = print script
usage_of words run plain within check print plan Plan script = plan script
