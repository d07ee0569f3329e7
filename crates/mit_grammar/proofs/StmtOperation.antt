-- An operator up to and with the symbol that ends its run.
use Rattle.std.proofs.Common.{◌≡◌, ℕ, ◌+◌, ◌<◌, List, [], ◌∷◌, ◌++◌, length, true, Option, Some, Ok, Err, ◌⊎◌, inl, inr, refl, ap, sym, subst, ◌∙◌, arith, append_assoc}
use Rattle.std.proofs.lemmas.Bool.{eq-eqb}
use Rattle.mit_ops.specs.Kinds.{bag_inputs_of}
use Rattle.mit_ops.specs.declared.kinds.OpSpec.{OpSpec}
use Rattle.mit_lex.specs.Limits.{ends_run}
use Rattle.mit_lex.specs.declared.token.TokenKind.{TokenKind}
use Rattle.mit_lex.specs.declared.token.TokenKind.TheVariants.{Symbol}
use Rattle.mit_script.specs.Grammar.{Kinds, SpellsOver, arguments_in, captured_in, number_in}
use Rattle.mit_script.specs.Reading.{Reading, ◌>>=◌, Operation, bags_ahead, expect_symbol, number_ahead, operation, run_of}
use Rattle.mit_grammar.proofs.Readers.{first_of, first_of-append, ok_once, ok_or_err, reads_err, reads_ok, stops_there, takes_these}
use Rattle.mit_grammar.proofs.RunLemmas.{is_run, run_of-append}
use Rattle.mit_grammar.proofs.RightReaders.{Numbers}
use Rattle.mit_grammar.proofs.StmtReaders.{Spelling, IsReader, ReadsWithin, Fits, fits_front, fits_back, bind_ok, bind_err}
use Rattle.mit_grammar.proofs.StmtTokens.{Whatever, reads_one_symbol, one_is}

-- a form of operators: its reader, and what the numbers of names change
pub record IsForm (Form : Spelling Numbers OpSpec) (F : Option TokenKind → Type 0) (form : Numbers → ℕ → Kinds → Reading OpSpec) (ending : ℕ) : Type 0 where
  pub reads : (top slack : ℕ) → IsReader top slack Form F (λ number left most. form number most)
  pub in_run : (number : Numbers) (op : OpSpec) (tokens : Kinds) → Form number op tokens → is_run tokens ≡ true
  pub bags : (number : Numbers) (op : OpSpec) (tokens after : Kinds) → Form number op tokens
      → (bags_ahead (tokens ++ after) ≡ bag_inputs_of op) ⊎ ((other : Numbers) → Form other op tokens)
  pub renamed : (number other : Numbers) (op : OpSpec) (tokens : Kinds) → Form number op tokens → (op' : OpSpec) × Form other op' tokens × (bag_inputs_of op' ≡ bag_inputs_of op)
  pub ends : F (Some (Symbol ending))
  pub ends_it : ends_run (Symbol ending) ≡ true

-- the numbers of the names that the operator captures
abbrev own_number : OpSpec → Kinds → Numbers
own_number op tokens = number_in (captured_in (bag_inputs_of op) tokens)

-- an operator over its arguments, with the symbol that ends it
pub data Ended (Form : Spelling Numbers OpSpec) (ending : ℕ) (names : List (List ℕ)) : Operation → Kinds → Type 0 where
  with_end : {op : OpSpec} {args : List ℕ} {tokens : Kinds} → SpellsOver Form names op args tokens → Ended Form ending names (op, args) (tokens ++ Symbol ending ∷ [])

-- the numbers of the names ahead are those of the operator's own names
numbers_ahead : (op : OpSpec) (tokens all : Kinds) → bags_ahead all ≡ bag_inputs_of op → run_of all ≡ tokens → number_ahead all ≡ own_number op tokens
unfolding number_ahead
numbers_ahead op tokens all bags run = rw (bags, run) refl

-- an operator is spelled with the numbers of the names ahead just where it is with those of its own
with_ahead : (Form : Spelling Numbers OpSpec) (number : Numbers) (op : OpSpec) (tokens all : Kinds) → run_of all ≡ tokens
    → (bags_ahead all ≡ bag_inputs_of op) ⊎ ((other : Numbers) → Form other op tokens) → Form (own_number op tokens) op tokens → Form (number_ahead all) op tokens
with_ahead Form number op tokens all run (inl bags) x = subst (λ n. Form n op tokens) (sym (numbers_ahead op tokens all bags run)) x
with_ahead Form number op tokens all run (inr any) x = any (number_ahead all)

with_own : (Form : Spelling Numbers OpSpec) (op : OpSpec) (tokens all : Kinds) → run_of all ≡ tokens
    → (bags_ahead all ≡ bag_inputs_of op) ⊎ ((other : Numbers) → Form other op tokens) → Form (number_ahead all) op tokens → Form (own_number op tokens) op tokens
with_own Form op tokens all run (inl bags) x = subst (λ n. Form n op tokens) (numbers_ahead op tokens all bags run) x
with_own Form op tokens all run (inr any) x = any (own_number op tokens)

-- an operator is read
operation_reads : (Form : Spelling Numbers OpSpec) (F : Option TokenKind → Type 0) (form : Numbers → ℕ → Kinds → Reading OpSpec) (ending : ℕ) → IsForm Form F form ending
    → (names : List (List ℕ)) (most : ℕ) (op : OpSpec) (tokens after : Kinds) → length tokens < most → Form (own_number op tokens) op tokens
    → operation form ending names most (tokens ++ Symbol ending ∷ after) ≡ Ok ((op, arguments_in names (bag_inputs_of op) tokens), after)
unfolding operation expect_symbol
operation_reads Form F form ending is names most op tokens after few x =
    let all = tokens ++ Symbol ending ∷ after in
    let run : run_of all ≡ tokens = run_of-append tokens (Symbol ending) after (is.in_run (own_number op tokens) op tokens x) is.ends_it in
    let y : Form (number_ahead all) op tokens = with_ahead Form (own_number op tokens) op tokens all run (is.bags (own_number op tokens) op tokens (Symbol ending ∷ after) x) x in
    let fits : Fits 0 most 0 most tokens = record { low = omega arith; deep = omega (arith, few); wide = few } in
    let read : form (number_ahead all) most all ≡ Ok (op, Symbol ending ∷ after) = (is.reads 0 most).complete (number_ahead all) 0 most op tokens (Symbol ending ∷ after) fits y is.ends in
    rw (read, eq-eqb ending ending refl, run) refl

-- tokens of a form, with any numbers, are those of an operator
viable : (Form : Spelling Numbers OpSpec) (F : Option TokenKind → Type 0) (form : Numbers → ℕ → Kinds → Reading OpSpec) (ending : ℕ) → IsForm Form F form ending
    → (names : List (List ℕ)) (number : Numbers) (op : OpSpec) (tokens : Kinds) → Form number op tokens → (made : Operation) × Ended Form ending names made (tokens ++ Symbol ending ∷ [])
viable Form F form ending is names number op tokens x =
    let y = is.renamed number (own_number op tokens) op tokens x in
    ((y.0, arguments_in names (bag_inputs_of y.0) tokens), with_end (record { form = rw y.2 y.1; over = refl }))

-- the symbol that was read comes first
symbol_read : (ending : ℕ) (tokens rest : Kinds) (u : Unit {0}) → expect_symbol ending tokens ≡ Ok (u, rest) → tokens ≡ Symbol ending ∷ rest
symbol_read ending tokens rest u is =
    let most = length tokens + 1 in
    let x = reads_ok u rest ((reads_one_symbol {P = Unit {0}} {top = 0} {slack = most} ending).reads tt 0 most tokens (record { low = omega arith; deep = omega arith; wide = omega arith })) is in
    x.1 ∙ ap (λ front. front ++ rest) (one_is (λ (v : Unit {0}). Symbol ending) tt u x.0 x.2)

-- what an operator that was read is
pub record WasRead (Form : Spelling Numbers OpSpec) (ending : ℕ) (names : List (List ℕ)) (made : Operation) (tokens rest : Kinds) : Type 0 where
  pub used : Kinds
  pub cut : tokens ≡ used ++ Symbol ending ∷ rest
  pub op_is : Form (own_number made.0 used) made.0 used
  pub args_are : made.1 ≡ arguments_in names (bag_inputs_of made.0) used

was_read : (Form : Spelling Numbers OpSpec) (F : Option TokenKind → Type 0) (form : Numbers → ℕ → Kinds → Reading OpSpec) (ending : ℕ) → IsForm Form F form ending
    → (names : List (List ℕ)) (most : ℕ) (made : Operation) (tokens rest : Kinds) → length tokens < most → operation form ending names most tokens ≡ Ok (made, rest)
    → WasRead Form ending names made tokens rest
unfolding operation
was_read Form F form ending is names most made tokens rest few e =
    let a = bind_ok (form (number_ahead tokens) most tokens)
    (λ op. expect_symbol ending op.1 >>= λ end. Ok ((op.0, arguments_in names (bag_inputs_of op.0) (run_of tokens)), end.1)) (made, rest) e in
    let b = bind_ok (expect_symbol ending a.0.1) (λ end. Ok ((a.0.0, arguments_in names (bag_inputs_of a.0.0) (run_of tokens)), end.1)) (made, rest) a.2 in
    let same : Path (Operation × Kinds) ((a.0.0, arguments_in names (bag_inputs_of a.0.0) (run_of tokens)), b.0.1) (made, rest) = ok_once _ _ b.2 in
    let op_same : a.0.0 ≡ made.0 = ap (λ t. t.0.0) same in
    let fits : Fits 0 most 0 most tokens = record { low = omega arith; deep = omega (arith, few); wide = few } in
    let x = reads_ok a.0.0 a.0.1 ((is.reads 0 most).reads (number_ahead tokens) 0 most tokens fits) a.1 in
    let end : a.0.1 ≡ Symbol ending ∷ rest = symbol_read ending a.0.1 b.0.1 b.0.0 b.1 ∙ ap (λ t. Symbol ending ∷ t.1) same in
    let cut : tokens ≡ x.0 ++ Symbol ending ∷ rest = x.1 ∙ ap (λ back. x.0 ++ back) end in
    let run : run_of tokens ≡ x.0 = ap run_of cut ∙ run_of-append x.0 (Symbol ending) rest (is.in_run (number_ahead tokens) a.0.0 x.0 x.2) is.ends_it in
    let own : Form (own_number a.0.0 x.0) a.0.0 x.0
    = with_own Form a.0.0 x.0 tokens run (rw (sym x.1) at (is.bags (number_ahead tokens) a.0.0 x.0 a.0.1 x.2)) x.2 in
    record {
      used = x.0;
      cut = cut;
      op_is = subst (λ o. Form (own_number o x.0) o x.0) op_same own;
      args_are = sym (ap (λ t. t.0.1) same) ∙ ap (λ o. arguments_in names (bag_inputs_of o) (run_of tokens)) op_same ∙ ap (arguments_in names (bag_inputs_of made.0)) run;
    }

-- an operator and its end are read
operation_complete : (top slack : ℕ) (Form : Spelling Numbers OpSpec) (F : Option TokenKind → Type 0) (form : Numbers → ℕ → Kinds → Reading OpSpec) (ending : ℕ) → IsForm Form F form ending
    → (names : List (List ℕ)) (left most : ℕ) (made : Operation) (tokens after : Kinds) → Fits top slack left most tokens → Ended Form ending names made tokens
    → operation form ending names most (tokens ++ after) ≡ Ok (made, after)
operation_complete top slack Form F form ending is names left most made tokens after fits (with_end {op = op} {args = args} {tokens = front} x) =
    ap (operation form ending names most) (append_assoc front (Symbol ending ∷ []) after)
    ∙ operation_reads Form F form ending is names most op front after (fits_front top slack left most front (Symbol ending ∷ []) fits).wide x.form
    ∙ ap (λ a. Ok ((op, a), after)) (sym x.over)

-- an operator and its end that are read are spelled
operation_sound : (top slack : ℕ) (Form : Spelling Numbers OpSpec) (F : Option TokenKind → Type 0) (form : Numbers → ℕ → Kinds → Reading OpSpec) (ending : ℕ) → IsForm Form F form ending
    → (names : List (List ℕ)) (left most : ℕ) (made : Operation) (tokens rest : Kinds) → Fits top slack left most tokens → operation form ending names most tokens ≡ Ok (made, rest)
    → ReadsWithin top (Ended Form ending) (λ names left most. operation form ending names most) names left most tokens (Ok (made, rest))
operation_sound top slack Form F form ending is names left most made tokens rest fits e =
    let x = was_read Form F form ending is names most made tokens rest fits.wide e in
    let few : Fits top slack left most x.used = fits_front top slack left most x.used (Symbol ending ∷ rest) (rw x.cut at fits) in
    takes_these made (x.used ++ Symbol ending ∷ []) rest tokens (x.cut ∙ sym (append_assoc x.used (Symbol ending ∷ []) rest)) (with_end (record { form = x.op_is; over = x.args_are })) tt
    (λ o later same. (
      (made.0, arguments_in o.0 (bag_inputs_of made.0) x.used),
      ap (operation form ending o.0 o.2) (append_assoc x.used (Symbol ending ∷ []) later)
          ∙ operation_reads Form F form ending is o.0 o.2 made.0 x.used later (omega (arith, few.wide, o.3.wide)) x.op_is,
    ))

-- neither is read where the operator is not, and where the symbol after it is not
operator_fails : (form : Numbers → ℕ → Kinds → Reading OpSpec) (ending : ℕ) (names : List (List ℕ)) (most : ℕ) (tokens rest : Kinds)
    → form (number_ahead tokens) most tokens ≡ Err rest → operation form ending names most tokens ≡ Err rest
unfolding operation
operator_fails form ending names most tokens rest is = rw is refl

ending_fails : (form : Numbers → ℕ → Kinds → Reading OpSpec) (ending : ℕ) (names : List (List ℕ)) (most : ℕ) (op : OpSpec) (tokens mid rest : Kinds)
    → form (number_ahead tokens) most tokens ≡ Ok (op, mid) → expect_symbol ending mid ≡ Err rest → operation form ending names most tokens ≡ Err rest
unfolding operation
ending_fails form ending names most op tokens mid rest is stops = rw (is, stops) refl

-- the operator itself is not read
operator_stuck : (top slack : ℕ) (Form : Spelling Numbers OpSpec) (F : Option TokenKind → Type 0) (form : Numbers → ℕ → Kinds → Reading OpSpec) (ending : ℕ) → IsForm Form F form ending
    → (names : List (List ℕ)) (left most : ℕ) (tokens rest : Kinds) → Fits top slack left most tokens → form (number_ahead tokens) most tokens ≡ Err rest
    → ReadsWithin top (Ended Form ending) (λ names left most. operation form ending names most) names left most tokens (Err rest)
operator_stuck top slack Form F form ending is names left most tokens rest fits e =
    let x = reads_err rest ((is.reads top slack).reads (number_ahead tokens) left most tokens fits) e in
    let y = viable Form F form ending is names (number_ahead tokens) x.1 (x.0 ++ x.2) x.4 in
    stops_there y.0 x.0 rest (x.2 ++ Symbol ending ∷ []) tokens x.3 (subst (Ended Form ending names y.0) (append_assoc x.0 x.2 (Symbol ending ∷ [])) y.1)
    (λ o later same. operator_fails form ending o.0 o.2 (x.0 ++ later) later (x.5 (number_ahead (x.0 ++ later), o.1, o.2, o.3) later same))

-- the operator is read, and not the symbol after it
ending_stuck : (top slack : ℕ) (Form : Spelling Numbers OpSpec) (F : Option TokenKind → Type 0) (form : Numbers → ℕ → Kinds → Reading OpSpec) (ending : ℕ) → IsForm Form F form ending
    → (names : List (List ℕ)) (left most : ℕ) (op : OpSpec) (tokens mid rest : Kinds) → Fits top slack left most tokens → form (number_ahead tokens) most tokens ≡ Ok (op, mid)
    → expect_symbol ending mid ≡ Err rest → ReadsWithin top (Ended Form ending) (λ names left most. operation form ending names most) names left most tokens (Err rest)
ending_stuck top slack Form F form ending is names left most op tokens mid rest fits e f =
    let x = reads_ok op mid ((is.reads top slack).reads (number_ahead tokens) left most tokens fits) e in
    let y = reads_err rest ((reads_one_symbol {P = Unit {0}} {top = top} {slack = slack} ending).reads tt left most mid (fits_back top slack slack left most x.0 mid (omega arith) (rw x.1 at fits))) f in
    let z = viable Form F form ending is names (number_ahead tokens) op x.0 x.2 in
    let symbol_is : y.0 ++ y.2 ≡ Symbol ending ∷ [] = one_is (λ (u : Unit {0}). Symbol ending) tt y.1 (y.0 ++ y.2) y.4 in
    stops_there z.0 (x.0 ++ y.0) rest y.2 tokens (x.1 ∙ ap (λ back. x.0 ++ back) y.3 ∙ sym (append_assoc x.0 y.0 rest))
    (subst (Ended Form ending names z.0) (ap (λ back. x.0 ++ back) (sym symbol_is) ∙ sym (append_assoc x.0 y.0 y.2)) z.1)
    (λ o later same.
    let same' : first_of (y.0 ++ later) ≡ first_of mid = first_of-append y.0 later rest same ∙ ap first_of (sym y.3) in
    let x' = x.4 (number_ahead (x.0 ++ (y.0 ++ later)), o.1, o.2, o.3) (y.0 ++ later) same' in
    subst (λ all. operation form ending o.0 o.2 all ≡ Err later) (sym (append_assoc x.0 y.0 later))
    (ending_fails form ending o.0 o.2 x'.0 (x.0 ++ (y.0 ++ later)) (y.0 ++ later) later x'.1 (y.5 (tt, o.1, o.2, o.3) later same)))

-- what reading an operator and its end gives
operation_gives : (top slack : ℕ) (Form : Spelling Numbers OpSpec) (F : Option TokenKind → Type 0) (form : Numbers → ℕ → Kinds → Reading OpSpec) (ending : ℕ) → IsForm Form F form ending
    → (names : List (List ℕ)) (left most : ℕ) (tokens : Kinds) (result : Reading Operation) → Fits top slack left most tokens → operation form ending names most tokens ≡ result
    → ReadsWithin top (Ended Form ending) (λ names left most. operation form ending names most) names left most tokens result
unfolding operation
operation_gives top slack Form F form ending is names left most tokens (Ok (made, rest)) fits e = operation_sound top slack Form F form ending is names left most made tokens rest fits e
operation_gives top slack Form F form ending is names left most tokens (Err rest) fits e =
    elim (bind_err (form (number_ahead tokens) most tokens)
    (λ op. expect_symbol ending op.1 >>= λ end. Ok ((op.0, arguments_in names (bag_inputs_of op.0) (run_of tokens)), end.1)) rest e) [
      | inl f ↦ operator_stuck top slack Form F form ending is names left most tokens rest fits f
      | inr a ↦ elim (bind_err (expect_symbol ending a.0.1) (λ end. Ok ((a.0.0, arguments_in names (bag_inputs_of a.0.0) (run_of tokens)), end.1)) rest a.2) [
        | inl f ↦ ending_stuck top slack Form F form ending is names left most a.0.0 tokens a.0.1 rest fits a.1 f
        | inr b ↦ absurd (ok_or_err _ _ b.2)
      ]
    ]

-- the reader of an operator and its end
pub reads_operation : {top slack : ℕ} (Form : Spelling Numbers OpSpec) (F : Option TokenKind → Type 0) (form : Numbers → ℕ → Kinds → Reading OpSpec) (ending : ℕ) → IsForm Form F form ending
    → IsReader top slack (Ended Form ending) Whatever (λ names left most. operation form ending names most)
reads_operation {top = top} {slack = slack} Form F form ending is = record {
  some = λ names. let x = (is.reads 0 0).some (λ name. 0) in let y = viable Form F form ending is names (λ name. 0) x.0 x.1 x.2 in (y.0, x.1 ++ Symbol ending ∷ [], y.1);
  complete = λ names left most made tokens after fits x e. operation_complete top slack Form F form ending is names left most made tokens after fits x;
  reads = λ names left most tokens fits. operation_gives top slack Form F form ending is names left most tokens (operation form ending names most tokens) fits refl;
}
