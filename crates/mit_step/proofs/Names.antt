-- The name under which a write writes, over its bag and the values that it captures.
use Rattle.std.proofs.Common.{◌≡◌, ◌≤◌, ◌-◌, ◌∙◌, ℕ, List, [], ◌∷◌, All, Some, Result, Ok, Err, ap, arith, drop, get_or, length, map, refl, subst, sym, take}
use Rattle.std.specs.Prelude.{IfOk, MatchResult, option_and_then}
use Rattle.std.proofs.lemmas.List.{take_all}
use Rattle.mit_rows.specs.Bags.{BagOf, IsBag, RowOf}
use Rattle.mit_rows.specs.declared.value.Value.{Value}
use Rattle.mit_files.specs.Files.{FileMap}
use Rattle.mit_shelf.specs.declared.stop.Stop.{Stop}
use Rattle.mit_shelf.specs.declared.stop.Stop.TheVariants as stop
use Rattle.mit_expr.specs.declared.expr.Expr.{Expr}
use Rattle.mit_expr.specs.Values.{value_in}
use Rattle.mit_ops.specs.Answers.{BagOrFault, RowsOrKind, at_row, settled}
use Rattle.mit_ops.specs.EachRow.{given}
use Rattle.mit_ops.specs.Kinds.{bag_inputs_of}
use Rattle.mit_ops.specs.Operators.{captures_among, legal_in, name_written, whole, written}
use Rattle.mit_ops.specs.declared.faults.FaultKind.{FaultKind}
use Rattle.mit_ops.specs.declared.kinds.OpSpec.{OpSpec}
use Rattle.mit_ops.specs.declared.kinds.OpSpec.TheVariants as op
use Rattle.mit_step.specs.Running.{StopsAs}
use Rattle.mit_step.specs.Stepping.{with_captures}
use Rattle.mit_step.specs.Typing.{IsValue, inputs_in, stored_bag}
use Rattle.mit_step.proofs.Wholes.{captures_are, whole_as}

-- a write's arguments are its bag's and then the captured ones
pub first_args : (args : List ℕ) → 1 ≤ length args → args ≡ get_or args 0 0 ∷ take (length args - 1) (drop 1 args)
first_args [] long = absurd (omega (arith, long))
first_args (target ∷ args) long = ap (λ rest. target ∷ rest) (sym (take_all (length (target ∷ args) - 1) args (omega arith)))

-- a bag that may be written is the answer, and a stop is the same of the answer
written_whole : {A : Type 0} (result : Result A (Stop FaultKind)) (due : RowsOrKind) (answer : BagOrFault) (rows : List RowOf) → IsBag rows
    → answer ≡ settled (at_row [] due) → MatchResult result (λ _. due ≡ Ok rows) (StopsAs (at_row [] due)) → MatchResult result (λ _. answer ≡ Ok rows) (StopsAs answer)
written_whole (Ok name) due answer rows sorted is found = is ∙ ap (λ (all : RowsOrKind). settled (at_row [] all)) found ∙ ap Ok (sym sorted)
written_whole (Err (stop.Fault kind)) due answer rows sorted is found = (found.0, is ∙ ap settled found.1, found.2)
written_whole (Err stop.Folder) due answer rows sorted is found = tt
written_whole (Err stop.NoMemory) due answer rows sorted is found = tt

pub write_values : (operator : OpSpec) (name : Expr) (store : List BagOf) (args : List ℕ) → operator ≡ op.Write name → 1 ≤ length args
    → All IsValue (inputs_in store (drop (bag_inputs_of operator) args)) → All IsValue (inputs_in store (take (length args - 1) (drop 1 args)))
write_values operator name store args is long values =
    subst (λ rest. All IsValue (inputs_in store rest)) (ap (λ (kind : OpSpec). drop (bag_inputs_of kind) args) is ∙ ap (drop 1) (first_args args long)) values

module _ (operator : OpSpec) (name : Expr) (store : List BagOf) (args : List ℕ) (values : List Value) (is : operator ≡ op.Write name) (long : 1 ≤ length args)
    (same : map (λ value. (value ∷ []) ∷ []) values ≡ inputs_in store (take (length args - 1) (drop 1 args))) where
  inputs_are : inputs_in store args ≡ with_captures (stored_bag store (get_or args 0 0) ∷ []) values
  inputs_are = ap (inputs_in store) (first_args args long) ∙ ap (λ rest. stored_bag store (get_or args 0 0) ∷ rest) (sym same)

  pub write_captures : captures_among (op.Write name) (inputs_in store args) ≡ Some values
  write_captures = ap (captures_among (op.Write name)) inputs_are ∙ captures_are (op.Write name) (stored_bag store (get_or args 0 0) ∷ []) values refl

  pub write_name : {E : Type 0} (result : Result (List ℕ) E) → IfOk result (λ text. legal_in (value_in [] values name) ≡ Some text)
      → IfOk result (λ text. name_written operator (inputs_in store args) ≡ Some text)
  write_name (Ok text) legal =
      ap (λ (kind : OpSpec). name_written kind (inputs_in store args)) is
      ∙ ap (option_and_then (λ captures. legal_in (value_in [] captures name))) write_captures ∙ legal
  write_name (Err why) legal = tt

  pub write_whole : {A : Type 0} (result : Result A (Stop FaultKind)) (files : FileMap) → IsBag (stored_bag store (get_or args 0 0))
      → MatchResult result (λ _. given (value_in [] values name) (written (stored_bag store (get_or args 0 0))) ≡ Ok (stored_bag store (get_or args 0 0)))
      (StopsAs (at_row [] (given (value_in [] values name) (written (stored_bag store (get_or args 0 0))))))
      → MatchResult result (λ _. whole operator (inputs_in store args) files ≡ Ok (stored_bag store (get_or args 0 0))) (StopsAs (whole operator (inputs_in store args) files))
  write_whole result files sorted =
      let rows = stored_bag store (get_or args 0 0) in
      written_whole result (given (value_in [] values name) (written rows)) (whole operator (inputs_in store args) files) rows sorted
      (ap (λ (kind : OpSpec). whole kind (inputs_in store args) files) is
      ∙ ap (λ (inputs : List BagOf). whole (op.Write name) inputs files) inputs_are ∙ whole_as (op.Write name) (rows ∷ []) values refl files)
