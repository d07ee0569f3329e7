-- A device of the proofs: nobody has to believe it. Names that are borrowed from tokens, and the end of an operator.
use Rattle.std.specs.Prelude.{◌≤◌, ℕ, List, length, map, Ok}
use Rattle.std.specs.Borrow.{Bor}
use Rattle.mit_lex.specs.declared.limits.TheConstants.{MAX_WORD}
use Rattle.mit_ops.specs.Kinds.{bag_inputs_of}
use Rattle.mit_ops.specs.declared.kinds.OpSpec.{OpSpec}
use Rattle.mit_script.specs.Grammar.{Kinds, arguments_in}
use Rattle.mit_script.specs.Reading.{◌>>=◌, Operation, Reading, expect_symbol}

-- a name has a byte or more, and is no longer than a word
abbrev pub IsShortName : List ℕ → Type 0
IsShortName name = (1 ≤ length name) × (length name ≤ MAX_WORD)

-- the bytes of each of them
abbrev pub texts_of : List (Bor (List ℕ)) → List (List ℕ)
texts_of words = map (λ word. word.now) words

-- an operator over the arguments of its run, after which this symbol stands
abbrev pub closed_operation : ℕ → List (List ℕ) → OpSpec → Kinds → Kinds → Reading Operation
closed_operation ending names op run rest =
    expect_symbol ending rest >>= λ end. Ok ((op, arguments_in names (bag_inputs_of op) run), end.1)
