-- A device of the proofs: nobody has to believe it. Parts of what is read of operators and expressions.
use Rattle.std.specs.Prelude.{ℕ, Ok, if◌then◌else◌, ◌==◌}
use Rattle.mit_lex.specs.declared.keyword.TheConstants as word
use Rattle.mit_ops.specs.declared.kinds.Agg.{Agg}
use Rattle.mit_ops.specs.declared.kinds.Agg.TheVariants as agg
use Rattle.mit_script.specs.Grammar.{Kinds}
use Rattle.mit_script.specs.Reading.{◌>>=◌, Reading, expect_symbol}

-- what is made of a column
abbrev pub agg_of_column : ℕ → ℕ → Agg
agg_of_column place column =
    if place == word.SUM then agg.Sum column else (if place == word.MIN then agg.Min column else agg.Max column)

-- something that was read, after which this symbol stands
abbrev pub ended_by : {A : Type 0} → ℕ → A → Kinds → Reading A
ended_by ending first rest = expect_symbol ending rest >>= λ end. Ok (first, end.1)
