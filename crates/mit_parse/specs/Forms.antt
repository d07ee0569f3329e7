-- A device of the proofs: nobody has to believe it. How an operator is read by where it stands.
use Rattle.std.specs.Prelude.{ℕ, List}
use Rattle.mit_lex.specs.declared.symbol.TheConstants as symbol
use Rattle.mit_ops.specs.declared.kinds.OpSpec.{OpSpec}
use Rattle.mit_script.specs.Grammar.{Kinds}
use Rattle.mit_script.specs.Reading.{Reading, condition_at, right_at, write_form_at}
use Rattle.mit_parse.specs.declared.right.Form.{Form}
use Rattle.mit_parse.specs.declared.right.Form.TheVariants.{Right, Write, Condition}

-- the reader of an operator there
abbrev pub form_at : Form → (List ℕ → ℕ) → ℕ → Kinds → Reading OpSpec
form_at Right = right_at
form_at Write = write_form_at
form_at Condition = condition_at

-- the symbol that ends its run
abbrev pub ending_symbol : Form → ℕ
ending_symbol Right = symbol.SEMICOLON
ending_symbol Write = symbol.SEMICOLON
ending_symbol Condition = symbol.LEFT_BRACE
