-- How many statements a script has, and when it is formed.
use Rattle.std.specs.Prelude.{◌≡◌, ◌≢◌, ◌≤◌, ◌<◌, ℕ, ◌+◌, max, List, [], ◌∷◌, ◌++◌, length, map, sum, flat_map, All, AllPairs, Bool, true, false, nat_le, ◌&&◌}
use Rattle.mit_expr.specs.declared.expr.Expr.{Expr}
use Rattle.mit_expr.specs.declared.expr.Expr.TheFolds.{fold-Expr}
use Rattle.mit_expr.specs.declared.expr.Expr.TheOpen.{Expr-F}
use Rattle.mit_expr.specs.declared.expr.Expr.TheOpen as expr
use Rattle.mit_lex.specs.declared.limits.TheConstants.{MAX_SCRIPT}
use Rattle.mit_ops.specs.Kinds.{bag_inputs_of, captures_of, exprs_of}
use Rattle.mit_ops.specs.declared.kinds.OpSpec.{OpSpec}
use Rattle.mit_ops.specs.declared.kinds.OpSpec.TheVariants as op
use Rattle.mit_script.specs.declared.tree.Script.{Script}
use Rattle.mit_script.specs.declared.tree.Stmt.{Stmt}
use Rattle.mit_script.specs.declared.tree.Stmt.TheFolds.{fold-Stmt}
use Rattle.mit_script.specs.declared.tree.Stmt.TheOpen.{Stmt-F}
use Rattle.mit_script.specs.declared.tree.Stmt.TheOpen as stmt

-- one layer of a statement, with the number of each inner one in its place
abbrev pub count_step : Stmt-F ℕ → ℕ
count_step (stmt.Assign target operator args) = 1
count_step (stmt.Write operator args) = 1
count_step (stmt.If operator args on_true on_false) = 1 + sum on_true + sum on_false
count_step (stmt.While operator args body) = 1 + sum body

-- a statement and those inside it
abbrev pub count_of : Stmt → ℕ
count_of = fold-Stmt ℕ count_step

-- the same of a block
abbrev pub count_of_all : List Stmt → ℕ
count_of_all block = sum (map count_of block)

-- how many statements a script has
abbrev pub statements_of : Script → ℕ
statements_of script = count_of_all script.body

-- a statement without its blocks
pub data Head : Type 0 where
  assigns : ℕ → OpSpec → List ℕ → Head
  writes : OpSpec → List ℕ → Head
  decides : OpSpec → List ℕ → Head

-- one layer of a statement, with the heads of each inner one in its place
abbrev pub head_step : Stmt-F (List Head) → List Head
head_step (stmt.Assign target operator args) = assigns target operator args ∷ []
head_step (stmt.Write operator args) = writes operator args ∷ []
head_step (stmt.If operator args on_true on_false) = decides operator args ∷ flat_map (λ heads. heads) on_true ++ flat_map (λ heads. heads) on_false
head_step (stmt.While operator args body) = decides operator args ∷ flat_map (λ heads. heads) body

-- the heads of a statement and of those inside it, in the order of the text
abbrev pub heads_in : Stmt → List Head
heads_in = fold-Stmt (List Head) head_step

-- the same of a script
abbrev pub heads_of : Script → List Head
heads_of script = flat_map heads_in script.body

-- the captured scalars that an expression names, as often as it names them, from left to right
abbrev pub use_step : Expr-F (List ℕ) → List ℕ
use_step (expr.Column column) = []
use_step (expr.Capture capture) = capture ∷ []
use_step (expr.Lit value) = []
use_step (expr.Bin operator left right) = left ++ right
use_step (expr.Not arg) = arg
use_step (expr.Call function arg) = arg

abbrev pub uses_in : Expr → List ℕ
uses_in = fold-Expr (List ℕ) use_step

-- the same of all expressions of an operator
abbrev pub uses_of : OpSpec → List ℕ
uses_of operator = flat_map uses_in (exprs_of operator)

-- each of these numbers that did not occur before is the next one, counted from here
abbrev pub is_in_order : ℕ → List ℕ → Bool
is_in_order next [] = true
is_in_order next (number ∷ more) = nat_le number next && is_in_order (max next (number + 1)) more

abbrev pub is_write : OpSpec → Bool
is_write (op.Write name) = true
is_write _ = false

abbrev pub is_scalar : OpSpec → Bool
is_scalar (op.Scalar expr) = true
is_scalar _ = false

-- the arguments of an operator, where there are so many variables
pub record AreArgs (variables : ℕ) (operator : OpSpec) (args : List ℕ) : Type 0 where
  pub known : All (λ variable. variable < variables) args
  pub complete : length args ≡ bag_inputs_of operator + captures_of operator
  pub in_order : is_in_order 0 (uses_of operator) ≡ true

abbrev pub IsFormedHead : ℕ → Head → Type 0
IsFormedHead variables (assigns target operator args) =
    (target < variables) × (is_write operator ≡ false) × AreArgs variables operator args
IsFormedHead variables (writes operator args) = (is_write operator ≡ true) × AreArgs variables operator args
IsFormedHead variables (decides operator args) = (is_scalar operator ≡ true) × AreArgs variables operator args

-- short enough, with names that differ, and each statement with an operator and arguments of its form
pub record IsFormed (script : Script) : Type 0 where
  pub short : statements_of script ≤ MAX_SCRIPT
  pub distinct : AllPairs (λ name other. name ≢ other) script.names
  pub formed : All (IsFormedHead (length script.names)) (heads_of script)

-- the variables of a statement, as they stand in the text
abbrev pub variables_of : Head → List ℕ
variables_of (assigns target operator args) = target ∷ args
variables_of (writes operator args) = args
variables_of (decides operator args) = args

-- variables are numbered in the order in which they appear first
abbrev pub IsNumbered : Script → Type 0
IsNumbered script = is_in_order 0 (flat_map variables_of (heads_of script)) ≡ true
