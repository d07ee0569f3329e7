-- Which scripts run today: lists of reads of integers, unions and writes, with the names of their files written out.
use Rattle.std.specs.Prelude.{ℕ, List, [], ◌∷◌, length, Bool, nat_le, nat_lt, ◌&&◌, Option, Some, None, option_map, slice_index_or, if◌then◌else◌}
use Rattle.std.specs.List.{list_all}
use Rattle.mit_rows.specs.declared.row.TheConstants.{MAX_COLUMNS}
use Rattle.mit_rows.specs.declared.value.ColType.{ColType}
use Rattle.mit_rows.specs.declared.value.ColType.TheVariants.{Int}
use Rattle.mit_rows.specs.declared.value.Value.{Value}
use Rattle.mit_rows.specs.declared.value.Value.TheVariants as value
use Rattle.mit_files.specs.Names.{is_legal}
use Rattle.mit_expr.specs.Types.{same_type}
use Rattle.mit_expr.specs.declared.expr.Expr.{Expr, out-Expr}
use Rattle.mit_expr.specs.declared.expr.Expr.TheOpen.{Expr-F}
use Rattle.mit_expr.specs.declared.expr.Expr.TheOpen as expr
use Rattle.mit_ops.specs.declared.kinds.OpSpec.{OpSpec}
use Rattle.mit_ops.specs.declared.kinds.OpSpec.TheVariants as kind
use Rattle.mit_script.specs.declared.tree.Script.{Script}
use Rattle.mit_script.specs.declared.tree.Stmt.{Stmt, out-Stmt}
use Rattle.mit_script.specs.declared.tree.Stmt.TheOpen.{Stmt-F}
use Rattle.mit_script.specs.declared.tree.Stmt.TheOpen as stmt
use Rattle.mit_engine.specs.declared.thin.TheConstants.{MAX_STATEMENTS}
use Rattle.mit_engine.specs.declared.thin.ThinStep.{ThinStep}
use Rattle.mit_engine.specs.declared.thin.ThinStep.TheVariants as step

-- a literal that is a legal file name
abbrev pub name_of_value : Value → Option (List ℕ)
name_of_value (value.Text bytes) = if is_legal bytes then Some bytes else None
name_of_value (value.Int number) = None
name_of_value (value.Bool truth) = None

abbrev pub name_of_layer : Expr-F Expr → Option (List ℕ)
name_of_layer (expr.Lit value) = name_of_value value
name_of_layer _ = None

abbrev pub name_of : Expr → Option (List ℕ)
name_of e = name_of_layer (out-Expr e)

-- the argument at a place
abbrev pub argument_at : List ℕ → ℕ → ℕ
argument_at args place = slice_index_or args place 0

-- integers alone, and from one to the most columns
abbrev pub is_read : List ColType → Bool
is_read types = nat_lt 0 (length types) && nat_le (length types) MAX_COLUMNS && list_all (same_type Int) types

-- an assignment as a thin step, and a write
abbrev pub assigned_step : ℕ → OpSpec → List ℕ → Option ThinStep
assigned_step target (kind.Read name types) args =
    if is_read types then option_map (λ file. step.Read target file (length types)) (name_of name) else None
assigned_step target kind.Union args = Some (step.Union target (argument_at args 0) (argument_at args 1))
assigned_step target _ args = None

abbrev pub written_step : OpSpec → List ℕ → Option ThinStep
written_step (kind.Write name) args = option_map (λ file. step.Write (argument_at args 0) file) (name_of name)
written_step _ args = None

abbrev pub step_of_layer : Stmt-F Stmt → Option ThinStep
step_of_layer (stmt.Assign target op args) = assigned_step target op args
step_of_layer (stmt.Write op args) = written_step op args
step_of_layer _ = None

abbrev pub thin_step_of : Stmt → Option ThinStep
thin_step_of statement = step_of_layer (out-Stmt statement)

-- one step before others, where each is there
abbrev pub before_steps : Option ThinStep → Option (List ThinStep) → Option (List ThinStep)
before_steps None more = None
before_steps (Some one) more = option_map (λ steps. one ∷ steps) more

abbrev pub steps_of : List Stmt → Option (List ThinStep)
steps_of [] = Some []
steps_of (first ∷ more) = before_steps (thin_step_of first) (steps_of more)

-- the steps of a script that runs today
abbrev pub thin_steps : Script → Option (List ThinStep)
thin_steps script = if nat_le (length script.body) MAX_STATEMENTS then steps_of script.body else None
