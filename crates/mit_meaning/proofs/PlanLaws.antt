-- What the laws of plans, of blocks and of bags ensure, as far as the proofs here take it.
use Rattle.std.proofs.Common.{◌≡◌, ◌<◌, ◌+◌, ◌*◌, ◌++◌, ℕ, List, length, Some, Ok}
use Rattle.std.specs.Prelude.{filter_map}
use Rattle.mit_rows.specs.Bags.{BagOf, IsBag, RowOf, bag_of}
use Rattle.mit_files.specs.Files.{FileMap}
use Rattle.mit_expr.specs.declared.expr.Expr.{Expr}
use Rattle.mit_ops.specs.Operators.{name_written, whole}
use Rattle.mit_ops.specs.declared.kinds.OpSpec.TheVariants as op
use Rattle.mit_script.specs.Execution.{exec}
use Rattle.mit_script.specs.Trees.{IsFormed}
use Rattle.mit_script.specs.declared.tree.Script.{Script}
use Rattle.mit_cfg.specs.Blocks.{blocks_of}
use Rattle.mit_cfg.specs.Walk.{at_ending, walk}
use Rattle.mit_plan.specs.Explained.{Explained}
use Rattle.mit_plan.specs.Held.{History, Job, as_part, enters, held, run}
use Rattle.mit_plan.specs.Meant.{fault_at, faults_of, made, pair, pairs_at, write_at, write_of, writes_of}
use Rattle.mit_plan.specs.Sums.{TakesBags, bag_at, spec_at}
use Rattle.mit_plan.specs.Valid.{EdgesGoUp, RangesFollow}

pub record PlanLaws : Type 0 where
  -- bags stand in order
  pub sorted : (rows : List RowOf) → IsBag (bag_of rows)
  -- held parts are what their operators make
  pub rows : (job : Job) (places : ℕ) → RangesFollow job.plan → EdgesGoUp job.plan → Explained job (run job places).history
  -- with one place more
  pub even : (job : Job) (places : ℕ) → length (run job places).history.parts ≡ length (run job places).history.path
  pub faults : (job : Job) (history : History) (block : ℕ) → length history.parts ≡ length history.path → let after = enters job history block in
      faults_of job after ≡ faults_of job history ++ filter_map (fault_at job.plan after) (pairs_at job.plan after.path (length history.path))
  pub writes : (job : Job) (history : History) (block : ℕ) → length history.parts ≡ length history.path → let after = enters job history block in
      writes_of job after ≡ writes_of job history ++ filter_map (write_at job after) (pairs_at job.plan after.path (length history.path))
  -- an operator whose bags are there
  pub makes : (job : Job) (history : History) (place index : ℕ) (columns : ℕ → ℕ) (bags : List BagOf) → Explained job history → 0 < job.partitions
      → TakesBags job history place index columns bags → made history (pair place index) ≡ whole (spec_at job history place index) bags job.files
  pub ok : (job : Job) (history : History) (place index : ℕ) (columns : ℕ → ℕ) (bags : List BagOf) (bag : BagOf) → Explained job history → 0 < job.partitions
      → TakesBags job history place index columns bags → made history (pair place index) ≡ Ok bag → bag_at job history place index ≡ Some bag
  pub write : (job : Job) (history : History) (place index : ℕ) (columns : ℕ → ℕ) (bags : List BagOf) (name : Expr) → Explained job history → 0 < job.partitions
      → TakesBags job history place index columns bags → spec_at job history place index ≡ op.Write name
      → write_at job history (pair place index) ≡ write_of (name_written (op.Write name) bags) (as_part (whole (op.Write name) bags job.files))
  pub decides : (job : Job) (history : History) (place index : ℕ) (columns : ℕ → ℕ) (bags : List BagOf) (expr : Expr) → Explained job history → 0 < job.partitions
      → TakesBags job history place index columns bags → spec_at job history place index ≡ op.Scalar expr
      → held history place index 0 ≡ as_part (whole (op.Scalar expr) bags job.files)
  -- walking the blocks of a script is executing it
  pub exec : (script : Script) (files : FileMap) (decisions : ℕ) → IsFormed script
      → walk (blocks_of script) files decisions ((decisions + 1) * length (blocks_of script)) ≡ at_ending (exec script files decisions)
