-- What is run so far and what is left give the whole.
use Rattle.std.proofs.Common.{◌≡◌, ◌≤◌, ◌+◌, drop, length, [], ◌∷◌}
use Rattle.mit_ops.specs.declared.types.VarType.{VarType}
use Rattle.mit_script.specs.Accepted.{Known}
use Rattle.mit_script.specs.Trees.{count_of_all}
use Rattle.mit_script.specs.declared.tree.Stmt.TheVariants as stmt
use Rattle.std.specs.Prelude.{List}
use Rattle.mit_step.specs.Running.{Asks}
use Rattle.mit_step.specs.Typing.{Ready}
use Rattle.mit_step.proofs.Runs.{Reached, Turned, block_does}
use Rattle.mit_step.proofs.step.+run.Given as goal

abbrev pub invariant-run_all-loop-stmt : goal.invariant-run_all-loop-stmt
invariant-run_all-loop-stmt g l = record {
  reached : Reached (block_does l.block l.number) (block_does (drop l.stmt-index l.block) l.at) l.shelf l.initial.run l.run;
  ready : (types : List VarType) (known after : Known) → Ready types known after l.block l.initial.run.store
      → (mid : Known) × Ready types mid after (drop l.stmt-index l.block) l.run.store;
  first : 1 ≤ l.at;
  counted : l.at + count_of_all (drop l.stmt-index l.block) ≡ l.number + count_of_all l.block;
  sized : length l.run.store ≡ length l.initial.run.store;
  fewer : l.run.decisions.left ≤ l.initial.run.decisions.left;
  asks : Asks (g.F.Folder.files l.initial.folder) (g.F.Folder.files l.folder) (g.F.Folder.faults l.initial.folder) (g.F.Folder.faults l.folder) l.initial.shelf l.shelf;
}

abbrev pub invariant-run_while-turns : goal.invariant-run_while-turns
invariant-run_while-turns g l = record {
  turned : Turned l.op l.args l.body l.number l.shelf l.initial.run l.run;
  ready : (types : List VarType) (known after : Known) → Ready types known after (stmt.While l.op l.args l.body ∷ []) l.initial.run.store
      → Ready types known after (stmt.While l.op l.args l.body ∷ []) l.run.store;
  sized : length l.run.store ≡ length l.initial.run.store;
  fewer : l.run.decisions.left ≤ l.initial.run.decisions.left;
  asks : Asks (g.F.Folder.files l.initial.folder) (g.F.Folder.files l.folder) (g.F.Folder.faults l.initial.folder) (g.F.Folder.faults l.folder) l.initial.shelf l.shelf;
}

abbrev pub decreases-run_while-turns : goal.decreases-run_while-turns
decreases-run_while-turns g l = l.run.decisions.left
