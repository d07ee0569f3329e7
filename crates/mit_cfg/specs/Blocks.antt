-- The blocks of a script: it is cut at its branches.
use Rattle.std.specs.Prelude.{ℕ, ◌+◌, List, [], ◌∷◌, ◌++◌, map, sum, Option, Some, None}
use Rattle.mit_ops.specs.declared.kinds.OpSpec.{OpSpec}
use Rattle.mit_ops.specs.declared.leave.Leave.{Leave}
use Rattle.mit_ops.specs.declared.leave.Leave.TheVariants.{Jump, Branch, End}
use Rattle.mit_script.specs.declared.tree.Script.{Script}
use Rattle.mit_script.specs.declared.tree.Stmt.{Stmt}
use Rattle.mit_script.specs.declared.tree.Stmt.TheFolds.{fold-Stmt}
use Rattle.mit_script.specs.declared.tree.Stmt.TheOpen.{Stmt-F}
use Rattle.mit_script.specs.declared.tree.Stmt.TheOpen as stmt
use Rattle.mit_cfg.specs.declared.block.Block.{Block}
use Rattle.mit_cfg.specs.declared.block.Step.{Step}

-- blocks that are numbered one after another: the one that is current where they begin, and those after it
pub record Stretch : Type 0 where
  pub first : Block
  pub later : List Block

abbrev pub all_of : Stretch → List Block
all_of stretch = stretch.first ∷ stretch.later

abbrev pub step_of : ℕ → Option ℕ → OpSpec → List ℕ → Step
step_of number target operator args = record { statement = number; target = target; op = operator; args = args }

-- a step stands first
abbrev pub preceded : Step → Stretch → Stretch
preceded step after = record {
  first = record { steps = step ∷ after.first.steps; leave = after.first.leave };
  later = after.later;
}

-- how a statement is cut
pub record Cut : Type 0 where
  -- how many statements it is with those inside it
  pub count : ℕ
  -- how many blocks come after the one that is current before it, up to the one that is current after it
  pub added : ℕ
  -- the stretch with it, by the number of the block that is current before it, its own number in the text, and the stretch after it
  pub onto : ℕ → ℕ → Stretch → Stretch

abbrev pub cut_counts : List Cut → ℕ
cut_counts cuts = sum (map (λ cut. cut.count) cuts)

abbrev pub cut_adds : List Cut → ℕ
cut_adds cuts = sum (map (λ cut. cut.added) cuts)

-- the same of statements one after another
unfoldable pub cut_in_turn : List Cut → ℕ → ℕ → Stretch → Stretch
cut_in_turn [] at number after = after
cut_in_turn (cut ∷ cuts) at number after = cut.onto at number (cut_in_turn cuts (at + cut.added) (number + cut.count) after)

-- statements that are left so after the last of them
abbrev pub left : List Cut → ℕ → ℕ → Leave → Stretch
left cuts at number leave = cut_in_turn cuts at number (record { first = record { steps = []; leave = leave }; later = [] })

-- a block with a condition alone
abbrev pub condition_alone : ℕ → OpSpec → List ℕ → ℕ → ℕ → Block
condition_alone number operator args on_true on_false = record {
  steps = step_of number None operator args ∷ [];
  leave = Branch on_true on_false;
}

-- an `if`: the condition ends the current block; then come the true block, the false block and the join
abbrev pub branched_blocks : ℕ → OpSpec → List ℕ → List Cut → List Cut → ℕ → Stretch → Stretch
branched_blocks number operator args on_true on_false at after =
    let other = at + 2 + cut_adds on_true in
    let join = other + 1 + cut_adds on_false in record {
      first = condition_alone number operator args (at + 1) other;
      later = all_of (left on_true (at + 1) (number + 1) (Jump join))
          ++ all_of (left on_false other (number + 1 + cut_counts on_true) (Jump join))
          ++ all_of after;
    }

-- a `while`: the current block goes on to the header, which has the condition; then come the body, which goes back to it, and the exit
abbrev pub looped_blocks : ℕ → OpSpec → List ℕ → List Cut → ℕ → Stretch → Stretch
looped_blocks number operator args body at after =
    let exit = at + 3 + cut_adds body in record {
      first = record { steps = []; leave = Jump (at + 1) };
      later = condition_alone number operator args (at + 2) exit
          ∷ all_of (left body (at + 2) (number + 1) (Jump (at + 1)))
          ++ all_of after;
    }

-- one layer of a statement, with how each inner one is cut in its place
abbrev pub cut_step : Stmt-F Cut → Cut
cut_step (stmt.Assign target operator args) = record {
  count = 1;
  added = 0;
  onto = λ at number after. preceded (step_of number (Some target) operator args) after;
}
cut_step (stmt.Write operator args) = record {
  count = 1;
  added = 0;
  onto = λ at number after. preceded (step_of number None operator args) after;
}
cut_step (stmt.If operator args on_true on_false) = record {
  count = 1 + cut_counts on_true + cut_counts on_false;
  added = 3 + cut_adds on_true + cut_adds on_false;
  onto = λ at number after. branched_blocks number operator args on_true on_false at after;
}
cut_step (stmt.While operator args body) = record {
  count = 1 + cut_counts body;
  added = 3 + cut_adds body;
  onto = λ at number after. looped_blocks number operator args body at after;
}

abbrev pub cut_of : Stmt → Cut
cut_of = fold-Stmt Cut cut_step

-- block 0 is current at the start, and the last one is the end
abbrev pub blocks_of : Script → List Block
blocks_of script = all_of (left (map cut_of script.body) 0 1 End)
