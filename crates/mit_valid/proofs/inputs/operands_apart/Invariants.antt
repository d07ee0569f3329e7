use Rattle.std.proofs.Common.{◌≡◌, ◌<◌, ◌≤◌, ℕ, length}
use Rattle.std.specs.Prelude.{IsTrue}
use Rattle.std.specs.List.{All}
use Rattle.mit_plan.specs.Plans.{is_phi, op_at}
use Rattle.mit_plan.specs.Valid.{AreApart, source_blocks}
use Rattle.mit_valid.proofs.inputs.operands_apart.Given as goal

abbrev pub invariant-loop-op : goal.invariant-loop-op
invariant-loop-op l =
    (length l.stamps.items ≡ length l.plan.blocks) × (All (λ stamp. stamp ≤ l.op) l.stamps.items)
    × ((op : ℕ) → op < l.op → IsTrue (is_phi (op_at l.plan op)) → AreApart (source_blocks l.plan op) (op_at l.plan op).block)
