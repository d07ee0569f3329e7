use Rattle.std.proofs.Common.{◌∙◌, ap, arith, length, sym}
use Rattle.mit_kernel.specs.Meaning.{Slot}
use Rattle.mit_k_join.proofs.Indexing.{join_left}
use Rattle.mit_k_join.proofs.slot.JoinSlot.add_left.Goals as goal

pub invariant_of-self-else-is_err : goal.invariant_of-self-else-is_err
invariant_of-self-else-is_err c =
    join_left c.index_law.ensures.more c.add-added.result c.self.inside.fed c.add-added.new.self c.self.inside.index c.note.new.self c.join_keys.result.0.now c.join_keys.result.1.now c.args.row.now c.hash_of-hash.result _
    (sym c.is_err.ensures.value ∙ c.if-is_err.false) c.add-added.ensures.ok c.self.invariant (omega (arith, c.requires.within, ap (λ (slot : Slot). length slot.lists) c.self.view_is)) (sym c.spec.ensures.value ∙ c.join_keys.ensures)
    c.hash_of-hash.ensures (ap length c.list-place.ensures) c.in_ok-note.ensures.ok
