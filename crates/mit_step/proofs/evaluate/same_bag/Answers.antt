use Rattle.std.proofs.Common.{◌≡◌, ◌∙◌, Ok, ap, subst, sym}
use Rattle.mit_rows.specs.Bags.{IsBag}
use Rattle.mit_step.proofs.Copies.{copy_whole}
use Rattle.mit_step.proofs.evaluate.same_bag.Goals as goal

pub returns-clause-bag : goal.returns-clause-bag
returns-clause-bag c = λ files.
    let same : c.in_ok-clone.field-0.value ≡ c.get-bag.result.now.value = c.in_ok-clone.ensures.cases in
    copy_whole c.bags_are_sorted_lists.ensures.sorted c.bags_are_sorted_lists.ensures.parts c.args.op.now c.args.store.now c.args.args.now files c.in-Copy.is c.in-len1-up.len_at_least
    c.requires.argued.values (subst IsBag (c.deref.ensures ∙ c.get-bag.ensures) c.rows-rows.ensures.sorted) ∙ ap Ok (sym (same ∙ c.get-bag.ensures))
