use Rattle.std.proofs.Common.{[], map, ap, ◌∙◌, rules}
use Rattle.std.proofs.lemmas.List.{map-set, length-map, get_or-map}
use Rattle.std.proofs.Math.Seq.{map-set_same}
use Rattle.mit_kernel.proofs.Lists.{with_row-set}
use Rattle.mit_kernel.proofs.fed.push_to.Goals as goal

pub returns-in_err-push-clause-err : goal.returns-in_err-push-clause-err
returns-in_err-push-clause-err c =
    let same = map-set_same (λ rows. rows.items) c.args.lists.now.items c.args.input c.push.new.self c.index_mut.result.now (c.in_err-push.ensures.items ∙ ap (λ rows. rows.items) c.index_mut.ensures.value) in
    search rules

pub returns-clause-ok : goal.returns-clause-ok
returns-clause-ok c = rw (
  map-set (λ rows. rows.items) c.args.lists.now.items c.args.input c.push.new.self,
  with_row-set (map (λ rows. rows.items) c.args.lists.now.items) c.args.input c.args.row [] (rw length-map c.requires),
  get_or-map (λ rows. rows.items) c.args.lists.now.items c.args.input c.index_mut.result.now [] c.requires,
  ← c.index_mut.ensures.value,
  c.in_ok-push.ensures.items,
)
