use Rattle.std.proofs.Common.{[], ◌∷◌, ◌∙◌, ap, get_or, map, subst}
use Rattle.mit_rows.specs.Bags.{IsBag}
use Rattle.mit_rows.specs.declared.value.Value.{Value}
use Rattle.mit_ops.specs.Parts.{Fits}
use Rattle.mit_ops.specs.declared.kinds.OpSpec.{OpSpec}
use Rattle.mit_step.specs.Typing.{inputs_in, stored_bag}
use Rattle.mit_step.proofs.Names.{write_captures, write_name, write_values, write_whole}
use Rattle.mit_step.proofs.evaluate.name_of.Goals as goal

pub values_of-requires-clause-values : goal.values_of-requires-clause-values
values_of-requires-clause-values c =
    write_values c.args.op.now c.in-Write.name c.args.store.now c.args.args.now c.in-Write.is c.in-len1-up.len_at_least c.requires.argued.values

pub written_name-requires : goal.written_name-requires
written_name-requires c =
    let same = ap (map (λ (value : Value). (value ∷ []) ∷ [])) c.deref-2.ensures.value ∙ c.in_ok-values.ensures in
    c.fitting_law.ensures.write c.in-Write.name (inputs_in c.args.store.now c.args.args.now) c.deref-2.result.now
    (subst (λ (kind : OpSpec). Fits kind (inputs_in c.args.store.now c.args.args.now)) c.in-Write.is c.requires.argued.fits)
    (write_captures c.args.op.now c.in-Write.name c.args.store.now c.args.args.now c.deref-2.result.now c.in-Write.is c.in-len1-up.len_at_least same)

pub returns-clause-named : goal.returns-clause-named
returns-clause-named c =
    let same = ap (map (λ (value : Value). (value ∷ []) ∷ [])) c.deref-2.ensures.value ∙ c.in_ok-values.ensures in
    write_name c.args.op.now c.in-Write.name c.args.store.now c.args.args.now c.deref-2.result.now c.in-Write.is c.in-len1-up.len_at_least same
    c.written_name.result c.written_name.ensures.named

pub returns-clause-bag : goal.returns-clause-bag
returns-clause-bag c files =
    let same = ap (map (λ (value : Value). (value ∷ []) ∷ [])) c.deref-2.ensures.value ∙ c.in_ok-values.ensures in
    write_whole c.args.op.now c.in-Write.name c.args.store.now c.args.args.now c.deref-2.result.now c.in-Write.is c.in-len1-up.len_at_least same
    c.written_name.result files (subst IsBag (c.deref.ensures ∙ c.get.ensures) c.rows-rows.ensures.sorted)
    (c.written_name.ensures.bag (stored_bag c.args.store.now (get_or c.args.args.now 0 0)))
