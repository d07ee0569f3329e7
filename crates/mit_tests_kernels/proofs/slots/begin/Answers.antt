use Rattle.std.proofs.Common.{◌≡◌, ◌+◌, List, length, map, subst, sym}
use Rattle.std.proofs.lemmas.List.{length-map}
use Rattle.mit_rows.specs.Bags.{RowOf}
use Rattle.mit_kernel.specs.Meaning.{Meaning}
use Rattle.mit_ops.specs.Kinds.{bag_inputs_of, captures_of}
use Rattle.mit_ops.specs.Parts.{Fits}
use Rattle.mit_tests_kernels.specs.Held.{HeldSlot}
use Rattle.mit_tests_kernels.proofs.HeldSlots.{begun_keeps, held_begun, lists_none}
use Rattle.mit_tests_kernels.proofs.slots.begin.Goals as goal

pub begin-requires-clause-fits : goal.begin-requires-clause-fits
begin-requires-clause-fits g c =
    let count : length (map (λ rows. rows.items) c.args.lists.now) ≡ bag_inputs_of c.args.spec.now + captures_of c.args.spec.now = rw length-map c.requires.count in
    subst (λ (rows : List (List RowOf)). Fits c.args.spec.now rows) (sym (lists_none c.args.spec.now (map (λ rows. rows.items) c.args.lists.now) count)) (c.fewer_rows_law.ensures.none _ _ c.requires.fits)

pub returns-clause-held : goal.returns-clause-held
returns-clause-held g c =
    let count : length (map (λ rows. rows.items) c.args.lists.now) ≡ bag_inputs_of c.args.spec.now + captures_of c.args.spec.now = rw length-map c.requires.count in
    subst (λ (kernel : Meaning). HeldSlot kernel c.in-Ok.slot (map (λ rows. rows.items) c.args.lists.now)) (sym c.in-Ok.ensures.ok) (held_begun _ c.in-Ok.slot c.args.spec.now c.args.part 2 (map (λ rows. rows.items) c.args.lists.now) c.requires.fits (lists_none c.args.spec.now (map (λ rows. rows.items) c.args.lists.now) count))

pub returns-clause-keeps : goal.returns-clause-keeps
returns-clause-keeps g c = begun_keeps _ _ c.in-Ok.slot (map (λ rows. rows.items) c.args.lists.now) c.args.spec.now c.args.part 2 c.in-Ok.ensures.free c.in-Ok.ensures.ok
