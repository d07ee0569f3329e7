use Rattle.std.proofs.Common.{map}
use Rattle.std.proofs.lemmas.List.{length-map}
use Rattle.mit_tests_kernels.proofs.HeldSlots.{fed_keeps, held_takes}
use Rattle.mit_tests_kernels.proofs.slots.feed_row.Goals as goal

pub feed-requires : goal.feed-requires
feed-requires g c = held_takes _ c.args.slot (map (λ rows. rows.items) c.args.lists.now) c.requires.held c.fewer_rows_law.ensures.fewer c.args.input c.args.row.now (rw length-map c.requires.within) c.requires.row

pub returns : goal.returns
returns g c = fed_keeps _ _ c.args.slot (map (λ rows. rows.items) c.args.lists.now) c.args.input c.args.row.now c.in-Ok.ensures.ok (rw length-map c.requires.within) c.requires.row
