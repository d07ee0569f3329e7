use Rattle.std.proofs.Common.{◌≡◌, ◌∙◌, ap}
use Rattle.std.specs.FinMap.{put}
use Rattle.mit_files.specs.Files.{name_cmp}
use Rattle.mit_world.specs.Entries.{as_pairs}
use Rattle.mit_world.proofs.Place.{holds, as_pairs-insert_entry, insert_from_put, sorted_from_put}
use Rattle.mit_world.proofs.files.Files.put_owned.Goals as goal

pub invariant_of-self-2 : goal.invariant_of-self-2
invariant_of-self-2 c =
    let edited : as_pairs c.insert.new.self.entries ≡ put name_cmp c.args.name.now c.args.bytes.items (as_pairs c.self.inside.entries.entries) =
    ap as_pairs c.in_ok-insert.ensures.entries ∙ as_pairs-insert_entry _ c.in_ok-name.name c.args.bytes ∙ ap (λ n. put name_cmp n c.args.bytes.items (as_pairs c.self.inside.entries.entries)) c.in_ok-name.ensures.ok in
    sorted_from_put _ _ c.args.name.now c.args.bytes.items (holds _ c.self.invariant) edited

pub returns-clause-ok : goal.returns-clause-ok
returns-clause-ok c =
    let edited : as_pairs c.insert.new.self.entries ≡ put name_cmp c.args.name.now c.args.bytes.items (as_pairs c.self.inside.entries.entries) =
    ap as_pairs c.in_ok-insert.ensures.entries ∙ as_pairs-insert_entry _ c.in_ok-name.name c.args.bytes ∙ ap (λ n. put name_cmp n c.args.bytes.items (as_pairs c.self.inside.entries.entries)) c.in_ok-name.ensures.ok in
    rw (← c.self.view_is) (insert_from_put _ _ c.args.name.now c.args.bytes.items (holds _ c.self.invariant) edited)
