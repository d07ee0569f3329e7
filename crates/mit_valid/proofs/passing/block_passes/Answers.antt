use Rattle.std.proofs.Common.{◌≡◌, ◌<◌, ◌∷◌, [], arith, length}
use Rattle.std.proofs.lemmas.List.Elements.{All-cons, All-nil}
use Rattle.mit_valid.specs.Searched.{landing_of}
use Rattle.mit_valid.proofs.Avoiding.{LastPlaces, avoids_one}
use Rattle.mit_valid.proofs.Passes.{avoided_land, block_decides, block_passes_alone, fed_lands}
use Rattle.mit_valid.proofs.passing.block_passes.Goals as goal

pub returns-then-not-block_feeds-clause-pass : goal.returns-then-not-block_feeds-clause-pass
returns-then-not-block_feeds-clause-pass c =
    let laws : LastPlaces = record { input = c.last_place_law.ensures.input; phi = c.last_place_law.ensures.phi } in
    block_passes_alone c.args.plan.now c.args.all.now c.args.block laws c.requires.lists c.requires.all c.if-not-block_feeds.ensures

pub mark_reached-requires-clause-avoided : goal.mark_reached-requires-clause-avoided
mark_reached-requires-clause-avoided c =
    let below : c.args.block < length c.clear.new.marks = omega arith in
    let lands = fed_lands c.args.plan.now c.args.landings.now c.args.all.now c.args.block c.requires.lists c.requires.skips c.if-not-block_feeds.ensures in
    avoided_land c.args.landings.now _ (c.args.block ∷ []) (avoids_one c.clear.new.marks c.args.block c.clear.ensures below)
    (All-cons (λ block. landing_of c.args.landings.now block ≡ block) c.args.block [] lands (All-nil (λ block. landing_of c.args.landings.now block ≡ block)))

pub returns-clause-pass : goal.returns-clause-pass
returns-clause-pass c =
    let laws : LastPlaces = record { input = c.last_place_law.ensures.input; phi = c.last_place_law.ensures.phi } in
    let below : c.args.block < length c.clear.new.marks = omega arith in
    block_decides c.args.plan.now c.args.landings.now _ c.mark_reached.new.marks c.args.block laws c.requires.lists c.requires.skips
    (avoids_one c.clear.new.marks c.args.block c.clear.ensures below) c.in_ok-mark_reached.ensures.searched c.block_feeds-2.result c.block_feeds-2.ensures
