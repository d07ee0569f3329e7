use Rattle.std.proofs.Common.{◌≡◌, ◌<◌, [], ◌∷◌, ◌++◌, length, get_or, ap, sym, arith, false, Result, Ok, Err}
use Rattle.std.specs.Result.{OnOk, is_err}
use Rattle.std.proofs.lemmas.List.{get_or_read}
use Rattle.mit_path.specs.Views.{Seen}
use Rattle.mit_view.proofs.Grown.{keeps_entered}
use Rattle.mit_view.proofs.view.View.learn.Goals as goal

when_ok : {T E P : Type 0} (r : Result T E) → is_err r ≡ false → OnOk r P → P
when_ok (Ok x) ok holds = holds
when_ok (Err e) ok holds = absurd cc

pub invariant_of-self-else-is_err : goal.invariant_of-self-else-is_err
invariant_of-self-else-is_err c =
    let path = c.self.inside.path.items in
    let places = c.self.inside.places.items in
    let blocks : length places ≡ c.args.self.now.blocks = ap (λ (seen : Seen). seen.blocks) c.self.view_is in
    let known : c.args.block < length places = omega (arith, c.requires) in
    let old : c.index_mut-places.result.now ≡ get_or places c.args.block [] = get_or_read places c.args.block _ known c.index_mut-places.ensures.value [] in
    let place : c.len-place.result ≡ length path = omega arith in
    let pushed : c.add-added.new.self ≡ c.index_mut-places.result.now ++ c.len-place.result ∷ [] = when_ok c.add-added.result (sym c.if-is_err.ensures.value) c.add-added.ensures.ok in
    let added : c.add-added.new.self ≡ get_or places c.args.block [] ++ length path ∷ [] = cc in
    rw (c.in_ok-push.ensures.items, added) (keeps_entered path places c.args.block known c.self.invariant)
