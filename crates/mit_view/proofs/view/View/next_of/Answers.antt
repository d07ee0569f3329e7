use Rattle.std.proofs.Common.{◌≡◌, ◌<◌, ◌≤◌, [], length, get_or, sym, arith}
use Rattle.mit_view.specs.Kept.{IsFirstFrom}
use Rattle.mit_view.proofs.Found.{first_is, never_next}
use Rattle.mit_view.proofs.view.View.next_of.Goals as goal

pub returns-in_err-places : goal.returns-in_err-places
returns-in_err-places c =
    let path = c.self.inside.path.items in
    let places = c.self.inside.places.items in
    let beyond : length places ≤ c.args.block = rw (← c.deref.ensures.value) c.in_err-places.ensures.lookup.3 in
    rw (c.from_residual.ensures, ← c.self.view_is) (sym (never_next path c.args.block c.args.from (λ at lt is. omega (arith, c.self.invariant.known at lt))))

pub returns : goal.returns
returns c =
    let path = c.self.inside.path.items in
    let places = c.self.inside.places.items in
    let known : c.args.block < length places = rw (← c.deref.ensures.value) c.in_ok-places.ensures.lookup.3.0 in
    let kept : c.in_ok-places.places.now ≡ get_or places c.args.block [] = rw (← c.deref.ensures.value) (c.in_ok-places.ensures.lookup.3.1 []) in
    let first : IsFirstFrom (get_or places c.args.block []) c.args.from c.first_from.result = rw (← kept) c.first_from.ensures in
    rw (← c.self.view_is) (first_is path c.args.block (get_or places c.args.block []) c.args.from c.first_from.result (c.self.invariant.each c.args.block known) first)
