use Rattle.std.proofs.Common.{◌≡◌, ◌<◌, ◌≤◌, [], length, get_or, sym, arith}
use Rattle.mit_view.specs.Kept.{IsLastBelow}
use Rattle.mit_view.proofs.Found.{last_is, never_last}
use Rattle.mit_view.proofs.view.View.last_below.Goals as goal

pub returns-in_err-places : goal.returns-in_err-places
returns-in_err-places c =
    let path = c.self.inside.path.items in
    let places = c.self.inside.places.items in
    let within : c.args.bound ≤ length path = rw (← c.self.view_is) at c.requires in
    let beyond : length places ≤ c.args.block = rw (← c.deref.ensures.value) c.in_err-places.ensures.lookup.3 in
    rw (c.from_residual.ensures, ← c.self.view_is) (sym (never_last path c.args.block c.args.bound within (λ at lt is. omega (arith, c.self.invariant.known at lt))))

pub returns : goal.returns
returns c =
    let path = c.self.inside.path.items in
    let places = c.self.inside.places.items in
    let within : c.args.bound ≤ length path = rw (← c.self.view_is) at c.requires in
    let known : c.args.block < length places = rw (← c.deref.ensures.value) c.in_ok-places.ensures.lookup.3.0 in
    let kept : c.in_ok-places.places.now ≡ get_or places c.args.block [] = rw (← c.deref.ensures.value) (c.in_ok-places.ensures.lookup.3.1 []) in
    let last : IsLastBelow (get_or places c.args.block []) c.args.bound c.last_below.result = rw (← kept) c.last_below.ensures in
    rw (← c.self.view_is) (last_is path c.args.block (get_or places c.args.block []) c.args.bound c.last_below.result (c.self.invariant.each c.args.block known) within last)
