use Rattle.std.proofs.Common.{◌≡◌, ◌<◌, length, get_or, take, sym, arith}
use Rattle.std.proofs.lemmas.List.{length-take-le, take_more}
use Rattle.mit_view.proofs.Walked.{last_below_none, last_below_push}
use Rattle.mit_view.proofs.view.View.choose.Goals as goal

pub loop-number-init : goal.loop-number-init
loop-number-init c = sym (last_below_none c.args.self.now.path c.if-phi.bound)

pub loop-number-preserved : goal.loop-number-preserved
loop-number-preserved c =
    let operands = c.args.operands.now in
    let number = c.loop-number.number in
    let within : number < length operands = omega arith in
    let longer = take_more operands number 0 within in
    let count : length (take number operands) ≡ number = length-take-le number operands (omega arith) in
    let more = last_below_push c.args.self.now.path (take number operands) (get_or operands number 0) c.if-phi.bound in
    cc
