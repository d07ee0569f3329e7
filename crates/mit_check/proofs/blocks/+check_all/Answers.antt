use Rattle.std.proofs.Common.{◌≡◌, ◌∙◌, ◌+◌, ◌≤◌, All, Ok, ap, arith, filter, map, rules, subst, sym, tests}
use Rattle.std.specs.Prelude.{IfErr, IfOk}
use Rattle.std.proofs.lemmas.Grind.{common_steps}
use Rattle.std.proofs.lemmas.Result.{IfOk-weaker}
use Rattle.mit_lex.specs.declared.limits.TheConstants.{MAX_SCRIPT}
use Rattle.mit_script.specs.Accepted as spec
use Rattle.mit_script.specs.Trees.{count_of_all}
use Rattle.mit_script.specs.declared.tree.Stmt.{the_lemmas}
use Rattle.mit_check.specs.Bags.{HaveBags}
use Rattle.mit_check.specs.Tells.{TellsFault}
use Rattle.mit_check.specs.Trails.{ExtendsTrail, known_in}
use Rattle.mit_check.proofs.Bagged.{assign_bags, if_bags, while_bags, write_bags}
use Rattle.mit_check.proofs.Statements.{check_of-If, count_of-If, count_of-While}
use Rattle.mit_check.proofs.Trails.{branched_on, extends_by_none, extends_joined, extends_twice, joined, restored}
use Rattle.mit_check.proofs.blocks.+check_all.Goals as goal

pub check_all-loop-stmt-preserved : goal.check_all-loop-stmt-preserved
check_all-loop-stmt-preserved t c = record {
  same = grind (arith, common_steps);
  extends = extends_twice c.args.tables c.loop-stmt.known c.in_ok-known.known c.loop-stmt.invariant.extends c.in_ok-known.ensures.extends;
  counted = grind (arith, common_steps);
}

pub check_body-returns-clause-passed : goal.check_body-returns-clause-passed
check_body-returns-clause-passed t c =
    let back = restored c.in_ok-back.back (c.len-size.ensures ∙ c.args.inside.trail.ok.0) c.in_ok-last.ensures.extends c.in_ok-back.ensures.known c.in_ok-back.ensures.trail c.in_ok-back.ensures.taken in
    rw c.in_ok-last.ensures.passed (ap Ok (sym back.known))

pub check_body-returns-clause-extends : goal.check_body-returns-clause-extends
check_body-returns-clause-extends t c =
    let back = restored c.in_ok-back.back (c.len-size.ensures ∙ c.args.inside.trail.ok.0) c.in_ok-last.ensures.extends c.in_ok-back.ensures.known c.in_ok-back.ensures.trail c.in_ok-back.ensures.taken in
    extends_by_none c.args.inside c.in_ok-back.back back.trail back.assigned

pub check_one-returns-in_ok-inside-in-While-clause-extends : goal.check_one-returns-in_ok-inside-in-While-clause-extends
check_one-returns-in_ok-inside-in-While-clause-extends t c =
    IfOk-weaker c.check_body.result (ExtendsTrail c.in_ok-inside-in-While.inside) (ExtendsTrail c.args.tables)
    (λ after more. extends_twice c.args.tables c.in_ok-inside-in-While.inside after c.in_ok-inside-in-While.ensures.extends more) c.check_body.ensures.extends

pub check_other-returns-clause-passed : goal.check_other-returns-clause-passed
check_other-returns-clause-passed t c =
    let back = restored c.in_ok-back.back (c.len-size.ensures ∙ c.args.before.trail.ok.0) c.in_ok-other.ensures.extends c.in_ok-back.ensures.known c.in_ok-back.ensures.trail c.in_ok-back.ensures.taken in
    let found : c.deref-2.result.now ≡ filter (spec.is_assigned c.in_ok-other.other.assigned.items) c.args.first.now = c.deref-2.ensures.value ∙ (c.in_ok-both.ensures ∙ ap (λ assigned. filter (spec.is_assigned assigned) c.args.first.now) c.deref.ensures.value) in
    let known = joined c.args.before c.in_ok-other.other c.in_ok-back.back c.in_ok-put_back.field-0 c.args.first.now c.in_ok-back.field-0-1.items c.deref-2.result.now back found c.in_ok-put_back.ensures.known in
    rw c.in_ok-other.ensures.passed (ap Ok (sym known))

pub check_other-returns-clause-extends : goal.check_other-returns-clause-extends
check_other-returns-clause-extends t c =
    let back = restored c.in_ok-back.back (c.len-size.ensures ∙ c.args.before.trail.ok.0) c.in_ok-other.ensures.extends c.in_ok-back.ensures.known c.in_ok-back.ensures.trail c.in_ok-back.ensures.taken in
    let found : c.deref-2.result.now ≡ filter (spec.is_assigned c.in_ok-other.other.assigned.items) c.args.first.now = c.deref-2.ensures.value ∙ (c.in_ok-both.ensures ∙ ap (λ assigned. filter (spec.is_assigned assigned) c.args.first.now) c.deref.ensures.value) in
    λ fresh. extends_joined c.args.before c.in_ok-other.other c.in_ok-back.back c.in_ok-put_back.field-0 c.args.first.now c.in_ok-back.field-0-1.items c.deref-2.result.now back fresh found c.in_ok-put_back.ensures.known c.in_ok-put_back.ensures.trail

pub check_one-returns-in_ok-before-in-If-clause-passed : goal.check_one-returns-in_ok-before-in-If-clause-passed
check_one-returns-in_ok-before-in-If-clause-passed t c =
    let back = restored c.in_ok-before-in-If.before (c.len-size.ensures ∙ c.in_ok-inside-in-If.inside.trail.ok.0) c.in_ok-one-in-If.ensures.extends c.in_ok-before-in-If.ensures.known c.in_ok-before-in-If.ensures.trail c.in_ok-before-in-If.ensures.taken in
    let yes = map spec.check_of c.in-If.yes in
    let no = map spec.check_of c.in-If.no in
    let decided : spec.decided_by c.in-If.op c.in-If.args (known_in c.args.tables) ≡ Ok (known_in c.in_ok-inside-in-If.inside) = rw c.as_slice-in-If.ensures at c.in_ok-inside-in-If.ensures.passed in
    let on = branched_on yes no c.in_ok-inside-in-If.inside c.in_ok-one-in-If.one c.in_ok-before-in-If.before c.in_ok-before-in-If.first.items c.deref.result.now (rw c.as_slice-in-If-2.ensures at c.in_ok-one-in-If.ensures.passed) back c.deref.ensures.value in
    let whole = ap (λ one. spec.check_of one (known_in c.args.tables)) c.in-If.is ∙ (check_of-If c.in-If.op c.in-If.args c.in-If.yes c.in-If.no (known_in c.args.tables) ∙ ap (λ found. spec.and_then found (spec.branched yes no)) decided ∙ on) in
    subst (λ found. IfOk c.check_other.result (λ after. found ≡ Ok (known_in after))) (sym whole) (rw c.as_slice-in-If-3.ensures at c.check_other.ensures.passed)

pub check_one-returns-in_ok-before-in-If-clause-fault : goal.check_one-returns-in_ok-before-in-If-clause-fault
check_one-returns-in_ok-before-in-If-clause-fault t c =
    let back = restored c.in_ok-before-in-If.before (c.len-size.ensures ∙ c.in_ok-inside-in-If.inside.trail.ok.0) c.in_ok-one-in-If.ensures.extends c.in_ok-before-in-If.ensures.known c.in_ok-before-in-If.ensures.trail c.in_ok-before-in-If.ensures.taken in
    let yes = map spec.check_of c.in-If.yes in
    let no = map spec.check_of c.in-If.no in
    let decided : spec.decided_by c.in-If.op c.in-If.args (known_in c.args.tables) ≡ Ok (known_in c.in_ok-inside-in-If.inside) = rw c.as_slice-in-If.ensures at c.in_ok-inside-in-If.ensures.passed in
    let on = branched_on yes no c.in_ok-inside-in-If.inside c.in_ok-one-in-If.one c.in_ok-before-in-If.before c.in_ok-before-in-If.first.items c.deref.result.now (rw c.as_slice-in-If-2.ensures at c.in_ok-one-in-If.ensures.passed) back c.deref.ensures.value in
    let whole = ap (λ one. spec.check_of one (known_in c.args.tables)) c.in-If.is ∙ (check_of-If c.in-If.op c.in-If.args c.in-If.yes c.in-If.no (known_in c.args.tables) ∙ ap (λ found. spec.and_then found (spec.branched yes no)) decided ∙ on) in
    subst (λ found. IfErr c.check_other.result (TellsFault found)) (sym whole) (rw c.as_slice-in-If-3.ensures at c.check_other.ensures.fault)

pub check_one-returns-in_ok-before-in-If-clause-extends : goal.check_one-returns-in_ok-before-in-If-clause-extends
check_one-returns-in_ok-before-in-If-clause-extends t c =
    let back = restored c.in_ok-before-in-If.before (c.len-size.ensures ∙ c.in_ok-inside-in-If.inside.trail.ok.0) c.in_ok-one-in-If.ensures.extends c.in_ok-before-in-If.ensures.known c.in_ok-before-in-If.ensures.trail c.in_ok-before-in-If.ensures.taken in
    let inside = extends_twice c.args.tables c.in_ok-inside-in-If.inside c.in_ok-before-in-If.before c.in_ok-inside-in-If.ensures.extends (extends_by_none c.in_ok-inside-in-If.inside c.in_ok-before-in-If.before back.trail back.assigned) in
    IfOk-weaker c.check_other.result (ExtendsTrail c.in_ok-before-in-If.before) (ExtendsTrail c.args.tables)
    (λ after more. extends_twice c.args.tables c.in_ok-before-in-If.before after inside more) (c.check_other.ensures.extends (rw (c.deref.ensures.value, back.assigned) back.fresh))

pub check_one-assign-requires-clause-complete : goal.check_one-assign-requires-clause-complete
check_one-assign-requires-clause-complete t c = rw c.as_slice.ensures (assign_bags c.in-Assign.is c.requires.complete)

pub check_one-write-requires-clause-complete : goal.check_one-write-requires-clause-complete
check_one-write-requires-clause-complete t c = rw c.as_slice-in-Write.ensures (write_bags c.in-Write.is c.requires.complete)

pub check_one-decide-requires-clause-complete : goal.check_one-decide-requires-clause-complete
check_one-decide-requires-clause-complete t c = rw c.as_slice-in-If.ensures (if_bags _ _ c.in-If.is c.requires.complete).0

pub check_one-decide-requires-in-While-clause-complete : goal.check_one-decide-requires-in-While-clause-complete
check_one-decide-requires-in-While-clause-complete t c = rw c.as_slice-in-While.ensures (while_bags _ c.in-While.is c.requires.complete).0

pub check_one-check_all-requires : goal.check_one-check_all-requires
check_one-check_all-requires t c =
    let inside : All HaveBags c.as_slice-in-If-2.result.now = rw c.as_slice-in-If-2.ensures (if_bags _ _ c.in-If.is c.requires.complete).1 in
    let room : c.args.tables.before + (1 + count_of_all c.in-If.yes + count_of_all c.in-If.no) ≤ MAX_SCRIPT = rw (count_of-If c.in-If.op c.in-If.args c.in-If.yes c.in-If.no) at (rw c.in-If.is at c.requires.few) in
    (search (rules, the_lemmas), (rw c.as_slice-in-If-2.ensures (omega (arith, room, c.in_ok-inside-in-If.ensures.counted)), inside))

pub check_one-check_other-requires : goal.check_one-check_other-requires
check_one-check_other-requires t c =
    let back = restored c.in_ok-before-in-If.before (c.len-size.ensures ∙ c.in_ok-inside-in-If.inside.trail.ok.0) c.in_ok-one-in-If.ensures.extends c.in_ok-before-in-If.ensures.known c.in_ok-before-in-If.ensures.trail c.in_ok-before-in-If.ensures.taken in
    let inside : All HaveBags c.as_slice-in-If-3.result.now = rw c.as_slice-in-If-3.ensures (if_bags _ _ c.in-If.is c.requires.complete).2 in
    let before : c.in_ok-before-in-If.before.before ≡ c.in_ok-one-in-If.one.before = ap (λ (k : spec.Known). k.before) back.known in
    let room : c.args.tables.before + (1 + count_of_all c.in-If.yes + count_of_all c.in-If.no) ≤ MAX_SCRIPT = rw (count_of-If c.in-If.op c.in-If.args c.in-If.yes c.in-If.no) at (rw c.in-If.is at c.requires.few) in
    let counted = rw c.as_slice-in-If-2.ensures at c.in_ok-one-in-If.ensures.counted in
    (search (rules, the_lemmas, tests, common_steps), (rw c.as_slice-in-If-3.ensures (omega (arith, room, before, counted, c.in_ok-inside-in-If.ensures.counted)), inside))

pub check_one-check_body-requires : goal.check_one-check_body-requires
check_one-check_body-requires t c =
    let inside : All HaveBags c.as_slice-in-While-2.result.now = rw c.as_slice-in-While-2.ensures (while_bags _ c.in-While.is c.requires.complete).1 in
    let room : c.args.tables.before + (1 + count_of_all c.in-While.body) ≤ MAX_SCRIPT = rw (count_of-While c.in-While.op c.in-While.args c.in-While.body) at (rw c.in-While.is at c.requires.few) in
    (search (rules, the_lemmas), (rw c.as_slice-in-While-2.ensures (omega (arith, room, c.in_ok-inside-in-While.ensures.counted)), inside))
