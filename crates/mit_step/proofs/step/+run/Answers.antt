use Rattle.std.proofs.Common.{◌≡◌, ◌∙◌, ◌≤◌, ◌+◌, [], ◌∷◌, true, false, Err, ap, arith, drop, length, map, rules, subst, sym}
use Rattle.std.specs.Prelude.{⊤, if◌then◌else◌, set}
use Rattle.std.proofs.lemmas.Grind.{common_steps}
use Rattle.std.proofs.lemmas.List.{drop_all}
use Rattle.std.proofs.lemmas.Result.{on_ok_weaker}
use Rattle.mit_rows.specs.Bags.{BagOf}
use Rattle.mit_lex.specs.declared.limits.TheConstants.{MAX_SCRIPT}
use Rattle.mit_script.specs.Accepted.{with_assigned}
use Rattle.mit_script.specs.Execution.{Doing, by_condition, counts, exec_of, goes_on, in_turn, turns}
use Rattle.mit_script.specs.Trees.{count_of_all}
use Rattle.mit_script.specs.declared.tree.Stmt.{the_lemmas}
use Rattle.mit_script.specs.declared.tree.Stmt.TheVariants as stmt
use Rattle.mit_step.specs.Running.{LeavesRun}
use Rattle.mit_step.specs.Typing.{Argued, IsMade, Ready, StoreHolds, inputs_in}
use Rattle.mit_step.proofs.Asking.{asks_more, failed_more, no_answer, stopped_as, stopped_more}
use Rattle.mit_step.proofs.Execs.{count_of-If, count_of-While, exec_of-Assign, exec_of-If, exec_of-Write, exec_of-While}
use Rattle.mit_step.proofs.Readiness.{ready_assign, ready_first, ready_if, ready_none, ready_while, ready_write}
use Rattle.mit_step.proofs.Runs.{branch_leaves, entered, here, on_ok, leaves_as, none_does, reached_more, reached_stop, turned_end, turned_fault, turned_more, turned_stop}
use Rattle.mit_step.proofs.step.+run.Goals as goal

-- ---- the statements of a block

pub run_all-run_one-requires : goal.run_all-run_one-requires
run_all-run_one-requires g t c κs within =
    let left = here c.args.block.now c.loop-stmt.stmt-index c.stmt-item.result c.loop-stmt-test.true c.stmt-item.is in
    let r = c.requires.ready in
    let ready = c.loop-stmt.invariant.ready r.0 r.1 r.2 r.3 in
    let one = ready_first (subst (λ block. Ready r.0 ready.0 r.2 block c.loop-stmt.run.store) left ready.1) in
    let counted : c.loop-stmt.at + count_of_all (c.stmt-item.result ∷ drop (c.loop-stmt.stmt-index + 1) c.args.block.now) ≡ c.args.number + count_of_all c.args.block.now =
    ap (λ block. c.loop-stmt.at + count_of_all block) (sym left) ∙ c.loop-stmt.invariant.counted in
    (search (rules, the_lemmas), (search rules, (c.loop-stmt.invariant.first, (grind (arith, common_steps, counted, c.requires.few), (r.0, ready.0, one.mid, one.one)))))

pub run_all-returns-in_err-run_one-clause-answer :
    goal.run_all-returns-in_err-run_one-clause-answer
run_all-returns-in_err-run_one-clause-answer g t c =
    let left = here c.args.block.now c.loop-stmt.stmt-index c.stmt-item.result c.loop-stmt-test.true c.stmt-item.is in
    let is : c.from_residual.result ≡ Err c.in_err-run_one.field-0.0 = search rules in
    λ files state agrees stands.
    subst (LeavesRun (in_turn (map (exec_of files) c.args.block.now) c.args.number state) (λ _. goes_on) c.run_one.new.run) (sym is)
    (reached_stop c.loop-stmt.at c.loop-stmt.shelf c.run_one.new.shelf c.in_err-run_one.field-0.0 left c.loop-stmt.invariant.reached
    c.run_one.ensures.asks.grows c.in_err-run_one.ensures.answer files state agrees stands)

pub run_all-returns-in_err-run_one-clause-asks : goal.run_all-returns-in_err-run_one-clause-asks
run_all-returns-in_err-run_one-clause-asks g t c = asks_more c.loop-stmt.invariant.asks c.run_one.ensures.asks

pub run_all-count_one-at-requires : goal.run_all-count_one-at-requires
run_all-count_one-at-requires g t c =
    let left = here c.args.block.now c.loop-stmt.stmt-index c.stmt-item.result c.loop-stmt-test.true c.stmt-item.is in
    let counted : c.loop-stmt.at + count_of_all (c.stmt-item.result ∷ drop (c.loop-stmt.stmt-index + 1) c.args.block.now) ≡ c.args.number + count_of_all c.args.block.now =
    ap (λ block. c.loop-stmt.at + count_of_all block) (sym left) ∙ c.loop-stmt.invariant.counted in
    grind (arith, common_steps, counted, c.requires.few, c.loop-stmt.invariant.first)

pub run_all-loop-stmt-preserved : goal.run_all-loop-stmt-preserved
run_all-loop-stmt-preserved g t c =
    let left = here c.args.block.now c.loop-stmt.stmt-index c.stmt-item.result c.loop-stmt-test.true c.stmt-item.is in
    let counted : c.loop-stmt.at + count_of_all (c.stmt-item.result ∷ drop (c.loop-stmt.stmt-index + 1) c.args.block.now) ≡ c.args.number + count_of_all c.args.block.now =
    ap (λ block. c.loop-stmt.at + count_of_all block) (sym left) ∙ c.loop-stmt.invariant.counted in
    record {
      reached = reached_more c.loop-stmt.at c.count_one-at.result c.loop-stmt.shelf c.run_one.new.shelf left c.loop-stmt.invariant.reached
          c.run_one.ensures.asks.grows c.in_ok-run_one.ensures.answer c.count_one-at.ensures;
      ready = λ types known after ready.
          let so_far = c.loop-stmt.invariant.ready types known after ready in
          let first = ready_first (subst (λ block. Ready types so_far.0 after block c.loop-stmt.run.store) left so_far.1) in
          (first.mid, first.rest c.run_one.new.run.store c.in_ok-run_one.ensures.sized (c.in_ok-run_one.ensures.holds types so_far.0 first.mid first.one));
      first = omega (arith, c.loop-stmt.invariant.first);
      counted = grind (arith, common_steps, counted, c.count_one-at.ensures);
      sized = c.in_ok-run_one.ensures.sized ∙ c.loop-stmt.invariant.sized;
      fewer = omega (arith, c.run_one.ensures.fewer, c.loop-stmt.invariant.fewer);
      asks = asks_more c.loop-stmt.invariant.asks c.run_one.ensures.asks;
    }

pub run_all-returns-clause-answer : goal.run_all-returns-clause-answer
run_all-returns-clause-answer g t c =
    let none = drop_all c.loop-stmt.stmt-index c.args.block.now c.loop-stmt-test.false in
    λ files state agrees stands.
    let there = c.loop-stmt.invariant.reached files state agrees stands in
    (there.0, there.1, there.2 ∙ (ap (λ block. in_turn (map (exec_of files) block) c.loop-stmt.at there.0) none ∙ none_does c.loop-stmt.at files there.0))

pub run_all-returns-clause-holds : goal.run_all-returns-clause-holds
run_all-returns-clause-holds g t c =
    let none = drop_all c.loop-stmt.stmt-index c.args.block.now c.loop-stmt-test.false in
    λ types known after ready.
    let there = c.loop-stmt.invariant.ready types known after ready in
    ready_none (subst (λ block. Ready types there.0 after block c.loop-stmt.run.store) none there.1)

-- ---- a statement by its kind

pub run_one-assign-requires-clause-there : goal.run_one-assign-requires-clause-there
run_one-assign-requires-clause-there g t c =
    let r = c.requires.ready in
    (ready_assign c.in-Assign.target c.in-Assign.op c.in-Assign.args (subst (λ s. Ready r.0 r.1 r.2 (s ∷ []) c.args.run.now.store) c.in-Assign.is r.3)).there

pub run_one-assign-requires-clause-other : goal.run_one-assign-requires-clause-other
run_one-assign-requires-clause-other g t c =
    let r = c.requires.ready in
    (ready_assign c.in-Assign.target c.in-Assign.op c.in-Assign.args (subst (λ s. Ready r.0 r.1 r.2 (s ∷ []) c.args.run.now.store) c.in-Assign.is r.3)).other

pub run_one-assign-requires-clause-argued : goal.run_one-assign-requires-clause-argued
run_one-assign-requires-clause-argued g t c =
    let r = c.requires.ready in
    subst (λ args. Argued c.in-Assign.op args c.args.run.now.store) (sym c.as_slice.ensures)
    (ready_assign c.in-Assign.target c.in-Assign.op c.in-Assign.args (subst (λ s. Ready r.0 r.1 r.2 (s ∷ []) c.args.run.now.store) c.in-Assign.is r.3)).argued

pub run_one-write-requires-clause-write : goal.run_one-write-requires-clause-write
run_one-write-requires-clause-write g t c =
    let r = c.requires.ready in
    (ready_write c.in-Write.op c.in-Write.args (subst (λ s. Ready r.0 r.1 r.2 (s ∷ []) c.args.run.now.store) c.in-Write.is r.3)).write

pub run_one-write-requires-clause-argued : goal.run_one-write-requires-clause-argued
run_one-write-requires-clause-argued g t c =
    let r = c.requires.ready in
    subst (λ args. Argued c.in-Write.op args c.args.run.now.store) (sym c.as_slice-in-Write.ensures)
    (ready_write c.in-Write.op c.in-Write.args (subst (λ s. Ready r.0 r.1 r.2 (s ∷ []) c.args.run.now.store) c.in-Write.is r.3)).argued

pub run_one-decide-requires-clause-other : goal.run_one-decide-requires-clause-other
run_one-decide-requires-clause-other g t c =
    let r = c.requires.ready in
    (ready_if c.in-If.op c.in-If.args c.in-If.yes c.in-If.no (subst (λ s. Ready r.0 r.1 r.2 (s ∷ []) c.args.run.now.store) c.in-If.is r.3)).other

pub run_one-decide-requires-clause-argued : goal.run_one-decide-requires-clause-argued
run_one-decide-requires-clause-argued g t c =
    let r = c.requires.ready in
    subst (λ args. Argued c.in-If.op args c.args.run.now.store) (sym c.as_slice-in-If.ensures)
    (ready_if c.in-If.op c.in-If.args c.in-If.yes c.in-If.no (subst (λ s. Ready r.0 r.1 r.2 (s ∷ []) c.args.run.now.store) c.in-If.is r.3)).argued

pub run_one-returns-in_err-decide-in-If-clause-answer : goal.run_one-returns-in_err-decide-in-If-clause-answer
run_one-returns-in_err-decide-in-If-clause-answer g t c =
    let is : c.from_residual.result ≡ Err c.in_err-decide-in-If.field-0.0 = search rules in
    λ files state agrees stands.
    subst (LeavesRun ((exec_of files c.args.stmt.now).does c.args.number state) (λ _. goes_on) c.decide.new.run) (sym is)
    (leaves_as {A = ⊤} (λ _. goes_on) c.decide.new.run (Err c.in_err-decide-in-If.field-0.0)
    (ap (λ s. (exec_of files s).does c.args.number state) c.in-If.is ∙ ap (λ (doing : Doing). doing.does c.args.number state) (exec_of-If files c.in-If.op c.in-If.args c.in-If.yes c.in-If.no))
    (rw c.as_slice-in-If.ensures at (c.in_err-decide-in-If.ensures.answer files state
    (λ truth later. if truth then in_turn (map (exec_of files) c.in-If.yes) (c.args.number + 1) later
    else in_turn (map (exec_of files) c.in-If.no) (c.args.number + 1 + counts (map (exec_of files) c.in-If.yes)) later) agrees stands)))

pub run_one-run_all-requires : goal.run_one-run_all-requires
run_one-run_all-requires g t c κs within =
    let r = c.requires.ready in
    let branches = ready_if c.in-If.op c.in-If.args c.in-If.yes c.in-If.no (subst (λ s. Ready r.0 r.1 r.2 (s ∷ []) c.args.run.now.store) c.in-If.is r.3) in
    let room : c.args.number + (1 + count_of_all c.in-If.yes + count_of_all c.in-If.no) ≤ MAX_SCRIPT + 1 = rw (count_of-If c.in-If.op c.in-If.args c.in-If.yes c.in-If.no) at (rw c.in-If.is at c.requires.few) in
    let ready : Ready r.0 branches.inside branches.one c.as_slice-then-branch.result.now c.decide.new.run.store = rw (c.as_slice-then-branch.ensures, c.decide.ensures.store) branches.yes in
    (search (rules, the_lemmas), (search rules, (omega (arith, c.requires.counted), (rw c.as_slice-then-branch.ensures (omega (arith, room)), (r.0, branches.inside, branches.one, ready)))))

pub run_one-count_all-requires : goal.run_one-count_all-requires
run_one-count_all-requires g t c =
    let room : c.args.number + (1 + count_of_all c.in-If.yes + count_of_all c.in-If.no) ≤ MAX_SCRIPT + 1 = rw (count_of-If c.in-If.op c.in-If.args c.in-If.yes c.in-If.no) at (rw c.in-If.is at c.requires.few) in
    rw c.as_slice-else-branch.ensures (omega (arith, room, c.requires.counted))

pub run_one-run_all-requires-else-branch : goal.run_one-run_all-requires-else-branch
run_one-run_all-requires-else-branch g t c κs within =
    let r = c.requires.ready in
    let branches = ready_if c.in-If.op c.in-If.args c.in-If.yes c.in-If.no (subst (λ s. Ready r.0 r.1 r.2 (s ∷ []) c.args.run.now.store) c.in-If.is r.3) in
    let room : c.args.number + (1 + count_of_all c.in-If.yes + count_of_all c.in-If.no) ≤ MAX_SCRIPT + 1 = rw (count_of-If c.in-If.op c.in-If.args c.in-If.yes c.in-If.no) at (rw c.in-If.is at c.requires.few) in
    let count : c.count_all.result ≡ count_of_all c.in-If.yes = c.count_all.ensures ∙ ap count_of_all c.as_slice-else-branch.ensures in
    let ready : Ready r.0 (with_assigned branches.inside.assigned branches.one) branches.two c.as_slice-else-branch-2.result.now c.decide.new.run.store = rw (c.as_slice-else-branch-2.ensures, c.decide.ensures.store) branches.no in
    (search (rules, the_lemmas), (search rules, (omega (arith, c.requires.counted), (rw c.as_slice-else-branch-2.ensures (omega (arith, room, count)), (r.0, with_assigned branches.inside.assigned branches.one, branches.two, ready)))))

pub run_one-returns-in-Assign-clause-answer : goal.run_one-returns-in-Assign-clause-answer
run_one-returns-in-Assign-clause-answer g t c = λ files state agrees stands.
    leaves_as (λ _. goes_on) c.assign.new.run c.assign.result
    (ap (λ s. (exec_of files s).does c.args.number state) c.in-Assign.is ∙ ap (λ (doing : Doing). doing.does c.args.number state) (exec_of-Assign files c.in-Assign.target c.in-Assign.op c.in-Assign.args))
    (rw c.as_slice.ensures at (c.assign.ensures.answer files state agrees stands))

pub run_one-returns-in-Assign-clause-holds : goal.run_one-returns-in-Assign-clause-holds
run_one-returns-in-Assign-clause-holds g t c = λ types known after ready.
    let it = ready_assign c.in-Assign.target c.in-Assign.op c.in-Assign.args (subst (λ s. Ready types known after (s ∷ []) c.args.run.now.store) c.in-Assign.is ready) in
    on_ok_weaker c.assign.result
    (λ (put : (bag : BagOf) × (c.assign.new.run.store ≡ set c.args.run.now.store c.in-Assign.target bag) × IsMade c.in-Assign.op (inputs_in c.args.run.now.store c.in-Assign.args) bag).
    subst (StoreHolds types after) (sym put.1) (it.holds put.0 put.2)) (rw c.as_slice.ensures at c.assign.ensures.put)

pub run_one-returns-in-Write-clause-answer : goal.run_one-returns-in-Write-clause-answer
run_one-returns-in-Write-clause-answer g t c = λ files state agrees stands.
    leaves_as (λ _. goes_on) c.write.new.run c.write.result
    (ap (λ s. (exec_of files s).does c.args.number state) c.in-Write.is ∙ ap (λ (doing : Doing). doing.does c.args.number state) (exec_of-Write files c.in-Write.op c.in-Write.args))
    (rw c.as_slice-in-Write.ensures at (c.write.ensures.answer files state agrees stands))

pub run_one-returns-in-Write-clause-holds : goal.run_one-returns-in-Write-clause-holds
run_one-returns-in-Write-clause-holds g t c = λ types known after ready.
    let it = ready_write c.in-Write.op c.in-Write.args (subst (λ s. Ready types known after (s ∷ []) c.args.run.now.store) c.in-Write.is ready) in
    on_ok c.write.result (subst (StoreHolds types after) (sym c.write.ensures.store) it.holds)

pub run_one-returns-then-branch-clause-answer : goal.run_one-returns-then-branch-clause-answer
run_one-returns-then-branch-clause-answer g t c = λ files state agrees stands.
    leaves_as (λ _. goes_on) c.run_all.new.run c.run_all.result (ap (λ s. (exec_of files s).does c.args.number state) c.in-If.is)
    (branch_leaves c.in-If.op c.in-If.args c.in-If.yes c.in-If.no c.args.number true c.decide.new.shelf c.run_all.new.shelf c.run_all.new.run c.run_all.result (λ _. goes_on)
    (λ all now next agree stand. rw (c.as_slice-in-If.ensures, c.if-branch.true) at (c.in_ok-decide-in-If.ensures.answer all now next agree stand)) c.run_all.ensures.asks.grows
    (λ all now agree stand. rw c.as_slice-then-branch.ensures at (c.run_all.ensures.answer all now agree stand)) files state agrees stands)

pub run_one-returns-then-branch-clause-holds : goal.run_one-returns-then-branch-clause-holds
run_one-returns-then-branch-clause-holds g t c = λ types known after ready.
    let branches = ready_if c.in-If.op c.in-If.args c.in-If.yes c.in-If.no (subst (λ s. Ready types known after (s ∷ []) c.args.run.now.store) c.in-If.is ready) in
    let yes : Ready types branches.inside branches.one c.as_slice-then-branch.result.now c.decide.new.run.store = rw (c.as_slice-then-branch.ensures, c.decide.ensures.store) branches.yes in
    on_ok_weaker c.run_all.result (branches.after_yes c.run_all.new.run.store) (c.run_all.ensures.holds types branches.inside branches.one yes)

pub run_one-returns-then-branch-clause-asks : goal.run_one-returns-then-branch-clause-asks
run_one-returns-then-branch-clause-asks g t c = asks_more c.decide.ensures.asks c.run_all.ensures.asks

pub run_one-returns-else-branch-clause-answer : goal.run_one-returns-else-branch-clause-answer
run_one-returns-else-branch-clause-answer g t c =
    let count : c.count_all.result ≡ count_of_all c.in-If.yes = c.count_all.ensures ∙ ap count_of_all c.as_slice-else-branch.ensures in
    λ files state agrees stands.
    leaves_as (λ _. goes_on) c.run_all-else-branch.new.run c.run_all-else-branch.result (ap (λ s. (exec_of files s).does c.args.number state) c.in-If.is)
    (branch_leaves c.in-If.op c.in-If.args c.in-If.yes c.in-If.no c.args.number false c.decide.new.shelf c.run_all-else-branch.new.shelf c.run_all-else-branch.new.run c.run_all-else-branch.result (λ _. goes_on)
    (λ all now next agree stand. rw (c.as_slice-in-If.ensures, c.if-branch.false) at (c.in_ok-decide-in-If.ensures.answer all now next agree stand)) c.run_all-else-branch.ensures.asks.grows
    (λ all now agree stand. rw (c.as_slice-else-branch-2.ensures, count) at (c.run_all-else-branch.ensures.answer all now agree stand)) files state agrees stands)

pub run_one-returns-else-branch-clause-holds : goal.run_one-returns-else-branch-clause-holds
run_one-returns-else-branch-clause-holds g t c = λ types known after ready.
    let branches = ready_if c.in-If.op c.in-If.args c.in-If.yes c.in-If.no (subst (λ s. Ready types known after (s ∷ []) c.args.run.now.store) c.in-If.is ready) in
    let no : Ready types (with_assigned branches.inside.assigned branches.one) branches.two c.as_slice-else-branch-2.result.now c.decide.new.run.store = rw (c.as_slice-else-branch-2.ensures, c.decide.ensures.store) branches.no in
    on_ok_weaker c.run_all-else-branch.result (branches.after_no c.run_all-else-branch.new.run.store)
    (c.run_all-else-branch.ensures.holds types (with_assigned branches.inside.assigned branches.one) branches.two no)

pub run_one-returns-else-branch-clause-asks : goal.run_one-returns-else-branch-clause-asks
run_one-returns-else-branch-clause-asks g t c = asks_more c.decide.ensures.asks c.run_all-else-branch.ensures.asks

pub run_one-run_while-requires : goal.run_one-run_while-requires
run_one-run_while-requires g t c κs within =
    let r = c.requires.ready in
    let room : c.args.number + (1 + count_of_all c.in-While.body) ≤ MAX_SCRIPT + 1 = rw (count_of-While c.in-While.op c.in-While.args c.in-While.body) at (rw c.in-While.is at c.requires.few) in
    let ready : Ready r.0 r.1 r.2 (stmt.While c.in-While.op c.as_slice-in-While.result.now c.as_slice-in-While-2.result.now ∷ []) c.args.run.now.store =
    rw (c.as_slice-in-While.ensures, c.as_slice-in-While-2.ensures) (subst (λ s. Ready r.0 r.1 r.2 (s ∷ []) c.args.run.now.store) c.in-While.is r.3) in
    (search (rules, the_lemmas), (search rules, (c.requires.counted, (rw c.as_slice-in-While-2.ensures (omega (arith, room)), (r.0, r.1, r.2, ready)))))

pub run_one-returns-in-While-clause-answer : goal.run_one-returns-in-While-clause-answer
run_one-returns-in-While-clause-answer g t c = λ files state agrees stands.
    leaves_as (λ _. goes_on) c.run_while.new.run c.run_while.result
    (ap (λ s. (exec_of files s).does c.args.number state) c.in-While.is ∙ ap (λ (doing : Doing). doing.does c.args.number state) (exec_of-While files c.in-While.op c.in-While.args c.in-While.body))
    (rw (c.as_slice-in-While.ensures, c.as_slice-in-While-2.ensures) at (c.run_while.ensures.answer files state agrees stands))

-- ---- a loop

pub run_while-decide-requires-clause-other : goal.run_while-decide-requires-clause-other
run_while-decide-requires-clause-other g t c =
    let r = c.requires.ready in
    (ready_while c.args.op.now c.args.args.now c.args.body.now (c.turns.invariant.ready r.0 r.1 r.2 r.3)).other

pub run_while-decide-requires-clause-argued : goal.run_while-decide-requires-clause-argued
run_while-decide-requires-clause-argued g t c =
    let r = c.requires.ready in
    (ready_while c.args.op.now c.args.args.now c.args.body.now (c.turns.invariant.ready r.0 r.1 r.2 r.3)).argued

pub run_while-returns-in_err-decide-clause-answer : goal.run_while-returns-in_err-decide-clause-answer
run_while-returns-in_err-decide-clause-answer g t c =
    let is : c.from_residual.result ≡ Err c.in_err-decide.field-0.0 = search rules in
    λ files state agrees stands.
    subst (LeavesRun (turns state.left (by_condition files c.args.number c.args.op.now c.args.args.now) (in_turn (map (exec_of files) c.args.body.now) (c.args.number + 1)) state) (λ _. goes_on) c.decide.new.run) (sym is)
    (turned_fault c.args.op.now c.args.args.now c.args.body.now c.args.number c.turns.shelf c.decide.new.shelf c.in_err-decide.field-0.0 c.turns.invariant.turned
    c.decide.ensures.asks.grows c.in_err-decide.ensures.answer files state agrees stands)

pub run_while-returns-in_err-decide-clause-asks : goal.run_while-returns-in_err-decide-clause-asks
run_while-returns-in_err-decide-clause-asks g t c = asks_more c.turns.invariant.asks c.decide.ensures.asks

pub run_while-returns-then-not-branch-clause-answer : goal.run_while-returns-then-not-branch-clause-answer
run_while-returns-then-not-branch-clause-answer g t c = λ files state agrees stands.
    turned_end c.args.op.now c.args.args.now c.args.body.now c.args.number c.turns.shelf c.decide.new.shelf c.turns.invariant.turned c.decide.ensures.asks.grows
    (λ all now next agree stand. rw c.if-not-branch.true at (c.in_ok-decide.ensures.answer all now next agree stand)) files state agrees stands

pub run_while-returns-then-not-branch-clause-holds : goal.run_while-returns-then-not-branch-clause-holds
run_while-returns-then-not-branch-clause-holds g t c = λ types known after ready.
    subst (StoreHolds types after) (sym c.decide.ensures.store)
    (ready_while c.args.op.now c.args.args.now c.args.body.now (c.turns.invariant.ready types known after ready)).holds

pub run_while-returns-then-not-branch-clause-asks : goal.run_while-returns-then-not-branch-clause-asks
run_while-returns-then-not-branch-clause-asks g t c = asks_more c.turns.invariant.asks c.decide.ensures.asks

pub run_while-run_all-requires : goal.run_while-run_all-requires
run_while-run_all-requires g t c κs within =
    let r = c.requires.ready in
    let loops = ready_while c.args.op.now c.args.args.now c.args.body.now (c.turns.invariant.ready r.0 r.1 r.2 r.3) in
    let ready : Ready r.0 loops.inside loops.last c.args.body.now c.decide.new.run.store = rw c.decide.ensures.store loops.body in
    (search (rules, the_lemmas), (search rules, (omega (arith, c.requires.counted), (c.requires.few, (r.0, loops.inside, loops.last, ready)))))

pub run_while-turns-preserved : goal.run_while-turns-preserved
run_while-turns-preserved g t c =
    let enters = entered c.args.op.now c.args.args.now c.args.body.now c.args.number c.turns.shelf c.decide.new.shelf c.turns.invariant.turned c.decide.ensures.asks.grows
    (λ all now next agree stand. rw c.if-not-branch.false at (c.in_ok-decide.ensures.answer all now next agree stand)) c.in_ok-decide.ensures.taken in
    let sized : length c.run_all.new.run.store ≡ length c.turns.run.store = c.in_ok-run_all.ensures.sized ∙ ap length c.decide.ensures.store in
    record {
      turned = turned_more c.args.op.now c.args.args.now c.args.body.now c.args.number c.decide.new.shelf c.run_all.new.shelf c.turns.run enters
          c.run_all.ensures.asks.grows c.in_ok-run_all.ensures.answer (omega (arith, c.in_ok-decide.ensures.taken, c.run_all.ensures.fewer));
      ready = λ types known after ready.
          let loops = ready_while c.args.op.now c.args.args.now c.args.body.now (c.turns.invariant.ready types known after ready) in
          let body : Ready types loops.inside loops.last c.args.body.now c.decide.new.run.store = rw c.decide.ensures.store loops.body in
          loops.again c.run_all.new.run.store sized (c.in_ok-run_all.ensures.holds types loops.inside loops.last body);
      sized = sized ∙ c.turns.invariant.sized;
      fewer = omega (arith, c.run_all.ensures.fewer, c.decide.ensures.fewer, c.turns.invariant.fewer);
      asks = asks_more c.turns.invariant.asks (asks_more c.decide.ensures.asks c.run_all.ensures.asks);
    }

pub run_while-returns-in_err-run_all-clause-answer : goal.run_while-returns-in_err-run_all-clause-answer
run_while-returns-in_err-run_all-clause-answer g t c =
    let is : c.from_residual-in_err-run_all.result ≡ Err c.in_err-run_all.field-0.0 = search rules in
    let enters = entered c.args.op.now c.args.args.now c.args.body.now c.args.number c.turns.shelf c.decide.new.shelf c.turns.invariant.turned c.decide.ensures.asks.grows
    (λ all now next agree stand. rw c.if-not-branch.false at (c.in_ok-decide.ensures.answer all now next agree stand)) c.in_ok-decide.ensures.taken in
    λ files state agrees stands.
    subst (LeavesRun (turns state.left (by_condition files c.args.number c.args.op.now c.args.args.now) (in_turn (map (exec_of files) c.args.body.now) (c.args.number + 1)) state) (λ _. goes_on) c.run_all.new.run) (sym is)
    (turned_stop c.args.op.now c.args.args.now c.args.body.now c.args.number c.decide.new.shelf c.run_all.new.shelf c.turns.run c.in_err-run_all.field-0.0 enters
    c.run_all.ensures.asks.grows c.in_err-run_all.ensures.answer files state agrees stands)

pub run_while-returns-in_err-run_all-clause-asks : goal.run_while-returns-in_err-run_all-clause-asks
run_while-returns-in_err-run_all-clause-asks g t c = asks_more c.turns.invariant.asks (asks_more c.decide.ensures.asks c.run_all.ensures.asks)

-- ---- what else holds at each exit

pub run_all-returns-in_err-run_one-clause-holds : goal.run_all-returns-in_err-run_one-clause-holds
run_all-returns-in_err-run_one-clause-holds g t c =
    let is : c.from_residual.result ≡ Err c.in_err-run_one.field-0.0 = search rules in
    λ types known after ready. no_answer c.from_residual.result c.in_err-run_one.field-0.0 _ is

pub run_all-returns-in_err-run_one-clause-sized : goal.run_all-returns-in_err-run_one-clause-sized
run_all-returns-in_err-run_one-clause-sized g t c =
    let is : c.from_residual.result ≡ Err c.in_err-run_one.field-0.0 = search rules in
    no_answer c.from_residual.result c.in_err-run_one.field-0.0 _ is

pub run_all-returns-in_err-run_one-clause-fewer : goal.run_all-returns-in_err-run_one-clause-fewer
run_all-returns-in_err-run_one-clause-fewer g t c = omega (arith, c.run_one.ensures.fewer, c.loop-stmt.invariant.fewer)

pub run_all-returns-in_err-run_one-clause-failed : goal.run_all-returns-in_err-run_one-clause-failed
run_all-returns-in_err-run_one-clause-failed g t c =
    let is : c.from_residual.result ≡ Err c.in_err-run_one.field-0.0 = search rules in
    stopped_more c.from_residual.result c.in_err-run_one.field-0.0 _ _ _ is c.loop-stmt.invariant.asks.count c.in_err-run_one.ensures.failed

pub run_all-returns-clause-sized : goal.run_all-returns-clause-sized
run_all-returns-clause-sized g t c = c.loop-stmt.invariant.sized

pub run_all-returns-clause-fewer : goal.run_all-returns-clause-fewer
run_all-returns-clause-fewer g t c = c.loop-stmt.invariant.fewer

pub run_all-returns-clause-asks : goal.run_all-returns-clause-asks
run_all-returns-clause-asks g t c = c.loop-stmt.invariant.asks

pub run_one-returns-in_err-decide-in-If-clause-holds : goal.run_one-returns-in_err-decide-in-If-clause-holds
run_one-returns-in_err-decide-in-If-clause-holds g t c =
    let is : c.from_residual.result ≡ Err c.in_err-decide-in-If.field-0.0 = search rules in
    λ types known after ready. no_answer c.from_residual.result c.in_err-decide-in-If.field-0.0 _ is

pub run_one-returns-in_err-decide-in-If-clause-sized : goal.run_one-returns-in_err-decide-in-If-clause-sized
run_one-returns-in_err-decide-in-If-clause-sized g t c =
    let is : c.from_residual.result ≡ Err c.in_err-decide-in-If.field-0.0 = search rules in
    no_answer c.from_residual.result c.in_err-decide-in-If.field-0.0 _ is

pub run_one-returns-in_err-decide-in-If-clause-fewer : goal.run_one-returns-in_err-decide-in-If-clause-fewer
run_one-returns-in_err-decide-in-If-clause-fewer g t c = c.decide.ensures.fewer

pub run_one-returns-in_err-decide-in-If-clause-asks : goal.run_one-returns-in_err-decide-in-If-clause-asks
run_one-returns-in_err-decide-in-If-clause-asks g t c = c.decide.ensures.asks

pub run_one-returns-in_err-decide-in-If-clause-failed : goal.run_one-returns-in_err-decide-in-If-clause-failed
run_one-returns-in_err-decide-in-If-clause-failed g t c =
    let is : c.from_residual.result ≡ Err c.in_err-decide-in-If.field-0.0 = search rules in
    stopped_as c.from_residual.result c.in_err-decide-in-If.field-0.0 _ is c.in_err-decide-in-If.ensures.failed

pub run_one-returns-in-Assign-clause-fewer : goal.run_one-returns-in-Assign-clause-fewer
run_one-returns-in-Assign-clause-fewer g t c = omega (arith, c.assign.ensures.kept)

pub run_one-returns-in-Assign-clause-asks : goal.run_one-returns-in-Assign-clause-asks
run_one-returns-in-Assign-clause-asks g t c = c.assign.ensures.asks

pub run_one-returns-in-Assign-clause-failed : goal.run_one-returns-in-Assign-clause-failed
run_one-returns-in-Assign-clause-failed g t c = c.assign.ensures.failed

pub run_one-returns-in-Write-clause-sized : goal.run_one-returns-in-Write-clause-sized
run_one-returns-in-Write-clause-sized g t c = on_ok c.write.result (ap length c.write.ensures.store)

pub run_one-returns-in-Write-clause-fewer : goal.run_one-returns-in-Write-clause-fewer
run_one-returns-in-Write-clause-fewer g t c = omega (arith, c.write.ensures.kept)

pub run_one-returns-in-Write-clause-asks : goal.run_one-returns-in-Write-clause-asks
run_one-returns-in-Write-clause-asks g t c = c.write.ensures.asks

pub run_one-returns-in-Write-clause-failed : goal.run_one-returns-in-Write-clause-failed
run_one-returns-in-Write-clause-failed g t c = c.write.ensures.failed

pub run_one-returns-then-branch-clause-sized : goal.run_one-returns-then-branch-clause-sized
run_one-returns-then-branch-clause-sized g t c =
    on_ok_weaker c.run_all.result (λ (same : length c.run_all.new.run.store ≡ length c.decide.new.run.store). same ∙ ap length c.decide.ensures.store) c.run_all.ensures.sized

pub run_one-returns-then-branch-clause-fewer : goal.run_one-returns-then-branch-clause-fewer
run_one-returns-then-branch-clause-fewer g t c = omega (arith, c.run_all.ensures.fewer, c.decide.ensures.fewer)

pub run_one-returns-then-branch-clause-failed : goal.run_one-returns-then-branch-clause-failed
run_one-returns-then-branch-clause-failed g t c = failed_more c.run_all.result _ _ _ c.decide.ensures.asks.count c.run_all.ensures.failed

pub run_one-returns-else-branch-clause-sized : goal.run_one-returns-else-branch-clause-sized
run_one-returns-else-branch-clause-sized g t c =
    on_ok_weaker c.run_all-else-branch.result (λ (same : length c.run_all-else-branch.new.run.store ≡ length c.decide.new.run.store). same ∙ ap length c.decide.ensures.store) c.run_all-else-branch.ensures.sized

pub run_one-returns-else-branch-clause-fewer : goal.run_one-returns-else-branch-clause-fewer
run_one-returns-else-branch-clause-fewer g t c = omega (arith, c.run_all-else-branch.ensures.fewer, c.decide.ensures.fewer)

pub run_one-returns-else-branch-clause-failed : goal.run_one-returns-else-branch-clause-failed
run_one-returns-else-branch-clause-failed g t c = failed_more c.run_all-else-branch.result _ _ _ c.decide.ensures.asks.count c.run_all-else-branch.ensures.failed

pub run_one-returns-in-While-clause-holds : goal.run_one-returns-in-While-clause-holds
run_one-returns-in-While-clause-holds g t c = λ types known after ready.
    c.run_while.ensures.holds types known after
    (rw (c.as_slice-in-While.ensures, c.as_slice-in-While-2.ensures) (subst (λ s. Ready types known after (s ∷ []) c.args.run.now.store) c.in-While.is ready))

pub run_one-returns-in-While-clause-sized : goal.run_one-returns-in-While-clause-sized
run_one-returns-in-While-clause-sized g t c = c.run_while.ensures.sized

pub run_one-returns-in-While-clause-fewer : goal.run_one-returns-in-While-clause-fewer
run_one-returns-in-While-clause-fewer g t c = c.run_while.ensures.fewer

pub run_one-returns-in-While-clause-asks : goal.run_one-returns-in-While-clause-asks
run_one-returns-in-While-clause-asks g t c = c.run_while.ensures.asks

pub run_one-returns-in-While-clause-failed : goal.run_one-returns-in-While-clause-failed
run_one-returns-in-While-clause-failed g t c = c.run_while.ensures.failed

pub run_while-returns-in_err-decide-clause-holds : goal.run_while-returns-in_err-decide-clause-holds
run_while-returns-in_err-decide-clause-holds g t c =
    let is : c.from_residual.result ≡ Err c.in_err-decide.field-0.0 = search rules in
    λ types known after ready. no_answer c.from_residual.result c.in_err-decide.field-0.0 _ is

pub run_while-returns-in_err-decide-clause-sized : goal.run_while-returns-in_err-decide-clause-sized
run_while-returns-in_err-decide-clause-sized g t c =
    let is : c.from_residual.result ≡ Err c.in_err-decide.field-0.0 = search rules in
    no_answer c.from_residual.result c.in_err-decide.field-0.0 _ is

pub run_while-returns-in_err-decide-clause-fewer : goal.run_while-returns-in_err-decide-clause-fewer
run_while-returns-in_err-decide-clause-fewer g t c = omega (arith, c.decide.ensures.fewer, c.turns.invariant.fewer)

pub run_while-returns-in_err-decide-clause-failed : goal.run_while-returns-in_err-decide-clause-failed
run_while-returns-in_err-decide-clause-failed g t c =
    let is : c.from_residual.result ≡ Err c.in_err-decide.field-0.0 = search rules in
    stopped_more c.from_residual.result c.in_err-decide.field-0.0 _ _ _ is c.turns.invariant.asks.count c.in_err-decide.ensures.failed

pub run_while-returns-then-not-branch-clause-sized : goal.run_while-returns-then-not-branch-clause-sized
run_while-returns-then-not-branch-clause-sized g t c = ap length c.decide.ensures.store ∙ c.turns.invariant.sized

pub run_while-returns-then-not-branch-clause-fewer : goal.run_while-returns-then-not-branch-clause-fewer
run_while-returns-then-not-branch-clause-fewer g t c = omega (arith, c.decide.ensures.fewer, c.turns.invariant.fewer)

pub run_while-returns-in_err-run_all-clause-holds : goal.run_while-returns-in_err-run_all-clause-holds
run_while-returns-in_err-run_all-clause-holds g t c =
    let is : c.from_residual-in_err-run_all.result ≡ Err c.in_err-run_all.field-0.0 = search rules in
    λ types known after ready. no_answer c.from_residual-in_err-run_all.result c.in_err-run_all.field-0.0 _ is

pub run_while-returns-in_err-run_all-clause-sized : goal.run_while-returns-in_err-run_all-clause-sized
run_while-returns-in_err-run_all-clause-sized g t c =
    let is : c.from_residual-in_err-run_all.result ≡ Err c.in_err-run_all.field-0.0 = search rules in
    no_answer c.from_residual-in_err-run_all.result c.in_err-run_all.field-0.0 _ is

pub run_while-returns-in_err-run_all-clause-fewer : goal.run_while-returns-in_err-run_all-clause-fewer
run_while-returns-in_err-run_all-clause-fewer g t c = omega (arith, c.run_all.ensures.fewer, c.decide.ensures.fewer, c.turns.invariant.fewer)

pub run_while-returns-in_err-run_all-clause-failed : goal.run_while-returns-in_err-run_all-clause-failed
run_while-returns-in_err-run_all-clause-failed g t c =
    let is : c.from_residual-in_err-run_all.result ≡ Err c.in_err-run_all.field-0.0 = search rules in
    stopped_more c.from_residual-in_err-run_all.result c.in_err-run_all.field-0.0 _ _ _ is (asks_more c.turns.invariant.asks c.decide.ensures.asks).count c.in_err-run_all.ensures.failed
