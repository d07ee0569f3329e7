-- One block: its operators do what its steps do.
use Rattle.std.proofs.Common.{◌≡◌, ◌∙◌, ◌<◌, ◌≤◌, ◌+◌, ◌-◌, ℕ, zero, suc, List, [], ◌∷◌, ◌++◌, length, map, get_or, ap, sym, subst, refl, arith, true, false, Option, Some, None, Result, Ok, Err}
use Rattle.std.specs.Prelude.{filter_map, option_and_then}
use Rattle.std.specs.List.{cons_option, range_with_len}
use Rattle.std.proofs.lemmas.List.{append-nil, append_assoc, get_or_push, length_push}
use Rattle.mit_rows.specs.Bags.{BagOf}
use Rattle.mit_files.specs.Printed.{Write}
use Rattle.mit_ops.specs.Answers.{BagOrFault}
use Rattle.mit_ops.specs.Operators.{name_written, whole}
use Rattle.mit_ops.specs.declared.faults.OpFault.{OpFault}
use Rattle.mit_ops.specs.declared.faults.ScriptFault.{ScriptFault}
use Rattle.mit_ops.specs.declared.kinds.OpSpec.{OpSpec}
use Rattle.mit_ops.specs.declared.kinds.OpSpec.TheVariants as op
use Rattle.mit_script.specs.Execution.{ScriptState}
use Rattle.mit_script.specs.Trees.{is_scalar, is_write}
use Rattle.mit_cfg.specs.Walk.{Reached, after_step, does, entered, state_with_bag, with_step_bag}
use Rattle.mit_cfg.specs.declared.block.Block.{Block as Code}
use Rattle.mit_cfg.specs.declared.block.Step.{Step}
use Rattle.mit_plan.specs.Explained.{Explained}
use Rattle.mit_plan.specs.Held.{History, Job, Part, as_part, decisions_before, held, lists_of, ok, op_of}
use Rattle.mit_plan.specs.Meant.{Pair, fault_at, fault_in, made, pair, write_at, write_of}
use Rattle.mit_plan.specs.Plans.{block_at, is_phi, op_at}
use Rattle.mit_plan.specs.Sums.{TakesBags, bag_at, spec_at}
use Rattle.mit_plan.specs.Valid.{last_of}
use Rattle.mit_plan.specs.declared.plan.PlanOp.{PlanOp}
use Rattle.mit_ssa.specs.Reaching.{IsBlockOf, IsDecided, IsPhi, IsStep, Reaching, no_step}
use Rattle.mit_meaning.proofs.Good.{Good, IsPair, OneOperator, stored}
use Rattle.mit_meaning.proofs.Copies.{taken_bag, whole_copy}
use Rattle.mit_meaning.proofs.PlanLaws.{PlanLaws}

-- ---- a place of a history

-- what the proofs of a place take: its parts are what their operators make, and one operator does what it must
pub record PlaceFacts (job : Job) (code : List Code) (known : Reaching) (history : History) (place : ℕ) : Type 0 where
  pub some : 0 < job.partitions
  pub one : OneOperator job code known
  pub explained : Explained job history
  pub below : place < length history.path

-- the block there, and an operator of it
abbrev pub block_there : Job → History → ℕ → ℕ
block_there job history place = get_or history.path place 0

abbrev pub count_there : Job → History → ℕ → ℕ
count_there job history place = (block_at job.plan (block_there job history place)).count

abbrev pub op_there : Job → History → ℕ → ℕ → PlanOp
op_there job history place index = op_at job.plan (op_of job.plan history.path place index)

-- what an operator made
fault_is : (job : Job) (history : History) (place index : ℕ) (answer : BagOrFault) → made history (pair place index) ≡ answer
    → fault_at job.plan history (pair place index) ≡ fault_in answer (op_there job history place index).statement (decisions_before job.plan history.path place)
fault_is job history place index answer is =
    ap (λ (some : BagOrFault). fault_in some (op_there job history place index).statement (decisions_before job.plan history.path place)) is

-- ---- writes

-- only a write has a name
not_named : (spec : OpSpec) (lists : Option (List BagOf)) (part : Part) → is_write spec ≡ false → write_of (option_and_then (name_written spec) lists) part ≡ None
not_named (op.Write name) lists part plain = absurd cc
not_named other None part plain = refl
not_named other (Some lists) part plain = refl

no_name : (spec : OpSpec) (bags : List BagOf) → is_write spec ≡ false → name_written spec bags ≡ None
no_name (op.Write name) bags plain = absurd cc
no_name other bags plain = refl

write_none : (job : Job) (history : History) (place index : ℕ) → is_write (spec_at job history place index) ≡ false → write_at job history (pair place index) ≡ None
write_none job history place index plain =
    not_named (spec_at job history place index) (lists_of job history (op_of job.plan history.path place index) place 0) (held history place index 0) plain

-- an operator writes its bag, where it has a name
write_there : PlanLaws → (job : Job) (code : List Code) (known : Reaching) (history : History) (place index : ℕ) (columns : ℕ → ℕ) (bags : List BagOf) (bag : BagOf) (spec : OpSpec)
    → PlaceFacts job code known history place → TakesBags job history place index columns bags → spec_at job history place index ≡ spec → whole spec bags job.files ≡ Ok bag
    → write_at job history (pair place index) ≡ write_of (name_written spec bags) (ok bag)
write_there laws job code known history place index columns bags bag (op.Write name) placed takes is made =
    laws.write job history place index columns bags name placed.explained placed.some takes is
    ∙ ap (λ (answer : BagOrFault). write_of (name_written (op.Write name) bags) (as_part answer)) made
write_there laws job code known history place index columns bags bag other placed takes is made =
    write_none job history place index (ap is_write is)

-- ---- what is found at the pairs of a place

-- at so many pairs, from an index on
abbrev pub found_in : {X : Type 0} → (Pair → Option X) → ℕ → ℕ → ℕ → List X
found_in f place index many = filter_map f (map (pair place) (range_with_len index many))

found_first : {X : Type 0} (f : Pair → Option X) (place index many : ℕ) → found_in f place index (suc many) ≡ cons_option (f (pair place index)) (found_in f place (suc index) many)
found_first f place index many =
    let e : index + 1 ≡ suc index = omega arith in
    ap (λ (k : ℕ). cons_option (f (pair place index)) (filter_map f (map (pair place) (range_with_len k many)))) e

-- behind an operator of a step its bag is the one that was reached; a scalar is it in partition 0
abbrev pub Behind : Job → History → ℕ → ℕ → Reached → Type 0
Behind job history place index reached = (before : ℕ) → index ≡ suc before → is_phi (op_there job history place before) ≡ false
    → is_scalar (spec_at job history place before) ≡ true
    → (held history place before 0 ≡ ok reached.bag) × ((op_there job history place before).statement ≡ reached.statement)

-- so many operators from an index on did what leads from a state to what was reached
pub record Ran (job : Job) (known : Reaching) (history : History) (place index many : ℕ) (state : ScriptState) (reached : Reached) : Type 0 where
  pub quiet : found_in (fault_at job.plan history) place index many ≡ []
  pub writes : reached.state.writes ≡ state.writes ++ found_in (write_at job history) place index many
  pub used : reached.state.used ≡ state.used
  pub left : reached.state.left ≡ state.left
  pub good : Good job known history place (index + many) reached.state.store
  pub last : Behind job history place (index + many) reached

-- or their first fault is the one that was met
abbrev pub Comes : Job → Reaching → History → ℕ → ℕ → ℕ → ScriptState → Result Reached ScriptFault → Type 0
Comes job known history place index many state (Ok reached) = Ran job known history place index many state reached
Comes job known history place index many state (Err fault) = (later : List ScriptFault) × (found_in (fault_at job.plan history) place index many ≡ fault ∷ later)

-- one operator without a fault, and those behind it
pub comes_on : (job : Job) (known : Reaching) (history : History) (place index many : ℕ) (state after : ScriptState) (wrote : List Write) (result : Result Reached ScriptFault)
    → fault_at job.plan history (pair place index) ≡ None → ((later : List Write) → cons_option (write_at job history (pair place index)) later ≡ wrote ++ later)
    → after.writes ≡ state.writes ++ wrote → after.used ≡ state.used → after.left ≡ state.left
    → Comes job known history place (suc index) many after result → Comes job known history place index (suc many) state result
comes_on job known history place index many state after wrote (Err fault) none write writes used left comes = (
  comes.0,
  found_first (fault_at job.plan history) place index many
      ∙ ap (λ (one : Option ScriptFault). cons_option one (found_in (fault_at job.plan history) place (suc index) many)) none
      ∙ comes.1,
)
comes_on job known history place index many state after wrote (Ok reached) none write writes used left ran =
    let e : suc index + many ≡ index + suc many = omega arith in
    let more = found_in (write_at job history) place (suc index) many in
    record {
      quiet = found_first (fault_at job.plan history) place index many
          ∙ ap (λ (one : Option ScriptFault). cons_option one (found_in (fault_at job.plan history) place (suc index) many)) none
          ∙ ran.quiet;
      writes = ran.writes ∙ ap (λ (before : List Write). before ++ more) writes
          ∙ append_assoc state.writes wrote more
          ∙ ap (λ (behind : List Write). state.writes ++ behind) (sym (found_first (write_at job history) place index many ∙ write more));
      used = ran.used ∙ used;
      left = ran.left ∙ left;
      good = subst (λ (k : ℕ). Good job known history place k reached.state.store) e ran.good;
      last = subst (λ (k : ℕ). Behind job history place k reached) e ran.last;
    }

-- ---- phis

-- a phi gives the bag of its variable, and the store stays
phi_comes : PlanLaws → (job : Job) (code : List Code) (known : Reaching) (history : History) (place index many : ℕ) (state : ScriptState) (result : Result Reached ScriptFault)
    → PlaceFacts job code known history place → index < count_there job history place → IsPhi job.plan known (block_there job history place) index
    → Good job known history place index state.store
    → (Good job known history place (suc index) state.store → Comes job known history place (suc index) many state result)
    → Comes job known history place index (suc many) state result
phi_comes laws job code known history place index many state result placed stands phi good later =
    let standing : IsPair job.plan history.path place index = (placed.below, stands) in
    let bag = state.store phi.variable in
    let taken = placed.one.phi history place index state.store standing phi good in
    let sorted = taken_bag laws job history place index taken.0 bag taken.1 in
    let made_bag : made history (pair place index) ≡ Ok bag =
    laws.makes job history place index taken.0 (bag ∷ []) placed.explained placed.some taken.1
    ∙ ap (λ (spec : OpSpec). whole spec (bag ∷ []) job.files) phi.spec ∙ whole_copy laws job.files bag sorted in
    let there = laws.ok job history place index taken.0 (bag ∷ []) bag placed.explained placed.some taken.1 made_bag in
    let silent = write_none job history place index (ap is_write phi.spec) in
    comes_on job known history place index many state state [] result
    (fault_is job history place index (Ok bag) made_bag) (λ behind. ap (λ (one : Option Write). cons_option one behind) silent)
    (sym (append-nil state.writes)) refl refl
    (later (placed.one.kept history place index state.store standing phi there good))

-- phis in a row, and what comes behind them
phis_come : PlanLaws → (job : Job) (code : List Code) (known : Reaching) (history : History) (place index phis many : ℕ) (state : ScriptState) (result : Result Reached ScriptFault)
    → PlaceFacts job code known history place → index + phis ≤ count_there job history place
    → ((k : ℕ) → k < phis → IsPhi job.plan known (block_there job history place) (index + k))
    → Good job known history place index state.store
    → (Good job known history place (index + phis) state.store → Comes job known history place (index + phis) many state result)
    → Comes job known history place index (phis + many) state result
phis_come laws job code known history place index zero many state result placed stands are good later =
    let e : index + 0 ≡ index = omega arith in
    let n : many ≡ 0 + many = omega arith in
    subst (λ (count : ℕ). Comes job known history place index count state result) n
    (subst (λ (k : ℕ). Comes job known history place k many state result) e
    (later (subst (λ (k : ℕ). Good job known history place k state.store) (sym e) good)))
phis_come laws job code known history place index (suc phis) many state result placed stands are good later =
    let z : index + 0 ≡ index = omega arith in
    let s : suc index + phis ≡ index + suc phis = omega arith in
    let n : suc (phis + many) ≡ suc phis + many = omega arith in
    subst (λ (count : ℕ). Comes job known history place index count state result) n
    (phi_comes laws job code known history place index (phis + many) state result placed (omega (arith, stands))
    (subst (IsPhi job.plan known (block_there job history place)) z (are 0 (omega arith))) good
    (λ next. phis_come laws job code known history place (suc index) phis many state result placed (omega (arith, stands))
    (λ k below. let e : index + suc k ≡ suc index + k = omega arith in subst (IsPhi job.plan known (block_there job history place)) e (are (suc k) (omega (arith, below)))) next
    (λ last. subst (λ (k : ℕ). Comes job known history place k many state result) (sym s) (later (subst (λ (k : ℕ). Good job known history place k state.store) s last)))))

-- ---- steps

-- what a bag that is kept adds to the writes
abbrev added_write : Option ℕ → Option (List ℕ) → BagOf → List Write
added_write (Some target) name bag = []
added_write None (Some name) bag = record { name = name; bag = bag } ∷ []
added_write None None bag = []

kept_writes : (target : Option ℕ) (name : Option (List ℕ)) (state : ScriptState) (bag : BagOf) → (state_with_bag target name state bag).writes ≡ state.writes ++ added_write target name bag
kept_writes (Some target) name state bag = sym (append-nil state.writes)
kept_writes None (Some name) state bag = refl
kept_writes None None state bag = sym (append-nil state.writes)

kept_store : (target : Option ℕ) (name : Option (List ℕ)) (state : ScriptState) (bag : BagOf) → (state_with_bag target name state bag).store ≡ stored target bag state.store
kept_store (Some target) name state bag = refl
kept_store None (Some name) state bag = refl
kept_store None None state bag = refl

kept_used : (target : Option ℕ) (name : Option (List ℕ)) (state : ScriptState) (bag : BagOf) → (state_with_bag target name state bag).used ≡ state.used
kept_used (Some target) name state bag = refl
kept_used None (Some name) state bag = refl
kept_used None None state bag = refl

kept_left : (target : Option ℕ) (name : Option (List ℕ)) (state : ScriptState) (bag : BagOf) → (state_with_bag target name state bag).left ≡ state.left
kept_left (Some target) name state bag = refl
kept_left None (Some name) state bag = refl
kept_left None None state bag = refl

-- what is assigned has no name
kept_write : (target : Option ℕ) (name : Option (List ℕ)) (bag : BagOf) (later : List Write) → ((some : ℕ) → target ≡ Some some → name ≡ None)
    → cons_option (write_of name (ok bag)) later ≡ added_write target name bag ++ later
kept_write (Some target) None bag later plain = refl
kept_write (Some target) (Some name) bag later plain = let none = plain target refl in absurd cc
kept_write None (Some name) bag later plain = refl
kept_write None None bag later plain = refl

-- a scalar is the part in partition 0
scalar_is : PlanLaws → (job : Job) (code : List Code) (known : Reaching) (history : History) (place index : ℕ) (columns : ℕ → ℕ) (bags : List BagOf) (bag : BagOf) (spec : OpSpec)
    → PlaceFacts job code known history place → TakesBags job history place index columns bags → spec_at job history place index ≡ spec → whole spec bags job.files ≡ Ok bag
    → is_scalar spec ≡ true → held history place index 0 ≡ ok bag
scalar_is laws job code known history place index columns bags bag (op.Scalar expr) placed takes is made scalar =
    laws.decides job history place index columns bags expr placed.explained placed.some takes is ∙ ap as_part made
scalar_is laws job code known history place index columns bags bag other placed takes is made scalar = absurd cc

-- the operator of a step that gives a bag
bag_comes : PlanLaws → (job : Job) (code : List Code) (known : Reaching) (history : History) (place index many : ℕ) (step : Step) (state : ScriptState) (bag : BagOf) (result : Result Reached ScriptFault)
    → PlaceFacts job code known history place → index < count_there job history place → IsStep job.plan known (block_there job history place) index step
    → Good job known history place index state.store → whole step.op (map state.store step.args) job.files ≡ Ok bag
    → (Good job known history place (suc index) (after_step step state bag).state.store → Behind job history place (suc index) (after_step step state bag)
    → Comes job known history place (suc index) many (after_step step state bag).state result)
    → Comes job known history place index (suc many) state result
bag_comes laws job code known history place index many step state bag result placed stands is good gives later =
    let standing : IsPair job.plan history.path place index = (placed.below, stands) in
    let bags = map state.store step.args in
    let name = name_written step.op bags in
    let taken = placed.one.step history place index state.store step standing is good in
    let made_bag : made history (pair place index) ≡ Ok bag =
    laws.makes job history place index taken.0 bags placed.explained placed.some taken.1
    ∙ ap (λ (spec : OpSpec). whole spec bags job.files) is.spec ∙ gives in
    let there = laws.ok job history place index taken.0 bags bag placed.explained placed.some taken.1 made_bag in
    let wrote = write_there laws job code known history place index taken.0 bags bag step.op placed taken.1 is.spec gives in
    comes_on job known history place index many state (after_step step state bag).state (added_write step.target name bag) result
    (fault_is job history place index (Ok bag) made_bag)
    (λ behind. ap (λ (one : Option Write). cons_option one behind) wrote ∙ kept_write step.target name bag behind (λ target assigned. no_name step.op bags (is.assigns target assigned)))
    (kept_writes step.target name state bag) (kept_used step.target name state bag) (kept_left step.target name state bag)
    (later (next there) behind)
  where
    next : bag_at job history place index ≡ Some bag → Good job known history place (suc index) (after_step step state bag).state.store
    next there =
        subst (Good job known history place (suc index))
        (ap (λ (target : Option ℕ). stored target bag state.store) is.defines ∙ sym (kept_store step.target (name_written step.op (map state.store step.args)) state bag))
        (placed.one.more history place index state.store bag (placed.below, stands) there good)

    behind : Behind job history place (suc index) (after_step step state bag)
    behind before same plain scalar =
        let e : index ≡ before = omega (arith, same) in
        let taken = placed.one.step history place index state.store step (placed.below, stands) is good in
        let own : is_scalar step.op ≡ true = ap is_scalar (sym is.spec) ∙ ap (λ (k : ℕ). is_scalar (spec_at job history place k)) e ∙ scalar in (
          ap (λ (k : ℕ). held history place k 0) (sym e)
              ∙ scalar_is laws job code known history place index taken.0 (map state.store step.args) bag step.op placed taken.1 is.spec gives own,
          ap (λ (k : ℕ). (op_there job history place k).statement) (sym e) ∙ is.statement,
        )

-- the operator of a step that is at fault
fault_comes : PlanLaws → (job : Job) (code : List Code) (known : Reaching) (history : History) (place index many : ℕ) (step : Step) (state : ScriptState) (fault : OpFault)
    → PlaceFacts job code known history place → index < count_there job history place → IsStep job.plan known (block_there job history place) index step
    → Good job known history place index state.store → decisions_before job.plan history.path place ≡ state.used
    → whole step.op (map state.store step.args) job.files ≡ Err fault
    → Comes job known history place index (suc many) state (Err (record { statement = step.statement; decisions = state.used; kind = fault.kind }))
fault_comes laws job code known history place index many step state fault placed stands is good used gives =
    let bags = map state.store step.args in
    let taken = placed.one.step history place index state.store step (placed.below, stands) is good in
    let made_fault : made history (pair place index) ≡ Err fault =
    laws.makes job history place index taken.0 bags placed.explained placed.some taken.1
    ∙ ap (λ (spec : OpSpec). whole spec bags job.files) is.spec ∙ gives in
    let first = fault_is job history place index (Err fault) made_fault
    ∙ ap (λ (statement : ℕ). fault_in (Err fault) statement (decisions_before job.plan history.path place)) is.statement
    ∙ ap (λ (decisions : ℕ). fault_in (Err fault) step.statement decisions) used in (
      found_in (fault_at job.plan history) place (suc index) many,
      found_first (fault_at job.plan history) place index many
          ∙ ap (λ (one : Option ScriptFault). cons_option one (found_in (fault_at job.plan history) place (suc index) many)) first,
    )

-- steps in a row
steps_come : PlanLaws → (job : Job) (code : List Code) (known : Reaching) (history : History) (place index : ℕ) (steps : List Step) (reached : Reached)
    → PlaceFacts job code known history place → index + length steps ≤ count_there job history place
    → ((k : ℕ) → k < length steps → IsStep job.plan known (block_there job history place) (index + k) (get_or steps k no_step))
    → Good job known history place index reached.state.store → decisions_before job.plan history.path place ≡ reached.state.used
    → Behind job history place index reached
    → Comes job known history place index (length steps) reached.state (does job.files steps reached)
unfolding does
steps_come laws job code known history place index [] reached placed stands are good used last =
    let e : index ≡ index + 0 = omega arith in
    record {
      quiet = refl;
      writes = sym (append-nil reached.state.writes);
      used = refl;
      left = refl;
      good = subst (λ (k : ℕ). Good job known history place k reached.state.store) e good;
      last = subst (λ (k : ℕ). Behind job history place k reached) e last;
    }
steps_come laws job code known history place index (step ∷ steps) reached placed stands are good used last =
    by_answer (whole step.op (map reached.state.store step.args) job.files) refl
    (λ bag next behind. steps_come laws job code known history place (suc index) steps (after_step step reached.state bag) placed (omega (arith, stands))
    (λ k below. let e : index + suc k ≡ suc index + k = omega arith in
    subst (λ (at : ℕ). IsStep job.plan known (block_there job history place) at (get_or steps k no_step)) e (are (suc k) (omega (arith, below))))
    next (used ∙ sym (kept_used step.target (name_written step.op (map reached.state.store step.args)) reached.state bag)) behind)
  where
    is : IsStep job.plan known (block_there job history place) index step
    is = let e : index + 0 ≡ index = omega arith in
        subst (λ (at : ℕ). IsStep job.plan known (block_there job history place) at step) e (are 0 (omega arith))

    by_answer : (answer : BagOrFault) → whole step.op (map reached.state.store step.args) job.files ≡ answer
        → ((bag : BagOf) → Good job known history place (suc index) (after_step step reached.state bag).state.store → Behind job history place (suc index) (after_step step reached.state bag)
        → Comes job known history place (suc index) (length steps) (after_step step reached.state bag).state (does job.files steps (after_step step reached.state bag)))
        → Comes job known history place index (suc (length steps)) reached.state
        (with_step_bag step reached.state answer (λ bag. does job.files steps (after_step step reached.state bag)))
    by_answer (Ok bag) gives later =
        bag_comes laws job code known history place index (length steps) step reached.state bag (does job.files steps (after_step step reached.state bag)) placed (omega (arith, stands)) is good gives (later bag)
    by_answer (Err fault) gives later =
        fault_comes laws job code known history place index (length steps) step reached.state fault placed (omega (arith, stands)) is good used gives

-- ---- a whole block

-- the operators of a place come to what the steps of its block come to
pub block_comes : PlanLaws → (job : Job) (code : List Code) (known : Reaching) (history : History) (place : ℕ) (block : Code) (state : ScriptState)
    → PlaceFacts job code known history place → IsBlockOf job.plan known (block_there job history place) block
    → Good job known history place 0 state.store → decisions_before job.plan history.path place ≡ state.used
    → Comes job known history place 0 (count_there job history place) state (does job.files block.steps (entered state))
block_comes laws job code known history place block state placed is good used =
    let z : 0 + is.phis ≡ is.phis = omega arith in
    let count = is.count in
    subst (λ (many : ℕ). Comes job known history place 0 many state (does job.files block.steps (entered state))) (sym count)
    (phis_come laws job code known history place 0 is.phis (length block.steps) state (does job.files block.steps (entered state)) placed (omega (arith, count))
    (λ k below. let e : k ≡ 0 + k = omega arith in subst (IsPhi job.plan known (block_there job history place)) e (is.are_phis k below)) good
    (λ next. subst (λ (at : ℕ). Comes job known history place at (length block.steps) state (does job.files block.steps (entered state))) (sym z)
    (steps_come laws job code known history place is.phis block.steps (entered state) placed (omega (arith, count)) is.are_steps
    (subst (λ (at : ℕ). Good job known history place at state.store) z next) used no_step_before)))
  where
    no_step_before : Behind job history place is.phis (entered state)
    no_step_before before same plain scalar =
        let phi = (is.are_phis before (omega (arith, same))).phi in
        absurd cc

-- where a block decides, its last operator is the condition: its part in partition 0 is the last bag
pub record LastDecides (job : Job) (history : History) (place : ℕ) (reached : Reached) : Type 0 where
  pub part : held history place (count_there job history place - 1) 0 ≡ ok reached.bag
  pub statement : (op_at job.plan (last_of (block_at job.plan (block_there job history place)))).statement ≡ reached.statement

pub block_decides : (job : Job) (known : Reaching) (history : History) (place : ℕ) (block : Code) (reached : Reached)
    → IsBlockOf job.plan known (block_there job history place) block → IsDecided block.steps
    → Behind job history place (count_there job history place) reached → LastDecides job history place reached
block_decides job known history place block reached is decided last =
    let count = is.count in
    let many : length block.steps ≡ length decided.before + 1 = ap length decided.are ∙ length_push decided.before decided.last in
    let before = is.phis + length decided.before in
    let one = is.are_steps (length decided.before) (omega (arith, many)) in
    let own : get_or block.steps (length decided.before) no_step ≡ decided.last =
    ap (λ (steps : List Step). get_or steps (length decided.before) no_step) decided.are ∙ get_or_push decided.before decided.last no_step (length decided.before) refl in
    let scalar : is_scalar (spec_at job history place before) ≡ true = ap is_scalar one.spec ∙ ap (λ (step : Step). is_scalar step.op) own ∙ decided.scalar in
    let here = last before (omega (arith, count, many)) one.plain scalar in
    let e : before ≡ count_there job history place - 1 = omega (arith, count, many) in
    let first = (block_at job.plan (block_there job history place)).first in
    let o : first + before ≡ first + count_there job history place - 1 = omega (arith, count, many) in
    record {
      part = ap (λ (k : ℕ). held history place k 0) (sym e) ∙ here.0;
      statement = ap (λ (k : ℕ). (op_at job.plan k).statement) (sym o) ∙ here.1;
    }
