-- The blocks of a script are good: where a block is entered, what its operators take has been passed.
use Rattle.std.proofs.Common.{◌≡◌, ◌∙◌, ◌<◌, ◌≤◌, ◌+◌, ℕ, List, [], ◌∷◌, ◌++◌, length, map, ap, sym, subst, refl, arith, cond, eqb, Bool, true, false, Some, is_some, Result, Ok, inl, inr, length-append}
use Rattle.std.specs.List.{list_all}
use Rattle.std.proofs.lemmas.List.Sums.{sum_by-cons}
use Rattle.mit_ops.specs.declared.kinds.OpSpec.{OpSpec}
use Rattle.mit_ops.specs.declared.leave.Leave.TheVariants.{Jump, Branch}
use Rattle.mit_ops.specs.declared.types.VarType.{VarType}
use Rattle.mit_script.specs.Accepted.{Check, Fault, Known, branched, check_of, check_step, decided_by, in_order, is_assigned, looped, with_assigned}
use Rattle.mit_script.specs.declared.tree.Stmt.{Stmt, roll-Stmt}
use Rattle.mit_script.specs.declared.tree.Stmt.TheFolds.{fold-roll-Stmt, ind-Stmt, map-Stmt}
use Rattle.mit_script.specs.declared.tree.Stmt.TheOpen.{Stmt-F}
use Rattle.mit_script.specs.declared.tree.Stmt.TheOpen as layer
use Rattle.mit_ssa.specs.Woven.{Defined, Weave, WeavePlace, Woven, WovenStretch, assigned_in, defining, join_phis, just_left, loop_phis, on_both, operator_of, operators_first, phis_of, place_after, stretch_blocks, weave_adds, weave_counts, weave_of, weave_step, with_phis, woven_all, woven_branch, woven_loop}
use Rattle.mit_ssa.specs.declared.block.Operator.{Operator}
use Rattle.mit_ssa.proofs.DefinitionsPhis.{Each, one_some, phis_stay}
use Rattle.mit_ssa.proofs.DefinitionsEnds.{Ends, assign_ends, both_some, compose, further, if_ends, while_inside, write_ends}
use Rattle.mit_ssa.proofs.DefinitionsReady.{Ready, assigning_ready, assigning_size, assigns_known, beside_ready, decides_known, joined_ready, passed_ready, rejoins_known, then_known, turns_known, writes_known}
use Rattle.mit_ssa.proofs.DefinitionsGood.{GoodBlocks, GoodOp, GoodOps, GoodStretch, Has, IsPassed, Mark, Marks, begins, blocks_append, enter_has, has_more, leads_only, leaves_for, only_of, operator_good, passed_more, phis_precede, precede}
use Rattle.mit_ssa.proofs.DefinitionsJoin.{HeaderAt, JoinAt, either_of, header_has, join_has, join_phis_good, leads_back, leads_before, leads_from_one, leads_from_two, loop_phis_good}

-- marks of blocks from this number on
unfoldable pub Placed : Marks → ℕ → List Mark → Type 0
Placed look block [] = Unit {0}
Placed look block (mark ∷ marks) = (look block ≡ mark) × Placed look (block + 1) marks

placed_split : (look : Marks) (block : ℕ) (xs ys : List Mark) → Placed look block (xs ++ ys) → Placed look block xs × Placed look (block + length xs) ys
unfolding Placed
placed_split look block [] ys placed = (tt, (let e : block ≡ block + 0 = omega arith in subst (λ (b : ℕ). Placed look b ys) e placed))
placed_split look block (x ∷ xs) ys placed =
    let rest = placed_split look (block + 1) xs ys placed.1 in
    let e : block + 1 + length xs ≡ block + length (x ∷ xs) = omega arith in
    ((placed.0, rest.0), subst (λ (b : ℕ). Placed look b ys) e rest.1)

pub record IsAt (variables : ℕ) (look : Marks) (block number : ℕ) (defined : Defined) : Type 0 where
  pub start : (look block).start ≤ number
  pub has : Has variables look block number defined

abbrev pub Follows : ℕ → Marks → ℕ → ℕ → Defined → WovenStretch → ℕ → ℕ → Type 0
Follows variables look block number defined stretch last end =
    IsAt variables look block number defined → GoodStretch variables look block number stretch last end

follows_at : (variables : ℕ) (look : Marks) (block other number : ℕ) (defined : Defined) (stretch : WovenStretch) (last end : ℕ) → block ≡ other
    → Follows variables look block number defined stretch last end → Follows variables look other number defined stretch last end
follows_at variables look block other number defined stretch last end same =
    subst (λ (b : ℕ). Follows variables look b number defined stretch last end) same

-- a part of a script that begins at a place
pub record Good (variables : ℕ) (place : WeavePlace) (added : ℕ) (woven : Woven) : Type 0 where
  pub marks : List Mark
  pub many : length marks ≡ added
  pub carries : (look : Marks) → Placed look (place.block + 1) marks → (stretch : WovenStretch) (last end : ℕ)
      → Follows variables look (place.block + added) woven.operator woven.defined stretch last end
      → Follows variables look place.block place.operator place.defined (woven.onto stretch) last end

pub record Flows (variables : ℕ) (weave : Weave) (check : Check) : Type 0 where
  pub ends : (place : WeavePlace) → Ends variables place.operator (weave.weave place).operator place.defined (weave.weave place).defined weave.assigns
  pub passes : (place : WeavePlace) (known known_after : Known) → check known ≡ Ok known_after → Ready variables known place.defined
      → Ready variables known_after (weave.weave place).defined
  pub good : (place : WeavePlace) (known known_after : Known) → check known ≡ Ok known_after → Ready variables known place.defined
      → Good variables place weave.added (weave.weave place)
  pub sizes : (known known_after : Known) → check known ≡ Ok known_after → length known_after.types ≡ length known.types

-- ---- one after another

abbrev pub all_weave : List Weave → Weave
all_weave weaves = record { count = weave_counts weaves; added = weave_adds weaves; assigns = assigned_in weaves; weave = woven_all weaves }

one_ok : (a b : Known) → ◌≡◌ {A = Result Known Fault} (Ok a) (Ok b) → a ≡ b
one_ok a b same = cc

same_size : {a b : Known} → a ≡ b → length a.types ≡ length b.types
same_size same = ap (λ (k : Known). length k.types) same

none_flows : (variables : ℕ) → Flows variables (all_weave []) (in_order [])
unfolding woven_all
none_flows variables = record {
  ends = λ place. record {
    grows = omega arith;
    old_or_new = λ variable operator is. inl is;
    stays = λ variable some. some;
    new = λ variable operator never below is. absurd cc;
    keeps = λ variable never. refl;
  };
  passes = λ place known known_after is ready. subst (λ (k : Known). Ready variables k place.defined) (one_ok known known_after is) ready;
  good = λ place known known_after is ready. record {
    marks = [];
    many = refl;
    carries = λ look placed stretch last end later.
        let e : place.block + weave_adds [] ≡ place.block = omega arith in
        follows_at variables look (place.block + weave_adds []) place.block place.operator place.defined stretch last end e later;
  };
  sizes = λ known known_after is. same_size (sym (one_ok known known_after is));
}

adds_more : (weave : Weave) (weaves : List Weave) → weave_adds (weave ∷ weaves) ≡ weave.added + weave_adds weaves
adds_more weave weaves = sum_by-cons (λ (n : ℕ). n) weave.added (map (λ (one : Weave). one.added) weaves)

more_good : (variables : ℕ) (weave : Weave) (weaves : List Weave) (place : WeavePlace) → Good variables place weave.added (weave.weave place)
    → Good variables (place_after place weave (weave.weave place)) (weave_adds weaves) (woven_all weaves (place_after place weave (weave.weave place)))
    → Good variables place (weave_adds (weave ∷ weaves)) (woven_all (weave ∷ weaves) place)
unfolding woven_all
more_good variables weave weaves place first rest = record {
  marks = first.marks ++ rest.marks;
  many = (let e = length-append first.marks rest.marks in let f = adds_more weave weaves in omega (arith, e, f, first.many, rest.many));
  carries = λ look placed stretch last end later.
      let split = placed_split look (place.block + 1) first.marks rest.marks placed in
      let e : place.block + 1 + length first.marks ≡ place.block + weave.added + 1 = omega (arith, first.many) in
      let f : place.block + weave_adds (weave ∷ weaves) ≡ place.block + weave.added + weave_adds weaves = (let g = adds_more weave weaves in omega (arith, g)) in
      first.carries look split.0 ((woven_all weaves next).onto stretch) last end
      (rest.carries look (subst (λ (b : ℕ). Placed look b rest.marks) e split.1) stretch last end
      (follows_at variables look (place.block + weave_adds (weave ∷ weaves)) (place.block + weave.added + weave_adds weaves) (woven_all weaves next).operator
      (woven_all weaves next).defined stretch last end f later));
}
  where
    next : WeavePlace
    next = place_after place weave (weave.weave place)

more_flows : (variables : ℕ) (weave : Weave) (weaves : List Weave) (check : Check) (checks : List Check) → Flows variables weave check
    → Flows variables (all_weave weaves) (in_order checks) → Flows variables (all_weave (weave ∷ weaves)) (in_order (check ∷ checks))
unfolding woven_all
more_flows variables weave weaves check checks one rest = record {
  ends = λ place.
      compose variables place.operator (weave.weave place).operator (woven_all weaves (next place)).operator place.defined (weave.weave place).defined
      (woven_all weaves (next place)).defined weave.assigns (assigned_in weaves) (one.ends place) (rest.ends (next place));
  passes = λ place known known_after is ready.
      let parts = then_known check (in_order checks) known known_after is in
      rest.passes (next place) parts.middle known_after parts.second (one.passes place known parts.middle parts.first ready);
  good = λ place known known_after is ready.
      let parts = then_known check (in_order checks) known known_after is in
      more_good variables weave weaves place (one.good place known parts.middle parts.first ready)
      (rest.good (next place) parts.middle known_after parts.second (one.passes place known parts.middle parts.first ready));
  sizes = λ known known_after is.
      let parts = then_known check (in_order checks) known known_after is in
      rest.sizes parts.middle known_after parts.second ∙ one.sizes known parts.middle parts.first;
}
  where
    next : WeavePlace → WeavePlace
    next place = place_after place weave (weave.weave place)

-- ---- an assignment, and a write

assign_at : (variables : ℕ) (look : Marks) (block number : ℕ) (defined : Defined) (target : ℕ) → IsAt variables look block number defined
    → IsAt variables look block (number + 1) (defining defined target number)
assign_at variables look block number defined target at = record {
  start = (let s = at.start in omega (arith, s));
  has = λ variable operator below is. by_test variable operator below (eqb variable target) refl is;
}
  where
    by_test : (variable operator : ℕ) → variable < variables → (same : Bool) → eqb variable target ≡ same → cond same (Some number) (defined variable) ≡ Some operator
        → IsPassed variables look block (number + 1) operator
    by_test variable operator below true same is =
        let e = one_some number operator is in let s = at.start in record { before = omega (arith, e); how = inr (omega (arith, e, s)) }
    by_test variable operator below false same is = passed_more variables look block number (number + 1) operator (omega arith) (at.has variable operator below is)

write_at : (variables : ℕ) (look : Marks) (block number : ℕ) (defined : Defined) → IsAt variables look block number defined
    → IsAt variables look block (number + 1) defined
write_at variables look block number defined at = record {
  start = (let s = at.start in omega (arith, s));
  has = has_more variables look block number (number + 1) defined (omega arith) at.has;
}

assign_flows : (types : List VarType) (target : ℕ) (operator : OpSpec) (args : List ℕ)
    → Flows (length types) (weave_step types (layer.Assign target operator args)) (check_step (layer.Assign target operator args))
assign_flows types target operator args = record {
  ends = λ place. assign_ends (length types) place.operator place.defined target;
  passes = λ place known known_after is ready.
      let found = assigns_known target operator args known known_after is in
      subst (λ (k : Known). Ready (length types) k (defining place.defined target place.operator)) found.is
      (assigning_ready (length types) known place.defined target place.operator found.type ready);
  good = λ place known known_after is ready.
      let found = assigns_known target operator args known known_after is in
      record {
        marks = [];
        many = refl;
        carries = λ look placed stretch last end later at.
            let e : place.block + 0 ≡ place.block = omega arith in
            precede (length types) look place.block place.operator (operator_of types place.defined place.statement operator args) stretch last end
            (operator_good (length types) look place.block place.operator types known place.defined place.statement operator args at.has ready found.args_known)
            (follows_at (length types) look (place.block + 0) place.block (place.operator + 1) (defining place.defined target place.operator) stretch last end e later
            (assign_at (length types) look place.block place.operator place.defined target at));
      };
  sizes = λ known known_after is.
      let found = assigns_known target operator args known known_after is in
      same_size (sym found.is) ∙ assigning_size target found.type known;
}

write_flows : (types : List VarType) (operator : OpSpec) (args : List ℕ)
    → Flows (length types) (weave_step types (layer.Write operator args)) (check_step (layer.Write operator args))
write_flows types operator args = record {
  ends = λ place. write_ends (length types) place.operator place.defined;
  passes = λ place known known_after is ready.
      let found = writes_known operator args known known_after is in
      subst (λ (k : Known). Ready (length types) k place.defined) found.is (passed_ready (length types) known place.defined ready);
  good = λ place known known_after is ready.
      let found = writes_known operator args known known_after is in
      record {
        marks = [];
        many = refl;
        carries = λ look placed stretch last end later at.
            let e : place.block + 0 ≡ place.block = omega arith in
            precede (length types) look place.block place.operator (operator_of types place.defined place.statement operator args) stretch last end
            (operator_good (length types) look place.block place.operator types known place.defined place.statement operator args at.has ready found.args_known)
            (follows_at (length types) look (place.block + 0) place.block (place.operator + 1) place.defined stretch last end e later
            (write_at (length types) look place.block place.operator place.defined at));
      };
  sizes = λ known known_after is. let found = writes_known operator args known known_after is in same_size (sym found.is);
}

-- ---- an `if`

entered_at : (variables : ℕ) (look : Marks) (block number : ℕ) (defined : Defined) → (look block).start ≡ number
    → ((variable : ℕ) → (look block).entry variable ≡ only_of defined variable)
    → ((variable operator : ℕ) → variable < variables → defined variable ≡ Some operator → operator < number) → IsAt variables look block number defined
entered_at variables look block number defined start entry before =
    record { start = omega (arith, start); has = enter_has variables look block number defined entry before }

if_holds : (variables : ℕ) (look : Marks) (block other join true_last false_last number middle most : ℕ) (on_true on_false : List Weave) (env one two : Defined)
    (operator : Operator) (first second stretch : WovenStretch) (last end : ℕ)
    → Ends variables (number + 1) middle env one (assigned_in on_true) → Ends variables middle most env two (assigned_in on_false)
    → GoodOp variables look block number operator → IsAt variables look block number env
    → ((variable : ℕ) → (look (block + 1)).entry variable ≡ only_of env variable) → ((variable : ℕ) → (look other).entry variable ≡ only_of env variable)
    → JoinAt variables look (block + 1) other join (number + 1) middle most on_true on_false one two
    → true_last + 1 ≡ other → false_last + 1 ≡ join
    → (Follows variables look true_last middle one (just_left (Jump join)) other middle → Follows variables look (block + 1) (number + 1) env first other middle)
    → (Follows variables look false_last most two (just_left (Jump join)) join most → Follows variables look other middle env second join most)
    → Follows variables look join (most + length (join_phis variables on_true on_false one two))
    (with_phis (on_both one two) most (join_phis variables on_true on_false one two)) stretch last end
    → GoodStretch variables look block number (record {
      first = record { operators = operator ∷ []; leave = Branch (block + 1) other };
      later = (stretch_blocks first ++ stretch_blocks second) ++ stretch_blocks (operators_first (phis_of one two (join_phis variables on_true on_false one two)) stretch);
    }) last end
unfolding GoodOps Each
if_holds variables look block other join true_last false_last number middle most on_true on_false env one two operator first second stretch last end
    ends_one ends_two good at entry_true entry_false joins true_ends false_ends through_one through_two later = record {
      next = number + 1;
      good = record {
        ops = (good, refl);
        leads = (leads_only variables look block (number + 1) (block + 1) env entry_true has, (leads_only variables look block (number + 1) other env entry_false has, tt));
      };
      rest = blocks_append variables look (block + 1) (number + 1) (stretch_blocks first ++ stretch_blocks second) (stretch_blocks (operators_first (phis_of one two phis) stretch)) join most last end
          (blocks_append variables look (block + 1) (number + 1) (stretch_blocks first) (stretch_blocks second) other middle join most
          (begins variables look (block + 1) (number + 1) first other middle joins.true_start
          (through_one (λ at_end. leaves_for variables look true_last middle join other true_ends
          (leads_from_one variables look true_last middle join on_true on_false one two joins.entry at_end.has))
          (entered_at variables look (block + 1) (number + 1) env joins.true_start entry_true before)))
          (begins variables look other middle second join most joins.false_start
          (through_two (λ at_end. leaves_for variables look false_last most join join false_ends
          (leads_from_two variables look false_last most join (number + 1) middle most on_true on_false env one two ends_one ends_two joins.entry at_end.has))
          (entered_at variables look other middle env joins.false_start entry_false before_middle))))
          (begins variables look join most (operators_first (phis_of one two phis) stretch) last end joins.join_start
          (phis_precede variables look join most one two phis stretch last end
          (join_phis_good variables look (block + 1) other join (number + 1) middle most on_true on_false env one two ends_one ends_two before joins)
          (later (record {
            start = omega (arith, joins.join_start);
            has = join_has variables look (block + 1) other join (number + 1) middle most on_true on_false env one two ends_one ends_two before joins;
          }))));
    }
  where
    phis : List ℕ
    phis = join_phis variables on_true on_false one two

    has : Has variables look block (number + 1) env
    has = has_more variables look block number (number + 1) env (omega arith) at.has

    before : (variable operator : ℕ) → variable < variables → env variable ≡ Some operator → operator < number + 1
    before variable operator below is = (has variable operator below is).before

    before_middle : (variable operator : ℕ) → variable < variables → env variable ≡ Some operator → operator < middle
    before_middle variable operator below is = let b = before variable operator below is in omega (arith, b, ends_one.grows)

abbrev pub inside_of : WeavePlace → WeavePlace
inside_of place = record { block = place.block + 1; operator = place.operator + 1; statement = place.statement + 1; defined = place.defined }

abbrev pub beside_of : List Weave → WeavePlace → WeavePlace
beside_of on_true place = record {
  block = place.block + 2 + weave_adds on_true;
  operator = (woven_all on_true (inside_of place)).operator;
  statement = place.statement + 1 + weave_counts on_true;
  defined = place.defined;
}

if_good : (types : List VarType) (operator : OpSpec) (args : List ℕ) (on_true on_false : List Weave) (place : WeavePlace) (known : Known)
    → Ends (length types) (place.operator + 1) (woven_all on_true (inside_of place)).operator place.defined (woven_all on_true (inside_of place)).defined (assigned_in on_true)
    → Ends (length types) (woven_all on_true (inside_of place)).operator (woven_all on_false (beside_of on_true place)).operator place.defined
    (woven_all on_false (beside_of on_true place)).defined (assigned_in on_false)
    → Ready (length types) known place.defined → list_all (is_assigned known.assigned) args ≡ true
    → Good (length types) (inside_of place) (weave_adds on_true) (woven_all on_true (inside_of place))
    → Good (length types) (beside_of on_true place) (weave_adds on_false) (woven_all on_false (beside_of on_true place))
    → Good (length types) place (3 + weave_adds on_true + weave_adds on_false) (woven_branch types operator args on_true on_false place)
unfolding Placed
if_good types operator args on_true on_false place known ends_one ends_two ready all first second = record {
  marks = true_mark ∷ (first.marks ++ false_mark ∷ (second.marks ++ join_mark ∷ []));
  many = (let e = length-append first.marks (false_mark ∷ (second.marks ++ join_mark ∷ [])) in let f = length-append second.marks (join_mark ∷ []) in
      omega (arith, e, f, first.many, second.many));
  carries = λ look placed stretch last end later at.
      let one_placed = placed_split look (place.block + 1 + 1) first.marks (false_mark ∷ (second.marks ++ join_mark ∷ [])) placed.1 in
      let false_placed = subst (λ (b : ℕ). Placed look b (false_mark ∷ (second.marks ++ join_mark ∷ []))) to_other one_placed.1 in
      let two_placed = placed_split look (other + 1) second.marks (join_mark ∷ []) false_placed.1 in
      let join_placed = subst (λ (b : ℕ). Placed look b (join_mark ∷ [])) to_join two_placed.1 in
      if_holds (length types) look place.block other join (place.block + 1 + weave_adds on_true) (other + weave_adds on_false) place.operator one.operator two.operator
      on_true on_false place.defined one.defined two.defined (operator_of types place.defined place.statement operator args)
      (one.onto (just_left (Jump join))) (two.onto (just_left (Jump join))) stretch last end ends_one ends_two
      (operator_good (length types) look place.block place.operator types known place.defined place.statement operator args at.has ready all) at
      (λ variable. ap (λ (m : Mark). m.entry variable) placed.0) (λ variable. ap (λ (m : Mark). m.entry variable) false_placed.0)
      (record {
        true_start = ap (λ (m : Mark). m.start) placed.0;
        false_start = ap (λ (m : Mark). m.start) false_placed.0;
        join_start = ap (λ (m : Mark). m.start) join_placed.0;
        entry = λ variable. ap (λ (m : Mark). m.entry variable) join_placed.0;
      })
      (omega arith) (omega arith)
      (first.carries look one_placed.0 (just_left (Jump join)) other one.operator)
      (second.carries look two_placed.0 (just_left (Jump join)) join two.operator)
      (follows_at (length types) look (place.block + (3 + weave_adds on_true + weave_adds on_false)) join (two.operator + length phis)
      (with_phis (on_both one.defined two.defined) two.operator phis) stretch last end (omega arith) later);
}
  where
    one : Woven
    one = woven_all on_true (inside_of place)

    two : Woven
    two = woven_all on_false (beside_of on_true place)

    other : ℕ
    other = place.block + 2 + weave_adds on_true

    join : ℕ
    join = place.block + 2 + weave_adds on_true + 1 + weave_adds on_false

    phis : List ℕ
    phis = join_phis (length types) on_true on_false one.defined two.defined

    true_mark : Mark
    true_mark = record { entry = only_of place.defined; start = place.operator + 1 }

    false_mark : Mark
    false_mark = record { entry = only_of place.defined; start = one.operator }

    join_mark : Mark
    join_mark = record { entry = either_of phis one.defined two.defined (on_both one.defined two.defined); start = two.operator }

    to_other : place.block + 1 + 1 + length first.marks ≡ place.block + 2 + weave_adds on_true
    to_other = omega (arith, first.many)

    to_join : place.block + 2 + weave_adds on_true + 1 + length second.marks ≡ place.block + 2 + weave_adds on_true + 1 + weave_adds on_false
    to_join = omega (arith, second.many)

if_flows : (types : List VarType) (operator : OpSpec) (args : List ℕ) (on_true on_false : List Weave) (true_checks false_checks : List Check)
    → Flows (length types) (all_weave on_true) (in_order true_checks) → Flows (length types) (all_weave on_false) (in_order false_checks)
    → Flows (length types) (weave_step types (layer.If operator args on_true on_false)) (check_step (layer.If operator args true_checks false_checks))
if_flows types operator args on_true on_false true_checks false_checks first second = record {
  ends = λ place.
      if_ends (length types) place.operator (woven_all on_true (inside_of place)).operator (woven_all on_false (beside_of on_true place)).operator on_true on_false
      place.defined (woven_all on_true (inside_of place)).defined (woven_all on_false (beside_of on_true place)).defined (first.ends (inside_of place))
      (second.ends (beside_of on_true place));
  passes = λ place known known_after is ready.
      let parts = then_known (decided_by operator args) (branched true_checks false_checks) known known_after is in
      let decided = decides_known operator args known parts.middle parts.first in
      let inside_ready = subst (λ (k : Known). Ready (length types) k place.defined) decided.is (passed_ready (length types) known place.defined ready) in
      let joins = rejoins_known true_checks false_checks parts.middle known_after parts.second in
      let one_ready = first.passes (inside_of place) parts.middle joins.one joins.first inside_ready in
      let two_ready = second.passes (beside_of on_true place) (with_assigned parts.middle.assigned joins.one) joins.other joins.second
      (beside_ready (length types) parts.middle joins.one place.defined inside_ready) in
      subst (λ (k : Known). Ready (length types) k (woven_branch types operator args on_true on_false place).defined) joins.is
      (joined_ready (length types) joins.one joins.other (woven_all on_true (inside_of place)).defined (woven_all on_false (beside_of on_true place)).defined
      (woven_branch types operator args on_true on_false place).defined one_ready two_ready (λ variable. stays place variable));
  good = λ place known known_after is ready.
      let parts = then_known (decided_by operator args) (branched true_checks false_checks) known known_after is in
      let decided = decides_known operator args known parts.middle parts.first in
      let inside_ready = subst (λ (k : Known). Ready (length types) k place.defined) decided.is (passed_ready (length types) known place.defined ready) in
      let joins = rejoins_known true_checks false_checks parts.middle known_after parts.second in
      if_good types operator args on_true on_false place known (first.ends (inside_of place)) (second.ends (beside_of on_true place)) ready decided.args_known
      (first.good (inside_of place) parts.middle joins.one joins.first inside_ready)
      (second.good (beside_of on_true place) (with_assigned parts.middle.assigned joins.one) joins.other joins.second
      (beside_ready (length types) parts.middle joins.one place.defined inside_ready));
  sizes = λ known known_after is.
      let parts = then_known (decided_by operator args) (branched true_checks false_checks) known known_after is in
      let decided = decides_known operator args known parts.middle parts.first in
      let joins = rejoins_known true_checks false_checks parts.middle known_after parts.second in
      same_size (sym joins.is) ∙ (second.sizes (with_assigned parts.middle.assigned joins.one) joins.other joins.second
      ∙ (first.sizes parts.middle joins.one joins.first ∙ same_size (sym decided.is)));
}
  where
    stays : (place : WeavePlace) (variable : ℕ) → is_some ((woven_all on_true (inside_of place)).defined variable) ≡ true
        → is_some ((woven_all on_false (beside_of on_true place)).defined variable) ≡ true
        → is_some ((woven_branch types operator args on_true on_false place).defined variable) ≡ true
    stays place variable one_some two_some =
        phis_stay (on_both (woven_all on_true (inside_of place)).defined (woven_all on_false (beside_of on_true place)).defined)
        (woven_all on_false (beside_of on_true place)).operator
        (join_phis (length types) on_true on_false (woven_all on_true (inside_of place)).defined (woven_all on_false (beside_of on_true place)).defined) variable
        (both_some ((woven_all on_true (inside_of place)).defined variable) ((woven_all on_false (beside_of on_true place)).defined variable) one_some two_some)

-- ---- a `while`

while_holds : (variables : ℕ) (look : Marks) (block inner exit inner_last number most : ℕ) (body : List Weave) (env turn : Defined) (operator : Operator)
    (around stretch : WovenStretch) (last end : ℕ)
    → Ends variables (number + length (loop_phis variables body env) + 1) most (with_phis env number (loop_phis variables body env)) turn (assigned_in body)
    → IsAt variables look block number env → HeaderAt variables look (block + 1) number body env turn
    → GoodOp variables look (block + 1) (number + length (loop_phis variables body env)) operator
    → ((variable : ℕ) → (look inner).entry variable ≡ only_of (with_phis env number (loop_phis variables body env)) variable)
    → (look inner).start ≡ number + length (loop_phis variables body env) + 1
    → ((variable : ℕ) → (look exit).entry variable ≡ only_of (with_phis env number (loop_phis variables body env)) variable) → (look exit).start ≡ most
    → block + 1 + 1 ≡ inner → inner_last + 1 ≡ exit
    → (Follows variables look inner_last most turn (just_left (Jump (block + 1))) exit most
    → Follows variables look inner (number + length (loop_phis variables body env) + 1) (with_phis env number (loop_phis variables body env)) around exit most)
    → Follows variables look exit most (with_phis env number (loop_phis variables body env)) stretch last end
    → GoodStretch variables look block number (record {
      first = record { operators = []; leave = Jump (block + 1) };
      later = record { operators = phis_of env turn (loop_phis variables body env) ++ operator ∷ []; leave = Branch inner exit } ∷ (stretch_blocks around ++ stretch_blocks stretch);
    }) last end
unfolding GoodOps Each
while_holds variables look block inner exit inner_last number most body env turn operator around stretch last end ends at header_at good entry_inner start_inner
    entry_exit start_exit to_inner to_exit through later = record {
      next = number;
      good = record { ops = refl; leads = (leads_before variables look block number (block + 1) body env turn header_at.entry at.has, tt) };
      rest = begins variables look (block + 1) number (operators_first (phis_of env turn phis) header) last end header_at.start
          (phis_precede variables look (block + 1) number env turn phis header last end
          (loop_phis_good variables look (block + 1) inner exit number (number + length phis + 1) most body env turn ends stays before header_at (omega (arith, to_inner))
          start_inner (omega arith) start_exit)
          (record {
            next = number + length phis + 1;
            good = record {
              ops = (good, refl);
              leads = (
                leads_only variables look (block + 1) (number + length phis + 1) inner inside entry_inner has,
                (leads_only variables look (block + 1) (number + length phis + 1) exit inside entry_exit has, tt),
              );
            };
            rest = subst (λ (b : ℕ). GoodBlocks variables look b (number + length phis + 1) (stretch_blocks around ++ stretch_blocks stretch) last end) (sym to_inner)
                (blocks_append variables look inner (number + length phis + 1) (stretch_blocks around) (stretch_blocks stretch) exit most last end
                (begins variables look inner (number + length phis + 1) around exit most start_inner
                (through (λ at_end. leaves_for variables look inner_last most (block + 1) exit to_exit
                (leads_back variables look inner_last most (block + 1) number (number + length phis + 1) most body env turn ends stays header_at.entry at_end.has))
                (entered_at variables look inner (number + length phis + 1) inside start_inner entry_inner before_inner)))
                (begins variables look exit most stretch last end start_exit (later (entered_at variables look exit most inside start_exit entry_exit before_exit))));
          }));
    }
  where
    phis : List ℕ
    phis = loop_phis variables body env

    inside : Defined
    inside = with_phis env number phis

    header : WovenStretch
    header = record { first = record { operators = operator ∷ []; leave = Branch inner exit }; later = stretch_blocks around ++ stretch_blocks stretch }

    before : (variable operator : ℕ) → variable < variables → env variable ≡ Some operator → operator < number
    before variable operator below is = (at.has variable operator below is).before

    stays : (variable : ℕ) → is_some (env variable) ≡ true → is_some (with_phis env number (loop_phis variables body env) variable) ≡ true
    stays variable some = phis_stay env number (loop_phis variables body env) variable some

    has : Has variables look (block + 1) (number + length phis + 1) inside
    has = has_more variables look (block + 1) (number + length phis) (number + length phis + 1) inside (omega arith)
        (header_has variables look (block + 1) number body env turn before header_at)

    before_inner : (variable operator : ℕ) → variable < variables → inside variable ≡ Some operator → operator < number + length phis + 1
    before_inner variable operator below is = (has variable operator below is).before

    before_exit : (variable operator : ℕ) → variable < variables → inside variable ≡ Some operator → operator < most
    before_exit variable operator below is = let b = before_inner variable operator below is in omega (arith, b, ends.grows)

abbrev pub phis_at : List VarType → List Weave → WeavePlace → List ℕ
phis_at types body place = loop_phis (length types) body place.defined

abbrev pub turn_of : List VarType → List Weave → WeavePlace → WeavePlace
turn_of types body place = record {
  block = place.block + 2;
  operator = place.operator + length (phis_at types body place) + 1;
  statement = place.statement + 1;
  defined = with_phis place.defined place.operator (phis_at types body place);
}

while_good : (types : List VarType) (operator : OpSpec) (args : List ℕ) (body : List Weave) (place : WeavePlace) (known : Known)
    → Ends (length types) (place.operator + length (phis_at types body place) + 1) (woven_all body (turn_of types body place)).operator
    (with_phis place.defined place.operator (phis_at types body place)) (woven_all body (turn_of types body place)).defined (assigned_in body)
    → Ready (length types) known (with_phis place.defined place.operator (phis_at types body place)) → list_all (is_assigned known.assigned) args ≡ true
    → Good (length types) (turn_of types body place) (weave_adds body) (woven_all body (turn_of types body place))
    → Good (length types) place (3 + weave_adds body) (woven_loop types operator args body place)
unfolding Placed
while_good types operator args body place known ends ready all good = record {
  marks = header_mark ∷ (inner_mark ∷ (good.marks ++ exit_mark ∷ []));
  many = (let e = length-append good.marks (exit_mark ∷ []) in omega (arith, e, good.many));
  carries = λ look placed stretch last end later at.
      let inner_placed = subst (λ (b : ℕ). Placed look b (inner_mark ∷ (good.marks ++ exit_mark ∷ []))) to_inner placed.1 in
      let body_placed = placed_split look (place.block + 2 + 1) good.marks (exit_mark ∷ []) inner_placed.1 in
      let exit_placed = subst (λ (b : ℕ). Placed look b (exit_mark ∷ [])) to_exit body_placed.1 in
      let header_at : HeaderAt (length types) look (place.block + 1) place.operator body place.defined turn.defined =
      record { start = ap (λ (m : Mark). m.start) placed.0; entry = λ variable. ap (λ (m : Mark). m.entry variable) placed.0 } in
      while_holds (length types) look place.block (place.block + 2) exit (place.block + 2 + weave_adds body) place.operator turn.operator body place.defined turn.defined
      (operator_of types (with_phis place.defined place.operator phis) place.statement operator args) (turn.onto (just_left (Jump (place.block + 1)))) stretch last end
      ends at header_at
      (operator_good (length types) look (place.block + 1) (place.operator + length phis) types known (with_phis place.defined place.operator phis) place.statement
      operator args
      (header_has (length types) look (place.block + 1) place.operator body place.defined turn.defined
      (λ variable operator below is. (at.has variable operator below is).before) header_at)
      ready all)
      (λ variable. ap (λ (m : Mark). m.entry variable) inner_placed.0) (ap (λ (m : Mark). m.start) inner_placed.0)
      (λ variable. ap (λ (m : Mark). m.entry variable) exit_placed.0) (ap (λ (m : Mark). m.start) exit_placed.0)
      (omega arith) (omega arith)
      (good.carries look body_placed.0 (just_left (Jump (place.block + 1))) exit turn.operator)
      (follows_at (length types) look (place.block + (3 + weave_adds body)) exit turn.operator (with_phis place.defined place.operator phis) stretch last end
      (omega arith) later);
}
  where
    phis : List ℕ
    phis = phis_at types body place

    turn : Woven
    turn = woven_all body (turn_of types body place)

    exit : ℕ
    exit = place.block + 3 + weave_adds body

    header_mark : Mark
    header_mark = record { entry = either_of phis place.defined turn.defined place.defined; start = place.operator }

    inner_mark : Mark
    inner_mark = record { entry = only_of (with_phis place.defined place.operator phis); start = place.operator + length phis + 1 }

    exit_mark : Mark
    exit_mark = record { entry = only_of (with_phis place.defined place.operator phis); start = turn.operator }

    to_inner : place.block + 1 + 1 ≡ place.block + 2
    to_inner = omega arith

    to_exit : place.block + 2 + 1 + length good.marks ≡ place.block + 3 + weave_adds body
    to_exit = omega (arith, good.many)

while_flows : (types : List VarType) (operator : OpSpec) (args : List ℕ) (body : List Weave) (checks : List Check)
    → Flows (length types) (all_weave body) (in_order checks)
    → Flows (length types) (weave_step types (layer.While operator args body)) (check_step (layer.While operator args checks))
while_flows types operator args body checks flows = record {
  ends = λ place.
      further (length types) place.operator (place.operator + length (phis_at types body place)) (woven_all body (turn_of types body place)).operator place.defined
      (with_phis place.defined place.operator (phis_at types body place)) (assigned_in body)
      (let g = (flows.ends (turn_of types body place)).grows in omega (arith, g)) (while_inside (length types) place.operator body place.defined);
  passes = λ place known known_after is ready.
      let parts = then_known (decided_by operator args) (looped checks) known known_after is in
      let decided = decides_known operator args known parts.middle parts.first in
      let turns = turns_known checks parts.middle known_after parts.second in
      let inside_ready = subst (λ (k : Known). Ready (length types) k (turn_of types body place).defined) decided.is
      (passed_ready (length types) known (turn_of types body place).defined (looped_ready place known ready)) in
      subst (λ (k : Known). Ready (length types) k (turn_of types body place).defined) turns.is
      (beside_ready (length types) parts.middle turns.last (turn_of types body place).defined inside_ready);
  good = λ place known known_after is ready.
      let parts = then_known (decided_by operator args) (looped checks) known known_after is in
      let decided = decides_known operator args known parts.middle parts.first in
      let turns = turns_known checks parts.middle known_after parts.second in
      let inside_ready = subst (λ (k : Known). Ready (length types) k (turn_of types body place).defined) decided.is
      (passed_ready (length types) known (turn_of types body place).defined (looped_ready place known ready)) in
      while_good types operator args body place known (flows.ends (turn_of types body place)) (looped_ready place known ready) decided.args_known
      (flows.good (turn_of types body place) parts.middle turns.last turns.first inside_ready);
  sizes = λ known known_after is.
      let parts = then_known (decided_by operator args) (looped checks) known known_after is in
      let decided = decides_known operator args known parts.middle parts.first in
      let turns = turns_known checks parts.middle known_after parts.second in
      same_size (sym turns.is) ∙ (flows.sizes parts.middle turns.last turns.first ∙ same_size (sym decided.is));
}
  where
    looped_ready : (place : WeavePlace) (known : Known) → Ready (length types) known place.defined → Ready (length types) known (turn_of types body place).defined
    looped_ready place known ready = record {
      many = ready.many;
      each = λ variable is. phis_stay place.defined place.operator (phis_at types body place) variable (ready.each variable is);
    }

-- ---- each statement

abbrev DoesFlow : List VarType → Stmt → Type 0
DoesFlow types stmt = Flows (length types) (weave_of types stmt) (check_of stmt)

abbrev Proved : List VarType → Type 0
Proved types = (stmt : Stmt) × DoesFlow types stmt

abbrev only : (types : List VarType) → Proved types → Stmt
only types proved = proved.0

inner_flows : (types : List VarType) (block : List (Proved types))
    → Flows (length types) (all_weave (map (weave_of types) (map (only types) block))) (in_order (map check_of (map (only types) block)))
inner_flows types [] = none_flows (length types)
inner_flows types (first ∷ later) =
    more_flows (length types) (weave_of types first.0) (map (weave_of types) (map (only types) later)) (check_of first.0) (map check_of (map (only types) later))
    first.1 (inner_flows types later)

rolled : (types : List VarType) (one : Stmt-F Stmt)
    → Flows (length types) (weave_step types (map-Stmt Stmt Weave (weave_of types) one)) (check_step (map-Stmt Stmt Check check_of one)) → DoesFlow types (roll-Stmt one)
rolled types one flows = rw (fold-roll-Stmt Weave (weave_step types) one, fold-roll-Stmt Check check_step one) flows

layer_flows : (types : List VarType) (one : Stmt-F (Proved types)) → DoesFlow types (roll-Stmt (map-Stmt (Proved types) Stmt (only types) one))
layer_flows types (layer.Assign target operator args) = rolled types (layer.Assign target operator args) (assign_flows types target operator args)
layer_flows types (layer.Write operator args) = rolled types (layer.Write operator args) (write_flows types operator args)
layer_flows types (layer.If operator args on_true on_false) =
    rolled types (layer.If operator args (map (only types) on_true) (map (only types) on_false))
    (if_flows types operator args _ _ (map check_of (map (only types) on_true)) (map check_of (map (only types) on_false)) (inner_flows types on_true) (inner_flows types on_false))
layer_flows types (layer.While operator args body) =
    rolled types (layer.While operator args (map (only types) body)) (while_flows types operator args _ (map check_of (map (only types) body)) (inner_flows types body))

pub one_flows : (types : List VarType) (stmt : Stmt) → DoesFlow types stmt
one_flows types = ind-Stmt (DoesFlow types) (λ one inner same. subst (λ some. DoesFlow types (roll-Stmt some)) same (layer_flows types inner))

pub block_flows : (types : List VarType) (block : List Stmt) → Flows (length types) (all_weave (map (weave_of types) block)) (in_order (map check_of block))
block_flows types [] = none_flows (length types)
block_flows types (first ∷ later) =
    more_flows (length types) (weave_of types first) (map (weave_of types) later) (check_of first) (map check_of later) (one_flows types first) (block_flows types later)
