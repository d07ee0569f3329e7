-- The blocks of a script have types that fit.
use Rattle.std.proofs.Common.{◌≡◌, ◌∙◌, ◌≤◌, ◌+◌, ◌&&◌, ℕ, List, [], ◌∷◌, ◌++◌, length, map, ap, sym, subst, refl, arith, Bool, true, false, Option, is_some, Result, Ok, inl, length-append}
use Rattle.mit_rows.specs.declared.value.ColType.TheVariants.{Bool as Truth}
use Rattle.mit_ops.specs.Results.{same_types, scalar}
use Rattle.mit_ops.specs.declared.kinds.OpSpec.{OpSpec}
use Rattle.mit_ops.specs.declared.leave.Leave.TheVariants.{Jump, Branch}
use Rattle.mit_ops.specs.declared.types.VarType.{VarType}
use Rattle.mit_script.specs.Accepted.{Check, Fault, Known, assigned_in_both, assigning, branched, check_of, check_step, decided_by, first_type, in_order, is_condition, looped, passed, same_truth, with_assigned}
use Rattle.mit_script.specs.declared.tree.Stmt.{Stmt, roll-Stmt}
use Rattle.mit_script.specs.declared.tree.Stmt.TheFolds.{fold-roll-Stmt, ind-Stmt, map-Stmt}
use Rattle.mit_script.specs.declared.tree.Stmt.TheOpen.{Stmt-F}
use Rattle.mit_script.specs.declared.tree.Stmt.TheOpen as layer
use Rattle.mit_ssa.specs.Woven.{Defined, Weave, WeavePlace, Woven, WovenStretch, join_phis, just_left, loop_phis, on_both, operator_of, operators_first, phis_of, place_after, stretch_blocks, weave_adds, weave_counts, weave_of, weave_step, with_phis, woven_all, woven_branch, woven_loop}
use Rattle.mit_ssa.proofs.DefinitionsPhis.{phis_stay}
use Rattle.mit_ssa.proofs.DefinitionsReady.{Ready, beside_ready, passed_ready, rejoins_known, then_known, turns_known}
use Rattle.mit_ssa.proofs.DefinitionsWoven.{Flows, all_weave, block_flows, one_flows}
use Rattle.mit_ssa.proofs.TypesReady.{Agrees, DecidesTyped, Firsts, Grows, assigned_type, assigns_typed, decides_typed, firsts_assigning, firsts_beside, firsts_joined, firsts_passed, firsts_to, grows_agree, grows_assigning, grows_beside, grows_passed, grows_same, grows_then, grows_to, judged_one, same_type_is, type_in, writes_typed}
use Rattle.mit_ssa.proofs.TypesOps.{Env, Given, IsPlain, Looks, TypedBlocks, TypedOps, env_both, env_defining, env_more, env_phis, given_split, join_chosen, kinds_length, loop_chosen, no_branch, operator_typed, phis_length, phis_typed, typed_append, typed_left, typed_precede}

-- a part of a script that begins at a place
pub record Typed (types : List VarType) (place : WeavePlace) (woven : Woven) : Type 0 where
  pub kinds : List VarType
  pub many : place.operator + length kinds ≡ woven.operator
  pub env : (look : Looks) → Given look place.operator kinds → Env types look place.operator place.defined → Env types look woven.operator woven.defined
  pub carries : (look : Looks) → Given look place.operator kinds → Env types look place.operator place.defined → (stretch : WovenStretch) (end : ℕ)
      → TypedBlocks look woven.operator (stretch_blocks stretch) end → TypedBlocks look place.operator (stretch_blocks (woven.onto stretch)) end

pub record TypedFlows (types : List VarType) (weave : Weave) (check : Check) : Type 0 where
  pub grows : (known known_after : Known) → check known ≡ Ok known_after → Grows known known_after
  pub firsts : (known known_after : Known) → check known ≡ Ok known_after → Firsts (length types) known → Firsts (length types) known_after
  pub typed : (place : WeavePlace) (known known_after : Known) → check known ≡ Ok known_after → Ready (length types) known place.defined
      → Firsts (length types) known → Agrees types known_after → Typed types place (weave.weave place)

-- ---- one after another

one_ok : (a b : Known) → ◌≡◌ {A = Result Known Fault} (Ok a) (Ok b) → a ≡ b
one_ok a b same = cc

none_typed : (types : List VarType) → TypedFlows types (all_weave []) (in_order [])
unfolding woven_all
none_typed types = record {
  grows = λ known known_after is. grows_to known known known_after (one_ok known known_after is) (grows_same known);
  firsts = λ known known_after is firsts. firsts_to (length types) known known_after (one_ok known known_after is) firsts;
  typed = λ place known known_after is ready firsts agrees. record {
    kinds = [];
    many = omega arith;
    env = λ look given env. env;
    carries = λ look given env stretch end later. later;
  };
}

more_woven : (types : List VarType) (weave : Weave) (weaves : List Weave) (place : WeavePlace) → Typed types place (weave.weave place)
    → Typed types (place_after place weave (weave.weave place)) (woven_all weaves (place_after place weave (weave.weave place)))
    → Typed types place (woven_all (weave ∷ weaves) place)
unfolding woven_all
more_woven types weave weaves place first rest = record {
  kinds = first.kinds ++ rest.kinds;
  many = (let e = length-append first.kinds rest.kinds in let f = first.many in let g = rest.many in omega (arith, e, f, g));
  env = λ look given env. rest.env look (later look given) (first.env look (early look given) env);
  carries = λ look given env stretch end done.
      first.carries look (early look given) env ((woven_all weaves (place_after place weave (weave.weave place))).onto stretch) end
      (rest.carries look (later look given) (first.env look (early look given) env) stretch end done);
}
  where
    early : (look : Looks) → Given look place.operator (first.kinds ++ rest.kinds) → Given look place.operator first.kinds
    early look given = (given_split look place.operator first.kinds rest.kinds given).0

    later : (look : Looks) → Given look place.operator (first.kinds ++ rest.kinds) → Given look (weave.weave place).operator rest.kinds
    later look given =
        subst (λ (n : ℕ). Given look n rest.kinds) first.many (given_split look place.operator first.kinds rest.kinds given).1

more_typed : (types : List VarType) (weave : Weave) (weaves : List Weave) (check : Check) (checks : List Check) → Flows (length types) weave check
    → TypedFlows types weave check → TypedFlows types (all_weave weaves) (in_order checks) → TypedFlows types (all_weave (weave ∷ weaves)) (in_order (check ∷ checks))
more_typed types weave weaves check checks flows one rest = record {
  grows = λ known known_after is.
      let parts = then_known check (in_order checks) known known_after is in
      grows_then known parts.middle known_after (one.grows known parts.middle parts.first) (rest.grows parts.middle known_after parts.second);
  firsts = λ known known_after is firsts.
      let parts = then_known check (in_order checks) known known_after is in
      rest.firsts parts.middle known_after parts.second (one.firsts known parts.middle parts.first firsts);
  typed = λ place known known_after is ready firsts agrees.
      let parts = then_known check (in_order checks) known known_after is in
      more_woven types weave weaves place
      (one.typed place known parts.middle parts.first ready firsts
      (grows_agree types parts.middle known_after (rest.grows parts.middle known_after parts.second) agrees))
      (rest.typed (place_after place weave (weave.weave place)) parts.middle known_after parts.second (flows.passes place known parts.middle parts.first ready)
      (one.firsts known parts.middle parts.first firsts) agrees);
}

-- ---- an assignment, and a write

assign_typed : (types : List VarType) (target : ℕ) (operator : OpSpec) (args : List ℕ)
    → TypedFlows types (weave_step types (layer.Assign target operator args)) (check_step (layer.Assign target operator args))
unfolding TypedOps Given
assign_typed types target operator args = record {
  grows = growing;
  firsts = λ known known_after is firsts.
      let found = assigns_typed target operator args known known_after is in
      firsts_to (length types) (assigning target found.type known) known_after found.is
      (firsts_assigning (length types) known target found.type (judged_one types known operator args found.type firsts found.judged_is) firsts);
  typed = λ place known known_after is ready firsts agrees.
      let found = assigns_typed target operator args known known_after is in
      record {
        kinds = found.type ∷ [];
        many = omega arith;
        env = λ look given env.
            env_defining types look place.operator place.defined target
            (λ below. given.0
            ∙ sym (agrees target found.type (ap (λ (k : Known). first_of k) (sym found.is)
            ∙ assigned_type target found.type known (let e = firsts.many in omega (arith, e, below)) found.kept))) env;
        carries = λ look given env stretch end later.
            typed_precede look place.operator end (operator_of types place.defined place.statement operator args ∷ []) stretch (
              inl (operator_typed types look place.operator known place.defined place.statement operator args found.type
                  (record { env = env; ready = ready; firsts = firsts; agrees = grows_agree types known known_after (growing known known_after is) agrees })
                  found.judged_is given.0),
              tt,
            )
            later;
      };
}
  where
    first_of : Known → Option VarType
    first_of known = first_type known target

    growing : (known known_after : Known) → check_step (layer.Assign target operator args) known ≡ Ok known_after → Grows known known_after
    growing known known_after is =
        let found = assigns_typed target operator args known known_after is in
        grows_to known (assigning target found.type known) known_after found.is (grows_assigning target found.type known)

write_typed : (types : List VarType) (operator : OpSpec) (args : List ℕ)
    → TypedFlows types (weave_step types (layer.Write operator args)) (check_step (layer.Write operator args))
unfolding TypedOps Given
write_typed types operator args = record {
  grows = growing;
  firsts = λ known known_after is firsts.
      let found = writes_typed operator args known known_after is in
      firsts_to (length types) (passed known) known_after found.is (firsts_passed (length types) known firsts);
  typed = λ place known known_after is ready firsts agrees.
      let found = writes_typed operator args known known_after is in
      record {
        kinds = found.type ∷ [];
        many = omega arith;
        env = λ look given env. env_more types look place.operator (place.operator + 1) place.defined (omega arith) env;
        carries = λ look given env stretch end later.
            typed_precede look place.operator end (operator_of types place.defined place.statement operator args ∷ []) stretch (
              inl (operator_typed types look place.operator known place.defined place.statement operator args found.type
                  (record { env = env; ready = ready; firsts = firsts; agrees = grows_agree types known known_after (growing known known_after is) agrees })
                  found.judged_is given.0),
              tt,
            )
            later;
      };
}
  where
    growing : (known known_after : Known) → check_step (layer.Write operator args) known ≡ Ok known_after → Grows known known_after
    growing known known_after is =
        let found = writes_typed operator args known known_after is in
        grows_to known (passed known) known_after found.is (grows_passed known)

-- ---- conditions

-- a condition gives a truth value, and is typed wherever its arguments are defined
abbrev Conditions : List VarType → OpSpec → List ℕ → ℕ → ℕ → Defined → Type 0
Conditions types operator args number statement defined =
    (look : Looks) → Env types look number defined → look number ≡ scalar Truth → IsPlain look number (operator_of types defined statement operator args)

condition_typed : (types : List VarType) (operator : OpSpec) (args : List ℕ) (number statement : ℕ) (defined : Defined) (known known_after : Known)
    → DecidesTyped operator args known known_after → Ready (length types) known defined → Firsts (length types) known → Agrees types known
    → Conditions types operator args number statement defined
condition_typed types operator args number statement defined known known_after decided ready firsts agrees = λ look env is.
    operator_typed types look number known defined statement operator args decided.type
    (record { env = env; ready = ready; firsts = firsts; agrees = agrees }) decided.judged_is (is ∙ sym truth)
  where
    truth : decided.type ≡ scalar Truth
    truth = same_type_is decided.type (scalar Truth) (as_same decided.type decided.condition)
      where
        as_same : (type : VarType) → is_condition type ≡ true → (same_truth type.scalar true && same_types type.cols (Truth ∷ [])) ≡ true
        as_same type is = by_scalar type.scalar (same_types type.cols (Truth ∷ [])) is
          where
            by_scalar : (a b : Bool) → (a && b) ≡ true → (same_truth a true && b) ≡ true
            by_scalar true b is = is
            by_scalar false b is = absurd cc

-- ---- an `if`

abbrev inside_of : WeavePlace → WeavePlace
inside_of place = record { block = place.block + 1; operator = place.operator + 1; statement = place.statement + 1; defined = place.defined }

abbrev beside_of : List Weave → WeavePlace → WeavePlace
beside_of on_true place = record {
  block = place.block + 2 + weave_adds on_true;
  operator = (woven_all on_true (inside_of place)).operator;
  statement = place.statement + 1 + weave_counts on_true;
  defined = place.defined;
}

if_woven : (types : List VarType) (operator : OpSpec) (args : List ℕ) (on_true on_false : List Weave) (place : WeavePlace)
    → Conditions types operator args place.operator place.statement place.defined
    → Typed types (inside_of place) (woven_all on_true (inside_of place))
    → Typed types (beside_of on_true place) (woven_all on_false (beside_of on_true place))
    → Typed types place (woven_branch types operator args on_true on_false place)
unfolding TypedOps TypedBlocks Given
if_woven types operator args on_true on_false place condition first second = record {
  kinds = scalar Truth ∷ rest;
  many = (let e = length-append first.kinds (second.kinds ++ map (type_in types) phis) in let f = length-append second.kinds (map (type_in types) phis) in
      let g = kinds_length types phis in let h = first.many in let k = second.many in omega (arith, e, f, g, h, k));
  env = λ look given env.
      env_phis types look two.operator (on_both one.defined two.defined) phis (of_phis look given)
      (env_both types look two.operator one.defined two.defined
      (env_more types look one.operator two.operator one.defined grows (first.env look (of_one look given) (env_in look env))));
  carries = λ look given env stretch end later. (
    (inl (condition look env given.0), tt),
    (
      (λ branch. record {
        before = [];
        last = operator_of types place.defined place.statement operator args;
        is = refl;
        no_phi = refl;
        truth = (let e : place.operator + 0 ≡ place.operator = omega arith in ap look e) ∙ given.0;
      }),
      typed_append look (place.operator + 1) (stretch_blocks (one.onto (just_left (Jump join))) ++ stretch_blocks (two.onto (just_left (Jump join))))
          (stretch_blocks (operators_first (phis_of one.defined two.defined phis) stretch)) two.operator end
          (typed_append look (place.operator + 1) (stretch_blocks (one.onto (just_left (Jump join)))) (stretch_blocks (two.onto (just_left (Jump join)))) one.operator two.operator
          (first.carries look (of_one look given) (env_in look env) (just_left (Jump join)) one.operator (typed_left look one.operator join))
          (second.carries look (of_two look given) (env_two look env) (just_left (Jump join)) two.operator (typed_left look two.operator join)))
          (typed_precede look two.operator end (phis_of one.defined two.defined phis) stretch
          (phis_typed types look two.operator one.operator two.operator one.defined two.defined phis grows (first.env look (of_one look given) (env_in look env))
          (second.env look (of_two look given) (env_two look env)) (join_chosen types on_true on_false one.defined two.defined) (of_phis look given))
          (let e = ap (λ (n : ℕ). two.operator + n) (sym (phis_length one.defined two.defined phis)) in
          subst (λ (n : ℕ). TypedBlocks look n (stretch_blocks stretch) end) e later)),
    ),
  );
}
  where
    one : Woven
    one = woven_all on_true (inside_of place)

    two : Woven
    two = woven_all on_false (beside_of on_true place)

    join : ℕ
    join = place.block + 2 + weave_adds on_true + 1 + weave_adds on_false

    phis : List ℕ
    phis = join_phis (length types) on_true on_false one.defined two.defined

    rest : List VarType
    rest = first.kinds ++ (second.kinds ++ map (type_in types) phis)

    grows : one.operator ≤ two.operator
    grows = let e = second.many in omega (arith, e)

    of_one : (look : Looks) → Given look place.operator (scalar Truth ∷ rest) → Given look (place.operator + 1) first.kinds
    of_one look given = (given_split look (place.operator + 1) first.kinds (second.kinds ++ map (type_in types) phis) given.1).0

    later_of : (look : Looks) → Given look place.operator (scalar Truth ∷ rest) → Given look one.operator (second.kinds ++ map (type_in types) phis)
    later_of look given =
        subst (λ (n : ℕ). Given look n (second.kinds ++ map (type_in types) phis)) first.many
        (given_split look (place.operator + 1) first.kinds (second.kinds ++ map (type_in types) phis) given.1).1

    of_two : (look : Looks) → Given look place.operator (scalar Truth ∷ rest) → Given look one.operator second.kinds
    of_two look given = (given_split look one.operator second.kinds (map (type_in types) phis) (later_of look given)).0

    of_phis : (look : Looks) → Given look place.operator (scalar Truth ∷ rest) → Given look two.operator (map (type_in types) phis)
    of_phis look given =
        subst (λ (n : ℕ). Given look n (map (type_in types) phis)) second.many
        (given_split look one.operator second.kinds (map (type_in types) phis) (later_of look given)).1

    env_in : (look : Looks) → Env types look place.operator place.defined → Env types look (place.operator + 1) place.defined
    env_in look env = env_more types look place.operator (place.operator + 1) place.defined (omega arith) env

    env_two : (look : Looks) → Env types look place.operator place.defined → Env types look one.operator place.defined
    env_two look env = env_more types look place.operator one.operator place.defined (let e = first.many in omega (arith, e)) env

pub record IfParts (operator : OpSpec) (args : List ℕ) (on_true on_false : List Check) (known known_after : Known) : Type 0 where
  pub inside : Known
  pub one : Known
  pub other : Known
  pub decided : DecidesTyped operator args known inside
  pub first : in_order on_true inside ≡ Ok one
  pub second : in_order on_false (with_assigned inside.assigned one) ≡ Ok other
  pub is : with_assigned (assigned_in_both one.assigned other.assigned) other ≡ known_after

if_parts : (operator : OpSpec) (args : List ℕ) (on_true on_false : List Check) (known known_after : Known)
    → check_step (layer.If operator args on_true on_false) known ≡ Ok known_after → IfParts operator args on_true on_false known known_after
if_parts operator args on_true on_false known known_after is =
    let parts = then_known (decided_by operator args) (branched on_true on_false) known known_after is in
    let rejoins = rejoins_known on_true on_false parts.middle known_after parts.second in
    record {
      inside = parts.middle;
      one = rejoins.one;
      other = rejoins.other;
      decided = decides_typed operator args known parts.middle parts.first;
      first = rejoins.first;
      second = rejoins.second;
      is = rejoins.is;
    }

if_typed : (types : List VarType) (operator : OpSpec) (args : List ℕ) (on_true on_false : List Weave) (checks_true checks_false : List Check)
    → TypedFlows types (all_weave on_true) (in_order checks_true) → TypedFlows types (all_weave on_false) (in_order checks_false)
    → TypedFlows types (weave_step types (layer.If operator args on_true on_false)) (check_step (layer.If operator args checks_true checks_false))
if_typed types operator args on_true on_false checks_true checks_false first second = record {
  grows = λ known known_after is. let p = if_parts operator args checks_true checks_false known known_after is in
      grows_then known p.inside known_after (to_inside known known_after p) (inside_grows known known_after p);
  firsts = λ known known_after is firsts. let p = if_parts operator args checks_true checks_false known known_after is in
      firsts_to (length types) (with_assigned (assigned_in_both p.one.assigned p.other.assigned) p.other) known_after p.is
      (firsts_joined (length types) p.one p.other (first.firsts p.inside p.one p.first (inside_firsts known known_after p firsts))
      (second.firsts (with_assigned p.inside.assigned p.one) p.other p.second (beside_firsts known known_after p firsts)));
  typed = λ place known known_after is ready firsts agrees. let p = if_parts operator args checks_true checks_false known known_after is in
      let inside_ready = subst (λ (k : Known). Ready (length types) k place.defined) p.decided.is (passed_ready (length types) known place.defined ready) in
      if_woven types operator args on_true on_false place
      (condition_typed types operator args place.operator place.statement place.defined known p.inside p.decided ready firsts
      (grows_agree types known known_after (grows_then known p.inside known_after (to_inside known known_after p) (inside_grows known known_after p)) agrees))
      (first.typed (inside_of place) p.inside p.one p.first inside_ready (inside_firsts known known_after p firsts)
      (grows_agree types p.one known_after (one_grows known known_after p) agrees))
      (second.typed (beside_of on_true place) (with_assigned p.inside.assigned p.one) p.other p.second
      (beside_ready (length types) p.inside p.one place.defined inside_ready) (beside_firsts known known_after p firsts)
      (grows_agree types p.other known_after (other_grows known known_after p) agrees));
}
  where
    Parts : Known → Known → Type 0
    Parts known known_after = IfParts operator args checks_true checks_false known known_after

    to_inside : (known known_after : Known) (p : Parts known known_after) → Grows known p.inside
    to_inside known known_after p = grows_to known (passed known) p.inside p.decided.is (grows_passed known)

    other_grows : (known known_after : Known) (p : Parts known known_after) → Grows p.other known_after
    other_grows known known_after p =
        grows_to p.other (with_assigned (assigned_in_both p.one.assigned p.other.assigned) p.other) known_after p.is
        (grows_beside (assigned_in_both p.one.assigned p.other.assigned) p.other)

    one_grows : (known known_after : Known) (p : Parts known known_after) → Grows p.one known_after
    one_grows known known_after p =
        grows_then p.one (with_assigned p.inside.assigned p.one) known_after (grows_beside p.inside.assigned p.one)
        (grows_then (with_assigned p.inside.assigned p.one) p.other known_after (second.grows (with_assigned p.inside.assigned p.one) p.other p.second)
        (other_grows known known_after p))

    inside_grows : (known known_after : Known) (p : Parts known known_after) → Grows p.inside known_after
    inside_grows known known_after p =
        grows_then p.inside p.one known_after (first.grows p.inside p.one p.first) (one_grows known known_after p)

    inside_firsts : (known known_after : Known) (p : Parts known known_after) → Firsts (length types) known → Firsts (length types) p.inside
    inside_firsts known known_after p firsts = firsts_to (length types) (passed known) p.inside p.decided.is (firsts_passed (length types) known firsts)

    beside_firsts : (known known_after : Known) (p : Parts known known_after) → Firsts (length types) known
        → Firsts (length types) (with_assigned p.inside.assigned p.one)
    beside_firsts known known_after p firsts =
        firsts_beside (length types) p.inside p.one (first.grows p.inside p.one p.first) (inside_firsts known known_after p firsts)
        (first.firsts p.inside p.one p.first (inside_firsts known known_after p firsts))

-- ---- a `while`

abbrev phis_at : List VarType → List Weave → WeavePlace → List ℕ
phis_at types body place = loop_phis (length types) body place.defined

abbrev turn_of : List VarType → List Weave → WeavePlace → WeavePlace
turn_of types body place = record {
  block = place.block + 2;
  operator = place.operator + length (phis_at types body place) + 1;
  statement = place.statement + 1;
  defined = with_phis place.defined place.operator (phis_at types body place);
}

while_woven : (types : List VarType) (operator : OpSpec) (args : List ℕ) (body : List Weave) (place : WeavePlace)
    → Conditions types operator args (place.operator + length (phis_at types body place)) place.statement (with_phis place.defined place.operator (phis_at types body place))
    → ((variable : ℕ) → is_some (place.defined variable) ≡ true → is_some ((woven_all body (turn_of types body place)).defined variable) ≡ true)
    → Typed types (turn_of types body place) (woven_all body (turn_of types body place))
    → Typed types place (woven_loop types operator args body place)
unfolding TypedOps TypedBlocks Given
while_woven types operator args body place condition stays first = record {
  kinds = map (type_in types) phis ++ (scalar Truth ∷ first.kinds);
  many = (let e = length-append (map (type_in types) phis) (scalar Truth ∷ first.kinds) in let f = kinds_length types phis in let g = first.many in omega (arith, e, f, g));
  env = λ look given env. env_more types look at turn.operator inside (let g = first.many in omega (arith, g)) (env_inside look given env);
  carries = λ look given env stretch end later.
      let e : place.operator ≡ place.operator + 0 = omega arith in
      let f = ap (λ (n : ℕ). place.operator + n) (sym (phis_length place.defined turn.defined phis)) in (
        tt,
        (
          (λ branch. absurd (no_branch branch)),
          subst (λ (n : ℕ). TypedBlocks look n (stretch_blocks (operators_first (phis_of place.defined turn.defined phis) (header stretch))) end) e
              (typed_precede look place.operator end (phis_of place.defined turn.defined phis) (header stretch)
              (phis_typed types look place.operator place.operator turn.operator place.defined turn.defined phis (omega arith) env
              (first.env look (of_turn look given) (env_turn look given env)) (loop_chosen types body place.defined turn.defined stays) (of_phis look given))
              (subst (λ (n : ℕ). TypedBlocks look n (stretch_blocks (header stretch)) end) f (
                (inl (condition look (env_inside look given env) (of_condition look given)), tt),
                (
                  (λ branch. record {
                    before = [];
                    last = operator_of types inside place.statement operator args;
                    is = refl;
                    no_phi = refl;
                    truth = (let g : at + 0 ≡ at = omega arith in ap look g) ∙ of_condition look given;
                  }),
                  typed_append look (at + 1) (stretch_blocks (turn.onto (just_left (Jump (place.block + 1))))) (stretch_blocks stretch) turn.operator end
                      (first.carries look (of_turn look given) (env_turn look given env) (just_left (Jump (place.block + 1))) turn.operator
                      (typed_left look turn.operator (place.block + 1))) later,
                ),
              ))),
        ),
      );
}
  where
    phis : List ℕ
    phis = phis_at types body place

    inside : Defined
    inside = with_phis place.defined place.operator phis

    at : ℕ
    at = place.operator + length phis

    turn : Woven
    turn = woven_all body (turn_of types body place)

    header : WovenStretch → WovenStretch
    header stretch = record {
      first = record { operators = operator_of types inside place.statement operator args ∷ []; leave = Branch (place.block + 2) (place.block + 3 + weave_adds body) };
      later = stretch_blocks (turn.onto (just_left (Jump (place.block + 1)))) ++ stretch_blocks stretch;
    }

    All : Looks → Type 0
    All look = Given look place.operator (map (type_in types) phis ++ (scalar Truth ∷ first.kinds))

    of_phis : (look : Looks) → All look → Given look place.operator (map (type_in types) phis)
    of_phis look given = (given_split look place.operator (map (type_in types) phis) (scalar Truth ∷ first.kinds) given).0

    later_of : (look : Looks) → All look → Given look at (scalar Truth ∷ first.kinds)
    later_of look given =
        subst (λ (n : ℕ). Given look (place.operator + n) (scalar Truth ∷ first.kinds)) (kinds_length types phis)
        (given_split look place.operator (map (type_in types) phis) (scalar Truth ∷ first.kinds) given).1

    of_condition : (look : Looks) → All look → look at ≡ scalar Truth
    of_condition look given = (later_of look given).0

    of_turn : (look : Looks) → All look → Given look (at + 1) first.kinds
    of_turn look given = (later_of look given).1

    env_inside : (look : Looks) → All look → Env types look place.operator place.defined → Env types look at inside
    env_inside look given env = env_phis types look place.operator place.defined phis (of_phis look given) env

    env_turn : (look : Looks) → All look → Env types look place.operator place.defined → Env types look (at + 1) inside
    env_turn look given env = env_more types look at (at + 1) inside (omega arith) (env_inside look given env)

pub record WhileParts (operator : OpSpec) (args : List ℕ) (body : List Check) (known known_after : Known) : Type 0 where
  pub inside : Known
  pub last : Known
  pub decided : DecidesTyped operator args known inside
  pub first : in_order body inside ≡ Ok last
  pub is : with_assigned inside.assigned last ≡ known_after

while_parts : (operator : OpSpec) (args : List ℕ) (body : List Check) (known known_after : Known)
    → check_step (layer.While operator args body) known ≡ Ok known_after → WhileParts operator args body known known_after
while_parts operator args body known known_after is =
    let parts = then_known (decided_by operator args) (looped body) known known_after is in
    let turns = turns_known body parts.middle known_after parts.second in
    record {
      inside = parts.middle;
      last = turns.last;
      decided = decides_typed operator args known parts.middle parts.first;
      first = turns.first;
      is = turns.is;
    }

while_typed : (types : List VarType) (operator : OpSpec) (args : List ℕ) (body : List Weave) (checks : List Check)
    → Flows (length types) (all_weave body) (in_order checks) → TypedFlows types (all_weave body) (in_order checks)
    → TypedFlows types (weave_step types (layer.While operator args body)) (check_step (layer.While operator args checks))
while_typed types operator args body checks flows first = record {
  grows = λ known known_after is. let p = while_parts operator args checks known known_after is in
      grows_then known p.inside known_after (to_inside known known_after p) (inside_grows known known_after p);
  firsts = λ known known_after is firsts. let p = while_parts operator args checks known known_after is in
      firsts_to (length types) (with_assigned p.inside.assigned p.last) known_after p.is
      (firsts_beside (length types) p.inside p.last (first.grows p.inside p.last p.first) (inside_firsts known known_after p firsts)
      (first.firsts p.inside p.last p.first (inside_firsts known known_after p firsts)));
  typed = λ place known known_after is ready firsts agrees. let p = while_parts operator args checks known known_after is in
      let ready_inside = looped_ready place known ready in
      let inside_ready = subst (λ (k : Known). Ready (length types) k (turn_of types body place).defined) p.decided.is
      (passed_ready (length types) known (turn_of types body place).defined ready_inside) in
      while_woven types operator args body place
      (condition_typed types operator args (place.operator + length (phis_at types body place)) place.statement (turn_of types body place).defined known p.inside
      p.decided ready_inside firsts
      (grows_agree types known known_after (grows_then known p.inside known_after (to_inside known known_after p) (inside_grows known known_after p)) agrees))
      (λ variable some. (flows.ends (turn_of types body place)).stays variable (phis_stay place.defined place.operator (phis_at types body place) variable some))
      (first.typed (turn_of types body place) p.inside p.last p.first inside_ready (inside_firsts known known_after p firsts)
      (grows_agree types p.last known_after (last_grows known known_after p) agrees));
}
  where
    Parts : Known → Known → Type 0
    Parts known known_after = WhileParts operator args checks known known_after

    to_inside : (known known_after : Known) (p : Parts known known_after) → Grows known p.inside
    to_inside known known_after p = grows_to known (passed known) p.inside p.decided.is (grows_passed known)

    last_grows : (known known_after : Known) (p : Parts known known_after) → Grows p.last known_after
    last_grows known known_after p =
        grows_to p.last (with_assigned p.inside.assigned p.last) known_after p.is (grows_beside p.inside.assigned p.last)

    inside_grows : (known known_after : Known) (p : Parts known known_after) → Grows p.inside known_after
    inside_grows known known_after p =
        grows_then p.inside p.last known_after (first.grows p.inside p.last p.first) (last_grows known known_after p)

    inside_firsts : (known known_after : Known) (p : Parts known known_after) → Firsts (length types) known → Firsts (length types) p.inside
    inside_firsts known known_after p firsts = firsts_to (length types) (passed known) p.inside p.decided.is (firsts_passed (length types) known firsts)

    looped_ready : (place : WeavePlace) (known : Known) → Ready (length types) known place.defined → Ready (length types) known (turn_of types body place).defined
    looped_ready place known ready = record {
      many = ready.many;
      each = λ variable is. phis_stay place.defined place.operator (phis_at types body place) variable (ready.each variable is);
    }

-- ---- each statement

abbrev IsTyped : List VarType → Stmt → Type 0
IsTyped types stmt = TypedFlows types (weave_of types stmt) (check_of stmt)

abbrev Proved : List VarType → Type 0
Proved types = (stmt : Stmt) × IsTyped types stmt

abbrev only : (types : List VarType) → Proved types → Stmt
only types proved = proved.0

inner_typed : (types : List VarType) (block : List (Proved types))
    → TypedFlows types (all_weave (map (weave_of types) (map (only types) block))) (in_order (map check_of (map (only types) block)))
inner_typed types [] = none_typed types
inner_typed types (first ∷ later) =
    more_typed types (weave_of types first.0) (map (weave_of types) (map (only types) later)) (check_of first.0) (map check_of (map (only types) later))
    (one_flows types first.0) first.1 (inner_typed types later)

rolled : (types : List VarType) (one : Stmt-F Stmt)
    → TypedFlows types (weave_step types (map-Stmt Stmt Weave (weave_of types) one)) (check_step (map-Stmt Stmt Check check_of one)) → IsTyped types (roll-Stmt one)
rolled types one flows = rw (fold-roll-Stmt Weave (weave_step types) one, fold-roll-Stmt Check check_step one) flows

layer_typed : (types : List VarType) (one : Stmt-F (Proved types)) → IsTyped types (roll-Stmt (map-Stmt (Proved types) Stmt (only types) one))
layer_typed types (layer.Assign target operator args) = rolled types (layer.Assign target operator args) (assign_typed types target operator args)
layer_typed types (layer.Write operator args) = rolled types (layer.Write operator args) (write_typed types operator args)
layer_typed types (layer.If operator args on_true on_false) =
    rolled types (layer.If operator args (map (only types) on_true) (map (only types) on_false))
    (if_typed types operator args _ _ (map check_of (map (only types) on_true)) (map check_of (map (only types) on_false)) (inner_typed types on_true) (inner_typed types on_false))
layer_typed types (layer.While operator args body) =
    rolled types (layer.While operator args (map (only types) body))
    (while_typed types operator args _ (map check_of (map (only types) body)) (block_flows types (map (only types) body)) (inner_typed types body))

one_typed : (types : List VarType) (stmt : Stmt) → IsTyped types stmt
one_typed types = ind-Stmt (IsTyped types) (λ one inner same. subst (λ some. IsTyped types (roll-Stmt some)) same (layer_typed types inner))

pub block_typed : (types : List VarType) (block : List Stmt) → TypedFlows types (all_weave (map (weave_of types) block)) (in_order (map check_of block))
block_typed types [] = none_typed types
block_typed types (first ∷ later) =
    more_typed types (weave_of types first) (map (weave_of types) later) (check_of first) (map check_of later) (one_flows types first) (one_typed types first)
    (block_typed types later)
