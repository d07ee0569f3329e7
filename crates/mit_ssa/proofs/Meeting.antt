-- Which of the variables that statements assign have phis, and what they are after the statements.
use Rattle.std.proofs.Common.{◌≡◌, ◌∙◌, ◌<◌, ◌≤◌, ◌≢◌, ◌+◌, ℕ, zero, suc, List, [], ◌∷◌, ◌++◌, length, map, ap, sym, subst, refl, arith, cond, eqb, ltb, Bool, true, false, ◌&&◌, ◌||◌, Option, is_some, ◌⊎◌, inl, inr}
use Rattle.std.specs.List.{filter, range_with_len}
use Rattle.std.proofs.lemmas.Bool.{or_parts}
use Rattle.std.proofs.lemmas.Bool.Decides.{eqb_tells, nat_tests}
use Rattle.std.proofs.lemmas.List.{length-map}
use Rattle.mit_ops.specs.declared.kinds.OpSpec.{OpSpec}
use Rattle.mit_ops.specs.declared.leave.Leave.TheVariants.{Branch, Jump}
use Rattle.mit_ops.specs.declared.types.VarType.{VarType}
use Rattle.mit_script.specs.declared.tree.Stmt.{Stmt}
use Rattle.mit_ssa.specs.Weaving.{IsAt, Joined, Rise, Turned, Weaves, both_kept, builder_place, closed_blocks, defined_variables, has_mark, in_loop, inside_at, join_kept, joined_by, kept_of, kept_phis, looked, loop_kept, put_in, putting, turned_by, with_table}
use Rattle.mit_ssa.specs.Woven.{Defined, WeavePlace, assigned_in, on_both, operator_of, phi_of, phis_of, weave_of, with_phis, woven_all}
use Rattle.mit_ssa.specs.declared.block.Operator.{Operator}
use Rattle.mit_ssa.specs.declared.build.Builder.{Builder}
use Rattle.mit_ssa.specs.declared.defined.Definition.{Definition}
use Rattle.mit_ssa.proofs.DefinitionsEnds.{both_same}
use Rattle.mit_ssa.proofs.Keeping.{block_keeps, loop_keeps}
use Rattle.mit_ssa.proofs.Laid.{turned_is}

-- ---- numbers that rise

-- those below the first are not among them
unmarked_below : (from below : ℕ) (xs : List ℕ) → Rise from xs → below < from → has_mark xs below ≡ false
unfolding Rise
unmarked_below from below [] rise less = refl
unmarked_below from below (x ∷ xs) rise less =
    let other : eqb below x ≡ false = let a = rise.0 in grind (arith, nat_tests) in
    let a = rise.0 in
    rw other (unmarked_below (suc x) below xs rise.1 (omega (arith, a, less)))

-- none of those that rise from a number is below it
none_below : (p : ℕ → Bool) (from : ℕ) (xs : List ℕ) (end : ℕ) → Rise from xs → end ≤ from → filter (λ v. ltb v end && p v) xs ≡ []
unfolding Rise
none_below p from [] end rise past = refl
none_below p from (x ∷ xs) end rise past =
    let a = rise.0 in
    let over : ltb x end ≡ false = grind (arith, nat_tests) in
    rw over (none_below p (suc x) xs end rise.1 (omega (arith, a, past)))

-- where the first number of a range is the first of these, and where it is not
picked_same : (p m : ℕ → Bool) (from count end x : ℕ) (xs : List ℕ) → from + suc count ≡ end → Rise from (x ∷ xs)
    → ((v : ℕ) → from ≤ v → m v ≡ has_mark (x ∷ xs) v) → eqb from x ≡ true → from ≡ x
    → (Rise (from + 1) xs → ((v : ℕ) → from + 1 ≤ v → m v ≡ has_mark xs v)
    → filter (λ v. ltb v end && p v) xs ≡ filter (λ v. m v && p v) (range_with_len (from + 1) count))
    → filter (λ v. ltb v end && p v) (x ∷ xs) ≡ filter (λ v. m v && p v) (range_with_len from (suc count))
unfolding Rise
picked_same p m from count end x xs size rise same equal is later =
    let within : ltb x end ≡ true = grind (arith, nat_tests) in
    let one : m from ≡ true = same from (omega arith) ∙ rw equal refl in
    let next : suc x ≡ from + 1 = omega (arith, is) in
    let rest = later (subst (λ (n : ℕ). Rise n xs) next rise.1)
    (λ v low. let other : eqb v x ≡ false = grind (arith, nat_tests) in same v (omega (arith, low)) ∙ ap (λ (b : Bool). b || has_mark xs v) other) in
    rw (within, one) (λ i. cond (p (sym is i)) (sym is i ∷ rest i) (rest i))

picked_other : (p m : ℕ → Bool) (from count end x : ℕ) (xs : List ℕ) → Rise from (x ∷ xs)
    → ((v : ℕ) → from ≤ v → m v ≡ has_mark (x ∷ xs) v) → eqb from x ≡ false
    → (Rise (from + 1) (x ∷ xs)
    → filter (λ v. ltb v end && p v) (x ∷ xs) ≡ filter (λ v. m v && p v) (range_with_len (from + 1) count))
    → filter (λ v. ltb v end && p v) (x ∷ xs) ≡ filter (λ v. m v && p v) (range_with_len from (suc count))
unfolding Rise
picked_other p m from count end x xs rise same not later =
    let a = rise.0 in
    let less : from < x = grind (arith, nat_tests) in
    let never : m from ≡ false = same from (omega arith) ∙ unmarked_below x from (x ∷ xs) (omega arith, rise.1) less in
    rw never (later (omega (arith, less), rise.1))

none_rise : (from : ℕ) → Rise from []
unfolding Rise
none_rise from = tt

picked_by : (p m : ℕ → Bool) (from count end : ℕ) (xs : List ℕ) → from + count ≡ end → Rise from xs → ((v : ℕ) → from ≤ v → m v ≡ has_mark xs v)
    → filter (λ v. ltb v end && p v) xs ≡ filter (λ v. m v && p v) (range_with_len from count)
picked_by p m from zero end xs size rise same = none_below p from xs end rise (omega (arith, size))
picked_by p m from (suc count) end [] size rise same =
    let never : m from ≡ false = same from (omega arith) in
    rw never (picked_by p m (from + 1) count end [] (omega (arith, size)) (none_rise (from + 1)) (λ v low. same v (omega (arith, low))))
picked_by p m from (suc count) end (x ∷ xs) size rise same = by_test (eqb_tells from x)
    (λ rise' same'. picked_by p m (from + 1) count end xs (omega (arith, size)) rise' same')
    (λ rise'. picked_by p m (from + 1) count end (x ∷ xs) (omega (arith, size)) rise' (λ v low. same v (omega (arith, low))))
  where
    by_test : ((eqb from x ≡ true) × (from ≡ x)) ⊎ ((eqb from x ≡ false) × (from ≢ x))
        → (Rise (from + 1) xs → ((v : ℕ) → from + 1 ≤ v → m v ≡ has_mark xs v)
        → filter (λ v. ltb v end && p v) xs ≡ filter (λ v. m v && p v) (range_with_len (from + 1) count))
        → (Rise (from + 1) (x ∷ xs)
        → filter (λ v. ltb v end && p v) (x ∷ xs) ≡ filter (λ v. m v && p v) (range_with_len (from + 1) count))
        → filter (λ v. ltb v end && p v) (x ∷ xs) ≡ filter (λ v. m v && p v) (range_with_len from (suc count))
    by_test (inl is) here later = picked_same p m from count end x xs size rise same is.0 is.1 here
    by_test (inr not) here later = picked_other p m from count end x xs rise same not.0 later

-- the numbers of a range that are among these and pass a test
picked : (p : ℕ → Bool) (count : ℕ) (xs : List ℕ) → Rise 0 xs → filter (λ v. ltb v count && p v) xs ≡ filter (λ v. has_mark xs v && p v) (range_with_len 0 count)
picked p count xs rise = picked_by p (has_mark xs) 0 count count xs (omega arith) rise (λ v low. refl)

-- ---- what was kept of variables

filter_kept : (p : Definition → Bool) (defined : Defined) (vs : List ℕ)
    → filter p (kept_of defined vs) ≡ kept_of defined (filter (λ v. p (record { variable = v; value = defined v })) vs)
filter_kept p defined [] = refl
filter_kept p defined (v ∷ vs) = by_test (p (record { variable = v; value = defined v })) (filter_kept p defined vs)
  where
    by_test : (passes : Bool)
        → filter p (kept_of defined vs) ≡ kept_of defined (filter (λ v. p (record { variable = v; value = defined v })) vs)
        → cond passes (record { variable = v; value = defined v } ∷ filter p (kept_of defined vs)) (filter p (kept_of defined vs))
        ≡ kept_of defined (cond passes (v ∷ filter (λ v. p (record { variable = v; value = defined v })) vs) (filter (λ v. p (record { variable = v; value = defined v })) vs))
    by_test true later = ap (λ (kept : List Definition). record { variable = v; value = defined v } ∷ kept) later
    by_test false later = later

variables_kept : (defined : Defined) (vs : List ℕ) → defined_variables (kept_of defined vs) ≡ vs
variables_kept defined [] = refl
variables_kept defined (v ∷ vs) = ap (λ (more : List ℕ). v ∷ more) (variables_kept defined vs)

phis_kept : (one other : Defined) (vs : List ℕ) → kept_phis (kept_of one vs) other ≡ phis_of one other vs
phis_kept one other [] = refl
phis_kept one other (v ∷ vs) = ap (λ (more : List Operator). phi_of one other v ∷ more) (phis_kept one other vs)

both_are : (one other : Defined) (vs : List ℕ) → both_kept (kept_of one vs) other ≡ kept_of (on_both one other) vs
both_are one other [] = refl
both_are one other (v ∷ vs) = ap (λ (more : List Definition). record { variable = v; value = on_both one other v } ∷ more) (both_are one other vs)

and_assoc : (a b c : Bool) → (a && (b && c)) ≡ ((a && b) && c)
and_assoc true b c = refl
and_assoc false b c = refl

pub join_is : (variables : ℕ) (marks : List ℕ) (one other : Defined) → Rise 0 marks
    → join_kept variables (kept_of one marks) other ≡ kept_of one (joined_by variables marks one other)
join_is variables marks one other rise =
    filter_kept (λ kept. ltb kept.variable variables && is_some kept.value && is_some (other kept.variable)) one marks
    ∙ ap (kept_of one) ((λ i. filter (λ v. sym (and_assoc (ltb v variables) (is_some (one v)) (is_some (other v))) i) marks)
    ∙ (picked (λ v. is_some (one v) && is_some (other v)) variables marks rise
    ∙ (λ i. filter (λ v. and_assoc (has_mark marks v) (is_some (one v)) (is_some (other v)) i) (range_with_len 0 variables))))

pub loop_is : (variables : ℕ) (marks : List ℕ) (old : Defined) → Rise 0 marks
    → loop_kept variables (kept_of old marks) ≡ kept_of old (turned_by variables marks old)
loop_is variables marks old rise =
    filter_kept (λ kept. ltb kept.variable variables && is_some kept.value) old marks
    ∙ ap (kept_of old) (picked (λ v. is_some (old v)) variables marks rise)

-- ---- what is put in

put_kept : (is : Defined) (vs : List ℕ) (defined : Defined) (variable : ℕ)
    → put_in defined (kept_of is vs) variable ≡ cond (has_mark vs variable) (is variable) (defined variable)
unfolding put_in
put_kept is [] defined variable = refl
put_kept is (v ∷ vs) defined variable =
    put_kept is vs (putting defined v (is v)) variable ∙ by_test (has_mark vs variable) (eqb_tells variable v)
  where
    by_test : (later : Bool) → ((eqb variable v ≡ true) × (variable ≡ v)) ⊎ ((eqb variable v ≡ false) × (variable ≢ v))
        → cond later (is variable) (cond (eqb variable v) (is v) (defined variable)) ≡ cond (eqb variable v || later) (is variable) (defined variable)
    by_test true (inl same) = rw same.0 refl
    by_test false (inl same) = rw same.0 (ap is (sym same.1))
    by_test true (inr not) = rw not.0 refl
    by_test false (inr not) = rw not.0 refl

-- what stands at the marked variables, where the others are so already
pub restored : (is defined : Defined) (marks : List ℕ) → ((variable : ℕ) → has_mark marks variable ≡ false → defined variable ≡ is variable)
    → put_in defined (kept_of is marks) ≡ is
restored is defined marks off = λ i variable. (put_kept is marks defined variable ∙ by_mark variable (has_mark marks variable) refl) i
  where
    by_mark : (variable : ℕ) (mark : Bool) → has_mark marks variable ≡ mark → cond (has_mark marks variable) (is variable) (defined variable) ≡ is variable
    by_mark variable true there = rw there refl
    by_mark variable false gone = rw gone (off variable gone)

met : (one two : Defined) (marks : List ℕ) → ((variable : ℕ) → has_mark marks variable ≡ false → one variable ≡ two variable)
    → put_in two (both_kept (kept_of one marks) two) ≡ on_both one two
met one two marks off =
    ap (put_in two) (both_are one two marks)
    ∙ restored (on_both one two) two marks (λ variable gone. sym (both_same (one variable) (two variable) (two variable) (off variable gone) refl))

-- ---- an `if`

-- where the true branch begins
pub inside_is : (before outside inside : Builder) (table : List (Option ℕ)) → outside ≡ with_table before outside → table ≡ before.defined.items
    → IsAt (record { block = outside.block + 1; operator = outside.operator; statement = outside.statement; defined = looked table }) inside
    → IsAt (inside_at (builder_place before)) inside
inside_is before outside inside table out same fresh =
    subst (λ (at : WeavePlace). IsAt at inside)
    (λ i. record { block = (out i).block + 1; operator = (out i).operator; statement = (out i).statement; defined = looked (same i) }) fresh

-- what statements don't assign
pub still : (types : List VarType) (block : List Stmt) (count added : ℕ) (inside last : Builder) (was : Defined) (variable : ℕ)
    → (builder_place inside).defined ≡ was → Weaves count added (woven_all (map (weave_of types) block) (builder_place inside)) inside last
    → assigned_in (map (weave_of types) block) variable ≡ false → looked last.defined.items variable ≡ was variable
still types block count added inside last was variable there woven never =
    ap (λ (d : Defined). d variable) woven.defined
    ∙ (block_keeps types block (builder_place inside) variable never ∙ ap (λ (d : Defined). d variable) there)

-- where the false branch begins, what the true branch assigns is as before again
pub beside_is : (types : List VarType) (on_true on_false : List Stmt) (marks : List ℕ) (olds : List Definition) (before inside last first beside : Builder) (table : List (Option ℕ))
    (count added : ℕ)
    → ((variable : ℕ) → has_mark marks variable ≡ (assigned_in (map (weave_of types) on_true) variable || assigned_in (map (weave_of types) on_false) variable))
    → olds ≡ kept_of (looked before.defined.items) marks
    → IsAt (inside_at (builder_place before)) inside
    → Weaves count added (woven_all (map (weave_of types) on_true) (builder_place inside)) inside last
    → first ≡ with_table last first
    → looked table ≡ put_in (looked last.defined.items) olds
    → IsAt (record { block = first.block + 1; operator = first.operator; statement = first.statement; defined = looked table }) beside
    → IsAt (record { block = last.block + 1; operator = last.operator; statement = last.statement; defined = looked before.defined.items }) beside
beside_is types on_true on_false marks olds before inside last first beside table count added same kept at_true woven is put at_false =
    let back : looked table ≡ looked before.defined.items =
    put ∙ (ap (put_in (looked last.defined.items)) kept
    ∙ restored (looked before.defined.items) (looked last.defined.items) marks
    (λ variable gone. still types on_true count added inside last (looked before.defined.items) variable (ap (λ (at : WeavePlace). at.defined) at_true.there) woven
    (or_parts (assigned_in (map (weave_of types) on_true) variable) (assigned_in (map (weave_of types) on_false) variable) (sym (same variable) ∙ gone)).0)) in
    subst (λ (at : WeavePlace). IsAt at beside)
    (λ i. record { block = (is i).block + 1; operator = (is i).operator; statement = (is i).statement; defined = back i }) at_false

-- what no branch assigns is the same at the end of both
pub ends_alike : (types : List VarType) (on_true on_false : List Stmt) (marks : List ℕ) (was : Defined) (inside last beside second : Builder) (count added count' added' : ℕ)
    → ((variable : ℕ) → has_mark marks variable ≡ (assigned_in (map (weave_of types) on_true) variable || assigned_in (map (weave_of types) on_false) variable))
    → (builder_place inside).defined ≡ was → Weaves count added (woven_all (map (weave_of types) on_true) (builder_place inside)) inside last
    → (builder_place beside).defined ≡ was → Weaves count' added' (woven_all (map (weave_of types) on_false) (builder_place beside)) beside second
    → (variable : ℕ) → has_mark marks variable ≡ false → looked last.defined.items variable ≡ looked second.defined.items variable
ends_alike types on_true on_false marks was inside last beside second count added count' added' same one first two later variable gone =
    let parts = or_parts (assigned_in (map (weave_of types) on_true) variable) (assigned_in (map (weave_of types) on_false) variable) (sym (same variable) ∙ gone) in
    still types on_true count added inside last was variable one first parts.0
    ∙ sym (still types on_false count' added' beside second was variable two later parts.1)

-- a join by what was kept
pub join_met : (variables : ℕ) (marks : List ℕ) (ones : List Definition) (before outside one first two new : Builder) → Rise 0 marks
    → ones ≡ kept_of (looked one.defined.items) marks → outside ≡ with_table before outside → first ≡ with_table one first
    → ((variable : ℕ) → has_mark marks variable ≡ false → looked one.defined.items variable ≡ looked two.defined.items variable)
    → Joined (defined_variables (join_kept variables ones (looked two.defined.items))) (put_in (looked two.defined.items) (both_kept ones (looked two.defined.items)))
    (kept_phis (join_kept variables ones (looked two.defined.items)) (looked two.defined.items)) outside first two new
    → Joined (joined_by variables marks (looked one.defined.items) (looked two.defined.items)) (on_both (looked one.defined.items) (looked two.defined.items))
    (phis_of (looked one.defined.items) (looked two.defined.items) (joined_by variables marks (looked one.defined.items) (looked two.defined.items))) before one two new
join_met variables marks ones before outside one first two new rise kept out is off joined = record {
  block = joined.block;
  operator = joined.operator ∙ ap (λ (list : List ℕ). two.operator + length list) phis_are;
  few = joined.few;
  statement = joined.statement;
  defined = joined.defined ∙ (λ i. with_phis (both_is i) two.operator (phis_are i));
  operators = joined.operators ∙ (ap (λ list. kept_phis list (looked two.defined.items)) chosen ∙ phis_kept (looked one.defined.items) (looked two.defined.items) phis);
  blocks = joined.blocks
      ∙ (λ i. closed_blocks (Branch ((out i).block + 1) ((is i).block + 1)) (out i) ++ (closed_blocks (Jump (two.block + 1)) (is i) ++ closed_blocks (Jump (two.block + 1)) two));
}
  where
    phis : List ℕ
    phis = joined_by variables marks (looked one.defined.items) (looked two.defined.items)

    chosen : join_kept variables ones (looked two.defined.items) ≡ kept_of (looked one.defined.items) phis
    chosen = ap (λ list. join_kept variables list (looked two.defined.items)) kept ∙ join_is variables marks (looked one.defined.items) (looked two.defined.items) rise

    phis_are : defined_variables (join_kept variables ones (looked two.defined.items)) ≡ phis
    phis_are = ap defined_variables chosen ∙ variables_kept (looked one.defined.items) phis

    both_is : put_in (looked two.defined.items) (both_kept ones (looked two.defined.items)) ≡ on_both (looked one.defined.items) (looked two.defined.items)
    both_is = ap (λ list. put_in (looked two.defined.items) (both_kept list (looked two.defined.items))) kept
        ∙ met (looked one.defined.items) (looked two.defined.items) marks off

-- how many phis there are
pub join_size : (variables : ℕ) (marks : List ℕ) (ones : List Definition) (one two : Defined) → Rise 0 marks → ones ≡ kept_of one marks
    → length (join_kept variables ones two) ≡ length (joined_by variables marks one two)
join_size variables marks ones one two rise kept =
    ap length (ap (λ list. join_kept variables list two) kept ∙ join_is variables marks one two rise)
    ∙ length-map (joined_by variables marks one two) (λ v. record { variable = v; value = one v })

-- ---- a `while`

-- the variables that have phis
pub loop_size : (variables : ℕ) (marks : List ℕ) (olds phis : List Definition) (old : Defined) → Rise 0 marks → olds ≡ kept_of old marks → phis ≡ loop_kept variables olds
    → defined_variables phis ≡ turned_by variables marks old
loop_size variables marks olds phis old rise kept are =
    ap defined_variables (are ∙ (ap (loop_kept variables) kept ∙ loop_is variables marks old rise)) ∙ variables_kept old (turned_by variables marks old)

-- where the body begins
pub body_is : (before outside inside : Builder) (table : List (Option ℕ)) (vs due : List ℕ) → outside ≡ with_table before outside → table ≡ before.defined.items → vs ≡ due
    → IsAt (in_loop vs (record { block = outside.block; operator = outside.operator; statement = outside.statement; defined = looked table })) inside
    → IsAt (in_loop due (builder_place before)) inside
body_is before outside inside table vs due out same are fresh =
    subst (λ (at : WeavePlace). IsAt at inside)
    (λ i. in_loop (are i) (record { block = (out i).block; operator = (out i).operator; statement = (out i).statement; defined = looked (same i) })) fresh

-- what the body doesn't assign is the same at its end
pub turns_alike : (types : List VarType) (body : List Stmt) (marks : List ℕ) (old inside last : Builder) (count added : ℕ)
    → ((variable : ℕ) → has_mark marks variable ≡ assigned_in (map (weave_of types) body) variable)
    → IsAt (in_loop (turned_by (length types) marks (looked old.defined.items)) (builder_place old)) inside
    → Weaves count added (woven_all (map (weave_of types) body) (builder_place inside)) inside last
    → (variable : ℕ) → has_mark marks variable ≡ false → looked last.defined.items variable ≡ looked old.defined.items variable
turns_alike types body marks old inside last count added same fresh woven variable gone =
    let never = sym (same variable) ∙ gone in
    still types body count added inside last (with_phis (looked old.defined.items) old.operator (turned_by (length types) marks (looked old.defined.items))) variable
    (ap (λ (at : WeavePlace). at.defined) fresh.there) woven never
    ∙ (ap (λ list. with_phis (looked old.defined.items) old.operator list variable)
    (turned_is (length types) marks (map (weave_of types) body) (looked old.defined.items) same)
    ∙ loop_keeps (length types) old.operator (map (weave_of types) body) (looked old.defined.items) variable never)

-- the number after its phis
pub enter_number : (before outside : Builder) (phis : List Definition) (due : List ℕ) → outside ≡ with_table before outside → defined_variables phis ≡ due
    → outside.operator + length phis + 1 ≡ before.operator + length due + 1
enter_number before outside phis due out are =
    let size : length phis ≡ length due = sym (length-map phis (λ (one : Definition). one.variable)) ∙ ap length are in
    λ i. (out i).operator + size i + 1

-- a loop by what was kept
pub turn_met : (types : List VarType) (operator : OpSpec) (args : List ℕ) (variables : ℕ) (marks : List ℕ) (olds phis : List Definition) (old outside last new : Builder)
    → Rise 0 marks → olds ≡ kept_of (looked old.defined.items) marks → phis ≡ loop_kept variables olds → outside ≡ with_table old outside
    → ((variable : ℕ) → has_mark marks variable ≡ false → looked last.defined.items variable ≡ looked old.defined.items variable)
    → Turned types operator args (defined_variables phis) (put_in (looked last.defined.items) olds) (kept_phis phis (looked last.defined.items)) outside last new
    → Turned types operator args (turned_by variables marks (looked old.defined.items)) (looked old.defined.items)
    (phis_of (looked old.defined.items) (looked last.defined.items) (turned_by variables marks (looked old.defined.items))) old last new
turn_met types operator args variables marks olds phis old outside last new rise kept are out off turned = record {
  block = turned.block;
  number = turned.number;
  statement = turned.statement;
  defined = turned.defined ∙ (λ i. with_phis (back i) (out i).operator (due_are i));
  operators = turned.operators;
  blocks = turned.blocks ∙ (λ i. closed_blocks (Jump ((out i).block + 1)) (out i)
      ++ (record {
        operators = phis_are i ++ operator_of types (with_phis (back i) (out i).operator (due_are i)) (out i).statement operator args ∷ [];
        leave = Branch ((out i).block + 2) (last.block + 1);
      } ∷ closed_blocks (Jump ((out i).block + 1)) last));
}
  where
    due : List ℕ
    due = turned_by variables marks (looked old.defined.items)

    chosen : phis ≡ kept_of (looked old.defined.items) due
    chosen = are ∙ (ap (loop_kept variables) kept ∙ loop_is variables marks (looked old.defined.items) rise)

    due_are : defined_variables phis ≡ due
    due_are = ap defined_variables chosen ∙ variables_kept (looked old.defined.items) due

    phis_are : kept_phis phis (looked last.defined.items) ≡ phis_of (looked old.defined.items) (looked last.defined.items) due
    phis_are = ap (λ list. kept_phis list (looked last.defined.items)) chosen ∙ phis_kept (looked old.defined.items) (looked last.defined.items) due

    back : put_in (looked last.defined.items) olds ≡ looked old.defined.items
    back = ap (put_in (looked last.defined.items)) kept ∙ restored (looked old.defined.items) (looked last.defined.items) marks off
