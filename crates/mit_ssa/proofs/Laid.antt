-- What an `if`, a `while` and a statement add to the blocks that are being built.
use Rattle.std.proofs.Common.{◌≡◌, ◌∙◌, ◌≤◌, ◌<◌, ◌+◌, ◌*◌, ℕ, List, [], ◌∷◌, ◌++◌, length, ap, sym, subst, refl, arith, append_assoc, ◌&&◌, ◌||◌, is_some, None}
use Rattle.std.specs.List.{filter, range_with_len}
use Rattle.std.proofs.lemmas.List.{append-nil}
use Rattle.mit_ops.specs.declared.kinds.OpSpec.{OpSpec}
use Rattle.mit_ops.specs.declared.leave.Leave.{Leave}
use Rattle.mit_ops.specs.declared.leave.Leave.TheVariants.{Branch, Jump}
use Rattle.mit_ops.specs.declared.types.VarType.{VarType}
use Rattle.mit_plan.specs.declared.plan.TheConstants.{MAX_OPS}
use Rattle.mit_ssa.specs.Weaving.{IsAt, IsBranch, IsSmall, Joined, StopsWeaving, Turned, Weaves, blocks_built, builder_place, closed_blocks, has_mark, in_loop, inside_at, joined_by, looked, split, turned_by}
use Rattle.mit_ssa.specs.Woven.{Defined, Weave, WeavePlace, Woven, WovenStretch, assigned_in, done, join_phis, just_left, loop_phis, on_both, operator_of, operators_first, phis_of, stretch_blocks, weave_adds, weave_counts, with_phis, woven_all, woven_branch, woven_loop}
use Rattle.mit_ssa.specs.declared.block.Block.{Block}
use Rattle.mit_ssa.specs.declared.block.Operator.{Operator}
use Rattle.mit_ssa.specs.declared.build.Builder.{Builder}
use Rattle.mit_ssa.specs.declared.stop.PlanStop.{PlanStop}
use Rattle.mit_ssa.specs.declared.stop.PlanStop.TheVariants.{TooLarge, NoMemory}
use Rattle.mit_ssa.proofs.Counted.{AreCounted}

-- ---- places, stops and small numbers

pub same_place : (one other : WeavePlace) → one.block ≡ other.block → one.operator ≡ other.operator → one.statement ≡ other.statement → one.defined ≡ other.defined
    → one ≡ other
same_place one other b o s d = λ i. record { block = b i; operator = o i; statement = s i; defined = d i }

pub stops_more : (few many : ℕ) (stop : PlanStop) → few ≤ many → StopsWeaving few stop → StopsWeaving many stop
stops_more few many TooLarge less large = omega (arith, less, large)
stops_more few many NoMemory less large = large

pub small_after : (count added : ℕ) (woven : Woven) (old new : Builder) → added ≤ 3 * count → old.operator + count ≤ woven.operator
    → new.block ≡ old.block + added → new.operator ≡ woven.operator → new.statement ≡ old.statement + count → new.operator ≤ MAX_OPS
    → IsSmall old → IsSmall new
small_after count added woven old new few grows block operator statement most small =
    let a = small.blocks in let b = small.statements in
    record {
      operators = most;
      statements = omega (arith, grows, operator, statement, b);
      blocks = omega (arith, few, grows, block, operator, a);
    }

-- ---- branches

-- where nothing is built yet, what is built goes on with a stretch
fresh_is : (place : WeavePlace) (builder : Builder) (after : WovenStretch) → IsAt place builder → blocks_built builder after ≡ stretch_blocks after
fresh_is place builder after fresh =
    ap (λ (blocks : List Block). blocks ++ record { operators = builder.operators.items ++ after.first.operators; leave = after.first.leave } ∷ after.later) fresh.blocks
    ∙ ap (λ (operators : List Operator). record { operators = operators ++ after.first.operators; leave = after.first.leave } ∷ after.later) fresh.operators

closed_is : (leave : Leave) (builder : Builder) → closed_blocks leave builder ≡ blocks_built builder (just_left leave)
closed_is leave builder =
    ap (λ (operators : List Operator). builder.blocks.items ++ record { operators = operators; leave = leave } ∷ []) (sym (append-nil builder.operators.items))

-- a part that is woven from a fresh start
pub part_is : (count added : ℕ) (woven : Woven) (leave : Leave) (place : WeavePlace) (inside last : Builder) → IsAt place inside → Weaves count added woven inside last
    → closed_blocks leave last ≡ stretch_blocks (woven.onto (just_left leave))
part_is count added woven leave place inside last fresh weaves =
    closed_is leave last ∙ (weaves.onto (just_left leave) ∙ fresh_is place inside (woven.onto (just_left leave)) fresh)

-- ---- an `if`

joined_is : (variables : ℕ) (marks : List ℕ) (on_true on_false : List Weave) (one one' two two' : Defined)
    → ((variable : ℕ) → has_mark marks variable ≡ (assigned_in on_true variable || assigned_in on_false variable)) → one ≡ one' → two ≡ two'
    → joined_by variables marks one two ≡ join_phis variables on_true on_false one' two'
joined_is variables marks on_true on_false one one' two two' same d e =
    λ i. filter (λ variable. same variable i && is_some (d i variable) && is_some (e i variable)) (range_with_len 0 variables)

-- where the false branch begins
abbrev beside_at : List Weave → WeavePlace → WeavePlace
beside_at on_true place = record {
  block = place.block + 2 + weave_adds on_true;
  operator = (woven_all on_true (inside_at place)).operator;
  statement = place.statement + weave_counts on_true;
  defined = place.defined;
}

pub branch_is : (weaves : List Weave) (begin : WeavePlace) (inside last : Builder) → IsAt begin inside
    → Weaves (weave_counts weaves) (weave_adds weaves) (woven_all weaves (builder_place inside)) inside last → IsBranch weaves begin last
branch_is weaves begin inside last fresh woven =
    let first : Weaves (weave_counts weaves) (weave_adds weaves) (woven_all weaves begin) inside last =
    subst (λ at. Weaves (weave_counts weaves) (weave_adds weaves) (woven_all weaves at) inside last) fresh.there woven in
    let a = first.block in let b = ap (λ (at : WeavePlace). at.block) fresh.there in
    let c = first.statement in let d = ap (λ (at : WeavePlace). at.statement) fresh.there in
    record {
      block = omega (arith, a, b);
      operator = first.operator;
      statement = omega (arith, c, d);
      defined = first.defined;
      ends = λ leave. part_is (weave_counts weaves) (weave_adds weaves) (woven_all weaves begin) leave begin inside last fresh first;
      small = first.small;
    }

-- what is known of the branches of an `if`
pub record Branches (on_true on_false : List Weave) (before one two : Builder) : Type 0 where
  pub first : IsBranch on_true (inside_at (builder_place before)) one
  pub second : IsBranch on_false (beside_at on_true (builder_place before)) two

pub branches_are : (on_true on_false : List Weave) (before one beside two : Builder) → IsBranch on_true (inside_at (builder_place before)) one
    → IsAt (record { block = one.block + 1; operator = one.operator; statement = one.statement; defined = looked before.defined.items }) beside
    → Weaves (weave_counts on_false) (weave_adds on_false) (woven_all on_false (builder_place beside)) beside two → Branches on_true on_false before one two
branches_are on_true on_false before one beside two first at_false woven =
    let a = first.block in let b = first.statement in
    record {
      first = first;
      second = subst (λ begin. IsBranch on_false begin two)
          (same_place (record { block = one.block + 1; operator = one.operator; statement = one.statement; defined = looked before.defined.items })
          (beside_at on_true (builder_place before)) (omega (arith, a)) first.operator (omega (arith, b)) refl)
          (branch_is on_false _ beside two at_false woven);
    }

-- the number after them
pub if_number : (types : List VarType) (marks : List ℕ) (on_true on_false : List Weave) (before one two : Builder)
    → ((variable : ℕ) → has_mark marks variable ≡ (assigned_in on_true variable || assigned_in on_false variable))
    → Branches on_true on_false before one two
    → two.operator + length (joined_by (length types) marks (looked one.defined.items) (looked two.defined.items)) ≡ (split types on_true on_false (builder_place before)).operator
if_number types marks on_true on_false before one two same parts =
    λ i. parts.second.operator i + length (joined_is (length types) marks on_true on_false _ _ _ _ same parts.first.defined parts.second.defined i)

pub first_stops : (types : List VarType) (on_true on_false : List Weave) (count_no : ℕ) (before inside : Builder) (stop : PlanStop) → AreCounted on_false count_no
    → IsAt (inside_at (builder_place before)) inside
    → StopsWeaving (woven_all on_true (builder_place inside)).operator stop → StopsWeaving (split types on_true on_false (builder_place before)).operator stop
first_stops types on_true on_false count_no before inside stop counted at_true stops =
    let a = ap (λ at. (woven_all on_true at).operator) at_true.there in
    let b = counted.grows (beside_at on_true (builder_place before)) in
    stops_more (woven_all on_true (builder_place inside)).operator (split types on_true on_false (builder_place before)).operator stop (omega (arith, a, b)) stops

pub second_stops : (types : List VarType) (on_true on_false : List Weave) (before one beside : Builder) (stop : PlanStop)
    → IsBranch on_true (inside_at (builder_place before)) one
    → IsAt (record { block = one.block + 1; operator = one.operator; statement = one.statement; defined = looked before.defined.items }) beside
    → StopsWeaving (woven_all on_false (builder_place beside)).operator stop → StopsWeaving (split types on_true on_false (builder_place before)).operator stop
second_stops types on_true on_false before one beside stop first at_false stops =
    let a = first.block in let b = first.statement in
    let c : (woven_all on_false (builder_place beside)).operator ≡ (woven_all on_false (beside_at on_true (builder_place before))).operator =
    ap (λ at. (woven_all on_false at).operator) (at_false.there
    ∙ same_place (record { block = one.block + 1; operator = one.operator; statement = one.statement; defined = looked before.defined.items })
    (beside_at on_true (builder_place before)) (omega (arith, a)) first.operator (omega (arith, b)) refl) in
    stops_more (woven_all on_false (builder_place beside)).operator (split types on_true on_false (builder_place before)).operator stop (omega (arith, c)) stops

pub beside_small : (on_true : List Weave) (count_yes : ℕ) (before one beside : Builder) → AreCounted on_true count_yes
    → IsBranch on_true (inside_at (builder_place before)) one
    → IsAt (record { block = one.block + 1; operator = one.operator; statement = one.statement; defined = looked before.defined.items }) beside
    → before.block + 3 ≤ 3 * before.operator → IsSmall beside
beside_small on_true count_yes before one beside counted first at_false room =
    let a = ap (λ (at : WeavePlace). at.block) at_false.there in let b = ap (λ (at : WeavePlace). at.operator) at_false.there in
    let c = ap (λ (at : WeavePlace). at.statement) at_false.there in
    let f = first.block in let g = first.operator in let h = counted.grows (inside_at (builder_place before)) in let i = counted.few in
    let j = first.small.operators in let k = first.small.statements in
    record { operators = omega (arith, b, j); statements = omega (arith, b, c, k); blocks = omega (arith, a, b, f, g, h, i, room) }

pub if_laid : (types : List VarType) (marks : List ℕ) (on_true on_false : List Weave) (count_yes count_no : ℕ) (before one two new : Builder)
    → AreCounted on_true count_yes → AreCounted on_false count_no
    → ((variable : ℕ) → has_mark marks variable ≡ (assigned_in on_true variable || assigned_in on_false variable))
    → Branches on_true on_false before one two
    → Joined (joined_by (length types) marks (looked one.defined.items) (looked two.defined.items)) (on_both (looked one.defined.items) (looked two.defined.items))
    (phis_of (looked one.defined.items) (looked two.defined.items) (joined_by (length types) marks (looked one.defined.items) (looked two.defined.items))) before one two new
    → IsSmall before → before.block + 3 ≤ 3 * before.operator
    → Weaves (weave_counts on_true + weave_counts on_false) (3 + weave_adds on_true + weave_adds on_false) (split types on_true on_false (builder_place before)) before new
if_laid types marks on_true on_false count_yes count_no before one two new counted counted' same parts joined small room = record {
  block = block;
  operator = operator;
  statement = statement;
  defined = joined.defined ∙ (λ i. with_phis (on_both (one_defined i) (two_defined i)) (two_number i) (phis_are i));
  onto = λ after.
      ap (λ (blocks : List Block). blocks ++ record { operators = new.operators.items ++ after.first.operators; leave = after.first.leave } ∷ after.later) joined.blocks
      ∙ (ap (λ (operators : List Operator). (closed_blocks (Branch (before.block + 1) (one.block + 1)) before ++ (closed_blocks (Jump (two.block + 1)) one ++ closed_blocks (Jump (two.block + 1)) two))
      ++ stretch_blocks (operators_first operators after)) joined.operators
      ∙ assembled after);
  small =
      let a = counted.few in let b = counted'.few in let c = small.statements in
      record {
        operators = joined.few;
        statements = omega (arith, c, grows, operator, statement);
        blocks = omega (arith, a, b, grows, block, operator, room);
      };
}
  where
    place : WeavePlace
    place = builder_place before

    woven_one : Woven
    woven_one = woven_all on_true (inside_at place)

    woven_two : Woven
    woven_two = woven_all on_false (beside_at on_true place)

    woven : Woven
    woven = split types on_true on_false place

    first : IsBranch on_true (inside_at place) one
    first = parts.first

    second : IsBranch on_false (beside_at on_true place) two
    second = parts.second

    one_block : one.block ≡ before.block + 1 + weave_adds on_true
    one_block = first.block

    two_block : two.block ≡ before.block + 2 + weave_adds on_true + weave_adds on_false
    two_block = second.block

    two_statement : two.statement ≡ before.statement + weave_counts on_true + weave_counts on_false
    two_statement = second.statement

    one_defined : looked one.defined.items ≡ woven_one.defined
    one_defined = first.defined

    two_defined : looked two.defined.items ≡ woven_two.defined
    two_defined = second.defined

    two_number : two.operator ≡ woven_two.operator
    two_number = second.operator

    phis : List ℕ
    phis = join_phis (length types) on_true on_false woven_one.defined woven_two.defined

    phis_are : joined_by (length types) marks (looked one.defined.items) (looked two.defined.items) ≡ phis
    phis_are = joined_is (length types) marks on_true on_false _ woven_one.defined _ woven_two.defined same one_defined two_defined

    block : new.block ≡ before.block + (3 + weave_adds on_true + weave_adds on_false)
    block = let a = joined.block in omega (arith, a, two_block)

    operator : new.operator ≡ woven_two.operator + length phis
    operator = joined.operator ∙ (λ i. two_number i + length (phis_are i))

    statement : new.statement ≡ before.statement + (weave_counts on_true + weave_counts on_false)
    statement = let a = joined.statement in omega (arith, a, two_statement)

    grows : before.operator + (weave_counts on_true + weave_counts on_false) ≤ woven_two.operator + length phis
    grows = let a = counted.grows (inside_at place) in let b = counted'.grows (beside_at on_true place) in omega (arith, a, b)

    join : ℕ
    join = place.block + 2 + weave_adds on_true + 1 + weave_adds on_false

    join_is : two.block + 1 ≡ join
    join_is = omega (arith, two_block)

    other_is : one.block + 1 ≡ place.block + 2 + weave_adds on_true
    other_is = omega (arith, one_block)

    xs : List Block
    xs = stretch_blocks (woven_one.onto (just_left (Jump join)))

    ys : List Block
    ys = stretch_blocks (woven_two.onto (just_left (Jump join)))

    xs_are : closed_blocks (Jump (two.block + 1)) one ≡ xs
    xs_are = ap (λ to. closed_blocks (Jump to) one) join_is ∙ first.ends (Jump join)

    ys_are : closed_blocks (Jump (two.block + 1)) two ≡ ys
    ys_are = ap (λ to. closed_blocks (Jump to) two) join_is ∙ second.ends (Jump join)

    here : Block
    here = record { operators = before.operators.items ++ []; leave = Branch (place.block + 1) (place.block + 2 + weave_adds on_true) }

    here_is : closed_blocks (Branch (before.block + 1) (one.block + 1)) before ≡ before.blocks.items ++ here ∷ []
    here_is = λ i. before.blocks.items
        ++ record { operators = sym (append-nil before.operators.items) i; leave = Branch (place.block + 1) (other_is i) } ∷ []

    joined_operators : phis_of (looked one.defined.items) (looked two.defined.items) (joined_by (length types) marks (looked one.defined.items) (looked two.defined.items))
        ≡ phis_of woven_one.defined woven_two.defined phis
    joined_operators = λ i. phis_of (one_defined i) (two_defined i) (phis_are i)

    assembled : (after : WovenStretch)
        → (closed_blocks (Branch (before.block + 1) (one.block + 1)) before ++ (closed_blocks (Jump (two.block + 1)) one ++ closed_blocks (Jump (two.block + 1)) two))
        ++ stretch_blocks (operators_first (phis_of (looked one.defined.items) (looked two.defined.items)
        (joined_by (length types) marks (looked one.defined.items) (looked two.defined.items))) after)
        ≡ blocks_built before (woven.onto after)
    assembled after =
        let zs = stretch_blocks (operators_first (phis_of woven_one.defined woven_two.defined phis) after) in
        (λ i. (here_is i ++ (xs_are i ++ ys_are i)) ++ stretch_blocks (operators_first (joined_operators i) after))
        ∙ (append_assoc (before.blocks.items ++ here ∷ []) (xs ++ ys) zs
        ∙ append_assoc before.blocks.items (here ∷ []) ((xs ++ ys) ++ zs))

-- after its condition
pub branched_laid : (types : List VarType) (operator : OpSpec) (args : List ℕ) (on_true on_false : List Weave) (old condition new : Builder)
    → Weaves 1 0 (done types None operator args (builder_place old)) old condition
    → Weaves (weave_counts on_true + weave_counts on_false) (3 + weave_adds on_true + weave_adds on_false) (split types on_true on_false (builder_place condition)) condition new
    → Weaves (1 + weave_counts on_true + weave_counts on_false) (3 + weave_adds on_true + weave_adds on_false) (woven_branch types operator args on_true on_false (builder_place old)) old new
branched_laid types operator args on_true on_false old condition new first later = record {
  block = let a = first.block in let b = later.block in omega (arith, a, b);
  operator = rest.operator;
  statement = let a = first.statement in let b = later.statement in omega (arith, a, b);
  defined = rest.defined;
  onto = λ after. rest.onto after ∙ first.onto ((split types on_true on_false next).onto after);
  small = later.small;
}
  where
    next : WeavePlace
    next = record { block = old.block; operator = old.operator + 1; statement = old.statement + 1; defined = looked old.defined.items }

    next_is : builder_place condition ≡ next
    next_is = same_place (builder_place condition) next (let a = first.block in omega (arith, a)) first.operator first.statement first.defined

    rest : Weaves (weave_counts on_true + weave_counts on_false) (3 + weave_adds on_true + weave_adds on_false) (split types on_true on_false next) condition new
    rest = subst (λ at. Weaves (weave_counts on_true + weave_counts on_false) (3 + weave_adds on_true + weave_adds on_false) (split types on_true on_false at) condition new) next_is later

-- ---- a `while`

pub turned_is : (variables : ℕ) (marks : List ℕ) (body : List Weave) (defined : Defined)
    → ((variable : ℕ) → has_mark marks variable ≡ assigned_in body variable) → turned_by variables marks defined ≡ loop_phis variables body defined
turned_is variables marks body defined same = λ i. filter (λ variable. same variable i && is_some (defined variable)) (range_with_len 0 variables)

pub while_laid : (types : List VarType) (operator : OpSpec) (args : List ℕ) (body : List Weave) (count : ℕ) (marks : List ℕ) (phis : List ℕ) (old inside last new : Builder)
    → AreCounted body count
    → ((variable : ℕ) → has_mark marks variable ≡ assigned_in body variable)
    → phis ≡ turned_by (length types) marks (looked old.defined.items)
    → IsAt (in_loop phis (builder_place old)) inside
    → Weaves (weave_counts body) (weave_adds body) (woven_all body (builder_place inside)) inside last
    → Turned types operator args phis (looked old.defined.items) (phis_of (looked old.defined.items) (looked last.defined.items) phis) old last new
    → IsSmall old
    → Weaves (1 + weave_counts body) (3 + weave_adds body) (woven_loop types operator args body (builder_place old)) old new
while_laid types operator args body count marks phis old inside last new counted same are fresh weaves turned small = record {
  block = block;
  operator = number;
  statement = statement;
  defined = turned.defined ∙ (λ i. with_phis place.defined place.operator (phis_are i));
  onto = λ after.
      ap (λ (blocks : List Block). blocks ++ record { operators = new.operators.items ++ after.first.operators; leave = after.first.leave } ∷ after.later) turned.blocks
      ∙ (ap (λ (operators : List Operator). (closed_blocks (Jump (old.block + 1)) old ++ (header ∷ closed_blocks (Jump (old.block + 1)) last))
      ++ stretch_blocks (operators_first operators after)) turned.operators
      ∙ assembled after);
  small = small_after (1 + weave_counts body) (3 + weave_adds body) woven old new (let a = counted.few in omega (arith, a)) grows block number statement
      (let a = weaves.small.operators in let b = turned.number in omega (arith, a, b)) small;
}
  where
    place : WeavePlace
    place = builder_place old

    due : List ℕ
    due = loop_phis (length types) body place.defined

    phis_are : phis ≡ due
    phis_are = are ∙ turned_is (length types) marks body place.defined same

    turn_at : WeavePlace
    turn_at = in_loop due place

    inside_is : builder_place inside ≡ turn_at
    inside_is = fresh.there ∙ ap (λ list. in_loop list place) phis_are

    turn : Woven
    turn = woven_all body turn_at

    woven : Woven
    woven = woven_loop types operator args body place

    first : Weaves (weave_counts body) (weave_adds body) turn inside last
    first = subst (λ at. Weaves (weave_counts body) (weave_adds body) (woven_all body at) inside last) inside_is weaves

    last_block : last.block ≡ old.block + 2 + weave_adds body
    last_block = let a = first.block in let b = ap (λ (at : WeavePlace). at.block) inside_is in omega (arith, a, b)

    block : new.block ≡ old.block + (3 + weave_adds body)
    block = let a = turned.block in omega (arith, a, last_block)

    number : new.operator ≡ turn.operator
    number = turned.number ∙ first.operator

    statement : new.statement ≡ old.statement + (1 + weave_counts body)
    statement = let a = turned.statement in let b = first.statement in let c = ap (λ (at : WeavePlace). at.statement) inside_is in omega (arith, a, b, c)

    grows : old.operator + (1 + weave_counts body) ≤ turn.operator
    grows = let a = counted.grows turn_at in omega (arith, a)

    header : Block
    header = record {
      operators = phis_of (looked old.defined.items) (looked last.defined.items) phis
          ++ operator_of types (with_phis (looked old.defined.items) old.operator phis) old.statement operator args ∷ [];
      leave = Branch (old.block + 2) (last.block + 1);
    }

    due_header : Block
    due_header = record {
      operators = phis_of place.defined turn.defined due ++ operator_of types (with_phis place.defined place.operator due) place.statement operator args ∷ [];
      leave = Branch (place.block + 2) (place.block + 3 + weave_adds body);
    }

    exit_is : last.block + 1 ≡ place.block + 3 + weave_adds body
    exit_is = omega (arith, last_block)

    last_defined : looked last.defined.items ≡ turn.defined
    last_defined = first.defined

    header_is : header ≡ due_header
    header_is = λ i. record {
      operators = phis_of place.defined (last_defined i) (phis_are i)
          ++ operator_of types (with_phis place.defined place.operator (phis_are i)) place.statement operator args ∷ [];
      leave = Branch (place.block + 2) (exit_is i);
    }

    xs : List Block
    xs = stretch_blocks (turn.onto (just_left (Jump (place.block + 1))))

    xs_are : closed_blocks (Jump (old.block + 1)) last ≡ xs
    xs_are = part_is (weave_counts body) (weave_adds body) turn (Jump (place.block + 1)) _ inside last fresh first

    here : Block
    here = record { operators = old.operators.items ++ []; leave = Jump (place.block + 1) }

    here_is : closed_blocks (Jump (old.block + 1)) old ≡ old.blocks.items ++ here ∷ []
    here_is = λ i. old.blocks.items ++ record { operators = sym (append-nil old.operators.items) i; leave = Jump (place.block + 1) } ∷ []

    assembled : (after : WovenStretch)
        → (closed_blocks (Jump (old.block + 1)) old ++ (header ∷ closed_blocks (Jump (old.block + 1)) last)) ++ stretch_blocks (operators_first [] after)
        ≡ blocks_built old (woven.onto after)
    assembled after =
        (λ i. (here_is i ++ (header_is i ∷ xs_are i)) ++ stretch_blocks after)
        ∙ (append_assoc (old.blocks.items ++ here ∷ []) (due_header ∷ xs) (stretch_blocks after)
        ∙ append_assoc old.blocks.items (here ∷ []) (due_header ∷ (xs ++ stretch_blocks after)))

-- ---- where a `while` stops

pub enter_stops : (types : List VarType) (operator : OpSpec) (args : List ℕ) (body : List Weave) (count : ℕ) (marks : List ℕ) (phis : List ℕ) (old : Builder) (stop : PlanStop)
    → AreCounted body count → ((variable : ℕ) → has_mark marks variable ≡ assigned_in body variable)
    → phis ≡ turned_by (length types) marks (looked old.defined.items) → StopsWeaving (old.operator + length phis + 1) stop
    → StopsWeaving (woven_loop types operator args body (builder_place old)).operator stop
enter_stops types operator args body count marks phis old stop counted same are stops =
    let a = ap length (are ∙ turned_is (length types) marks body (looked old.defined.items) same) in
    let b = counted.grows (in_loop (loop_phis (length types) body (looked old.defined.items)) (builder_place old)) in
    stops_more (old.operator + length phis + 1) (woven_loop types operator args body (builder_place old)).operator stop (omega (arith, a, b)) stops

pub turn_stops : (types : List VarType) (operator : OpSpec) (args : List ℕ) (body : List Weave) (marks : List ℕ) (phis : List ℕ) (old inside : Builder) (stop : PlanStop)
    → ((variable : ℕ) → has_mark marks variable ≡ assigned_in body variable)
    → phis ≡ turned_by (length types) marks (looked old.defined.items) → IsAt (in_loop phis (builder_place old)) inside
    → StopsWeaving (woven_all body (builder_place inside)).operator stop → StopsWeaving (woven_loop types operator args body (builder_place old)).operator stop
turn_stops types operator args body marks phis old inside stop same are fresh stops =
    subst (λ (n : ℕ). StopsWeaving n stop)
    (ap (λ at. (woven_all body at).operator)
    (fresh.there ∙ ap (λ list. in_loop list (builder_place old)) (are ∙ turned_is (length types) marks body (looked old.defined.items) same))) stops

pub stops_always : (operators : ℕ) (stop : PlanStop) → MAX_OPS < operators → StopsWeaving operators stop
stops_always operators TooLarge many = many
stops_always operators NoMemory many = tt
