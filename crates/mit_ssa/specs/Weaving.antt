-- Devices of the proofs: nobody has to believe them. What stands for the functions and places of the definitions while a script is woven.
use Rattle.std.specs.Prelude.{◌≡◌, ◌<◌, ◌≤◌, ⊤, ℕ, suc, ◌+◌, ◌*◌, List, [], ◌∷◌, ◌++◌, length, map, Bool, nat_lt, ◌==◌, ◌&&◌, if◌then◌else◌, Option, None, is_some, unwrap_or, slice_get}
use Rattle.std.specs.List.{filter, list_any, range_with_len}
use Rattle.mit_ops.specs.declared.leave.Leave.{Leave}
use Rattle.mit_ops.specs.declared.leave.Leave.TheVariants.{Jump, Branch}
use Rattle.mit_ops.specs.declared.kinds.OpSpec.{OpSpec}
use Rattle.mit_ops.specs.declared.types.VarType.{VarType}
use Rattle.mit_plan.specs.declared.plan.TheConstants.{MAX_OPS}
use Rattle.mit_ssa.specs.Woven.{Defined, Weave, WeavePlace, Woven, WovenStretch, join_phis, just_left, on_both, operator_of, operators_first, phi_of, phis_of, stretch_blocks, weave_adds, weave_counts, with_phis, woven_all}
use Rattle.mit_ssa.specs.declared.block.Block.{Block}
use Rattle.mit_ssa.specs.declared.block.Operator.{Operator}
use Rattle.mit_ssa.specs.declared.build.Builder.{Builder}
use Rattle.mit_ssa.specs.declared.defined.Definition.{Definition}
use Rattle.mit_ssa.specs.declared.stop.PlanStop.{PlanStop}
use Rattle.mit_ssa.specs.declared.stop.PlanStop.TheVariants.{TooLarge, NoMemory}

-- a list that stands for a function of variables
abbrev pub looked : List (Option ℕ) → Defined
looked defined variable = unwrap_or (slice_get defined variable) None

-- a variable is one of these
abbrev pub has_mark : List ℕ → ℕ → Bool
has_mark marks variable = list_any (λ mark. variable == mark) marks

-- these numbers rise, from this one on
unfoldable pub Rise : ℕ → List ℕ → Type 0
Rise from [] = ⊤
Rise from (first ∷ more) = (from ≤ first) × Rise (suc first) more

-- what each of these variables is
abbrev pub kept_of : Defined → List ℕ → List Definition
kept_of defined variables = map (λ variable. record { variable = variable; value = defined variable }) variables

abbrev pub defined_variables : List Definition → List ℕ
defined_variables kept = map (λ one. one.variable) kept

-- a variable is this from here on
abbrev pub putting : Defined → ℕ → Option ℕ → Defined
putting defined variable value = λ other. if other == variable then value else defined other

-- each variable is what was kept
unfoldable pub put_in : Defined → List Definition → Defined
put_in defined [] = defined
put_in defined (first ∷ more) = put_in (putting defined first.variable first.value) more

-- what is defined on both ways, by what the variables are on the one
abbrev pub both_kept : List Definition → Defined → List Definition
both_kept ones other =
    map (λ one. record { variable = one.variable; value = if is_some one.value && is_some (other one.variable) then one.value else None }) ones

-- which of these have phis in a join and in a loop, and what the phis are
abbrev pub join_kept : ℕ → List Definition → Defined → List Definition
join_kept variables ones other = filter (λ one. nat_lt one.variable variables && is_some one.value && is_some (other one.variable)) ones

abbrev pub loop_kept : ℕ → List Definition → List Definition
loop_kept variables olds = filter (λ old. nat_lt old.variable variables && is_some old.value) olds

abbrev pub kept_phis : List Definition → Defined → List Operator
kept_phis phis other = map (λ one. phi_of (λ _. one.value) other one.variable) phis

-- where a builder is
abbrev pub builder_place : Builder → WeavePlace
builder_place builder = record {
  block = builder.block;
  operator = builder.operator;
  statement = builder.statement;
  defined = looked builder.defined.items;
}

-- a builder, where what another one has is defined
abbrev pub with_table : Builder → Builder → Builder
with_table builder other = record {
  blocks = builder.blocks;
  operators = builder.operators;
  defined = other.defined;
  block = builder.block;
  operator = builder.operator;
  statement = builder.statement;
}

-- the blocks of a builder, where the current one goes on so
abbrev pub blocks_built : Builder → WovenStretch → List Block
blocks_built builder after =
    builder.blocks.items
    ++ record { operators = builder.operators.items ++ after.first.operators; leave = after.first.leave } ∷ after.later

-- nothing is built yet, at this place
pub record IsAt (place : WeavePlace) (builder : Builder) : Type 0 where
  pub blocks : builder.blocks.items ≡ []
  pub operators : builder.operators.items ≡ []
  pub there : builder_place builder ≡ place

-- its numbers are small
pub record IsSmall (builder : Builder) : Type 0 where
  pub operators : builder.operator ≤ MAX_OPS
  pub statements : builder.statement ≤ builder.operator + 1
  pub blocks : builder.block ≤ 3 * builder.operator

-- so many statements, which add so many blocks, are woven so after the old ones
pub record Weaves (count added : ℕ) (woven : Woven) (old new : Builder) : Type 0 where
  pub block : new.block ≡ old.block + added
  pub operator : new.operator ≡ woven.operator
  pub statement : new.statement ≡ old.statement + count
  pub defined : looked new.defined.items ≡ woven.defined
  pub onto : (after : WovenStretch) → blocks_built new after ≡ blocks_built old (woven.onto after)
  pub small : IsSmall new

-- a stop has this cause, or memory ran out
abbrev pub IfLarge : Type 0 → PlanStop → Type 0
IfLarge large TooLarge = large
IfLarge large NoMemory = ⊤

-- there are too many operators, or memory ran out
abbrev pub StopsWeaving : ℕ → PlanStop → Type 0
StopsWeaving operators = IfLarge (MAX_OPS < operators)

-- the phis of a join and of a loop, by which variables are marked
abbrev pub joined_by : ℕ → List ℕ → Defined → Defined → List ℕ
joined_by variables marks one other =
    filter (λ variable. has_mark marks variable && is_some (one variable) && is_some (other variable)) (range_with_len 0 variables)

abbrev pub turned_by : ℕ → List ℕ → Defined → List ℕ
turned_by variables marks defined = filter (λ variable. has_mark marks variable && is_some (defined variable)) (range_with_len 0 variables)

-- an `if` after its condition
abbrev pub split : List VarType → List Weave → List Weave → WeavePlace → Woven
split types on_true on_false place =
    let other = place.block + 2 + weave_adds on_true in
    let join = other + 1 + weave_adds on_false in
    let one = woven_all on_true (record { block = place.block + 1; operator = place.operator; statement = place.statement; defined = place.defined }) in
    let two = woven_all on_false
    (record { block = other; operator = one.operator; statement = place.statement + weave_counts on_true; defined = place.defined }) in
    let phis = join_phis (length types) on_true on_false one.defined two.defined in
    record {
      operator = two.operator + length phis;
      defined = with_phis (on_both one.defined two.defined) two.operator phis;
      onto = λ stretch. record {
        first = record { operators = []; leave = Branch (place.block + 1) other };
        later = stretch_blocks (one.onto (just_left (Jump join))) ++ stretch_blocks (two.onto (just_left (Jump join)))
            ++ stretch_blocks (operators_first (phis_of one.defined two.defined phis) stretch);
      };
    }

-- all blocks of a builder, where the current one is left so
abbrev pub closed_blocks : Leave → Builder → List Block
closed_blocks leave builder = builder.blocks.items ++ record { operators = builder.operators.items; leave = leave } ∷ []

-- where the true branch of an `if` begins, after its condition
abbrev pub inside_at : WeavePlace → WeavePlace
inside_at place = record { block = place.block + 1; operator = place.operator; statement = place.statement; defined = place.defined }

-- statements that are woven from this place on
pub record IsBranch (weaves : List Weave) (begin : WeavePlace) (last : Builder) : Type 0 where
  pub block : last.block ≡ begin.block + weave_adds weaves
  pub operator : last.operator ≡ (woven_all weaves begin).operator
  pub statement : last.statement ≡ begin.statement + weave_counts weaves
  pub defined : looked last.defined.items ≡ (woven_all weaves begin).defined
  pub ends : (leave : Leave) → closed_blocks leave last ≡ stretch_blocks ((woven_all weaves begin).onto (just_left leave))
  pub small : IsSmall last

-- two branches are joined, after the block with the condition
pub record Joined (phis : List ℕ) (both : Defined) (joins : List Operator) (before one two new : Builder) : Type 0 where
  pub block : new.block ≡ two.block + 1
  pub operator : new.operator ≡ two.operator + length phis
  pub few : new.operator ≤ MAX_OPS
  pub statement : new.statement ≡ two.statement
  pub defined : looked new.defined.items ≡ with_phis both two.operator phis
  pub operators : new.operators.items ≡ joins
  pub blocks : new.blocks.items
      ≡ closed_blocks (Branch (before.block + 1) (one.block + 1)) before ++ (closed_blocks (Jump (two.block + 1)) one ++ closed_blocks (Jump (two.block + 1)) two)

-- the place in a loop's body
abbrev pub in_loop : List ℕ → WeavePlace → WeavePlace
in_loop phis place = record {
  block = place.block + 2;
  operator = place.operator + length phis + 1;
  statement = place.statement + 1;
  defined = with_phis place.defined place.operator phis;
}

-- a loop is closed after its body
pub record Turned (types : List VarType) (operator : OpSpec) (args variables : List ℕ) (before : Defined) (phis : List Operator) (old turn new : Builder) : Type 0 where
  pub block : new.block ≡ turn.block + 1
  pub number : new.operator ≡ turn.operator
  pub statement : new.statement ≡ turn.statement
  pub defined : looked new.defined.items ≡ with_phis before old.operator variables
  pub operators : new.operators.items ≡ []
  pub blocks : new.blocks.items
      ≡ closed_blocks (Jump (old.block + 1)) old
      ++ (record {
        operators = phis ++ operator_of types (with_phis before old.operator variables) old.statement operator args ∷ [];
        leave = Branch (old.block + 2) (turn.block + 1);
      } ∷ closed_blocks (Jump (old.block + 1)) turn)
