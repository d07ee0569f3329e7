-- The operators of a woven script: each is a phi of two operands or has its arguments' inputs, and none takes from a write.
use Rattle.std.proofs.Common.{◌≡◌, ◌∙◌, ◌+◌, ◌≢◌, ℕ, suc, List, [], ◌∷◌, ◌++◌, length, map, ap, ap₂, sym, subst, refl, arith, append_assoc, length-append, Bool, true, false, cond, eqb, is_some, ◌&&◌, Option, Some, None, inl, inr}
use Rattle.std.specs.Prelude.{◌⊎◌, All, unwrap_or}
use Rattle.std.specs.List.{flat_map}
use Rattle.std.proofs.lemmas.List.{append-nil, length-map}
use Rattle.std.proofs.lemmas.List.Concat.{flat_map-append}
use Rattle.std.proofs.lemmas.List.Elements.{All-append, All-cons, All-head, All-nil, All-tail}
use Rattle.mit_ops.specs.Kinds.{bag_inputs_of, captures_of, kind_of}
use Rattle.mit_ops.specs.declared.kinds.OpSpec.{OpSpec}
use Rattle.mit_ops.specs.declared.kinds.OpSpec.TheVariants as op
use Rattle.mit_ops.specs.declared.leave.Leave.TheVariants.{Jump}
use Rattle.mit_ops.specs.declared.types.VarType.{VarType}
use Rattle.mit_script.specs.Trees.{AreArgs, Head, IsFormedHead, assigns, decides, head_step, heads_in, is_scalar, is_write, writes}
use Rattle.mit_script.specs.declared.tree.Stmt.{Stmt, roll-Stmt}
use Rattle.mit_script.specs.declared.tree.Stmt.TheFolds.{fold-roll-Stmt, ind-Stmt, map-Stmt}
use Rattle.mit_script.specs.declared.tree.Stmt.TheOpen.{Stmt-F}
use Rattle.mit_script.specs.declared.tree.Stmt.TheOpen as layer
use Rattle.mit_ssa.specs.PlanFor.{operators_of}
use Rattle.mit_ssa.specs.Woven.{Defined, Weave, WeavePlace, WovenStretch, defined_operand, defining, definition_of, done, inputs_from, join_phis, just_left, loop_phis, on_both, operator_of, operators_first, phi_of, phis_of, place_after, stretch_blocks, weave_of, weave_step, with_phis, woven_all, woven_branch, woven_loop}
use Rattle.mit_ssa.specs.declared.block.Block.{Block}
use Rattle.mit_ssa.specs.declared.block.Operator.{Operator}
use Rattle.mit_ssa.specs.declared.block.Source.{Source}
use Rattle.mit_ssa.proofs.StructureEach.{Each, each_back, each_from, each_front}
use Rattle.mit_ssa.proofs.StructurePlaces.{in_body, in_false, in_true, join_after}

-- ---- which operators define variables

-- an operator that is no write has a good number
abbrev pub Numbered : (ℕ → Type 0) → ℕ → Operator → Type 0
Numbered good number operator = kind_of operator.spec ≢ 14 → good number

-- all variables are defined by operators of good numbers
abbrev pub AreGood : (ℕ → Type 0) → Defined → Type 0
AreGood good defined = (variable number : ℕ) → defined variable ≡ Some number → good number

-- an input comes from an operator of a good number, or from 0
abbrev pub ComesFrom : (ℕ → Type 0) → Source → Type 0
ComesFrom good source = (source.from ≡ 0) ⊎ good source.from

-- a phi of two operands, or no phi
abbrev pub HasForm : Operator → Type 0
HasForm operator =
    ((operator.phi ≡ 2) × (operator.spec ≡ op.Copy) × (length operator.inputs ≡ 2))
    ⊎ ((operator.phi ≡ 0) × (length operator.inputs ≡ bag_inputs_of operator.spec + captures_of operator.spec))

pub record Fair (good : ℕ → Type 0) (operator : Operator) : Type 0 where
  pub form : HasForm operator
  pub sources : All (ComesFrom good) operator.inputs

same_number : (m n : ℕ) → Some m ≡ Some n → m ≡ n
same_number m n same = ap (λ option. unwrap_or option 0) same

defining_good : (good : ℕ → Type 0) (defined : Defined) (variable number : ℕ) → AreGood good defined → good number → AreGood good (defining defined variable number)
defining_good good defined variable number all new other found is = by (eqb other variable) is
  where
    by : (same : Bool) → cond same (Some number) (defined other) ≡ Some found → good found
    by true e = subst good (same_number number found e) new
    by false e = all other found e

both_good : (good : ℕ → Type 0) (one other : Defined) → AreGood good one → AreGood good (on_both one other)
both_good good one other all variable found is = by (is_some (one variable) && is_some (other variable)) is
  where
    by : (both : Bool) → cond both (one variable) None ≡ Some found → good found
    by true e = all variable found e
    by false e = absurd (cc e)

comes_from : (good : ℕ → Type 0) (defined : Defined) (variable : ℕ) → AreGood good defined
    → (definition_of defined variable ≡ 0) ⊎ good (definition_of defined variable)
comes_from good defined variable all = by (defined variable) refl
  where
    by : (found : Option ℕ) → defined variable ≡ found → (unwrap_or found 0 ≡ 0) ⊎ good (unwrap_or found 0)
    by None is = inl refl
    by (Some number) is = inr (all variable number is)

-- ---- operators and phis

length-inputs : (types : List VarType) (defined : Defined) (operator : OpSpec) (args : List ℕ) (input : ℕ)
    → length (inputs_from types defined operator input args) ≡ length args
unfolding inputs_from
length-inputs types defined operator [] input = refl
length-inputs types defined operator (arg ∷ args) input = ap (λ n. suc n) (length-inputs types defined operator args (suc input))

inputs_fair : (good : ℕ → Type 0) (types : List VarType) (defined : Defined) (operator : OpSpec) → AreGood good defined → (args : List ℕ) (input : ℕ)
    → All (ComesFrom good) (inputs_from types defined operator input args)
unfolding inputs_from
inputs_fair good types defined operator all [] input = All-nil (ComesFrom good)
inputs_fair good types defined operator all (arg ∷ args) input =
    All-cons (ComesFrom good) _ (inputs_from types defined operator (suc input) args) (comes_from good defined arg all)
    (inputs_fair good types defined operator all args (suc input))

operator_fair : (good : ℕ → Type 0) (types : List VarType) (defined : Defined) (statement : ℕ) (operator : OpSpec) (args : List ℕ) (variables : ℕ)
    → AreArgs variables operator args → AreGood good defined → Fair good (operator_of types defined statement operator args)
operator_fair good types defined statement operator args variables formed all = record {
  form = inr (refl, length-inputs types defined operator args 0 ∙ formed.complete);
  sources = inputs_fair good types defined operator all args 0;
}

phi_fair : (good : ℕ → Type 0) (one other : Defined) → AreGood good one → AreGood good other → (variable : ℕ) → Fair good (phi_of one other variable)
phi_fair good one other first second variable = record {
  form = inl (refl, refl, refl);
  sources = All-cons (ComesFrom good) (defined_operand one variable) (defined_operand other variable ∷ []) (comes_from good one variable first)
      (All-cons (ComesFrom good) (defined_operand other variable) [] (comes_from good other variable second) (All-nil (ComesFrom good)));
}

phis_fair : (good : ℕ → Type 0) (one other : Defined) → AreGood good one → AreGood good other → (phis : List ℕ) → All (Fair good) (phis_of one other phis)
phis_fair good one other first second [] = All-nil (Fair good)
phis_fair good one other first second (phi ∷ phis) =
    All-cons (Fair good) (phi_of one other phi) (phis_of one other phis) (phi_fair good one other first second phi) (phis_fair good one other first second phis)

copy_no_write : kind_of op.Copy ≢ 14
copy_no_write is = omega (arith, is)

-- phis define their variables by good numbers, for they are no writes
phis_good : (good : ℕ → Type 0) (one other : Defined) (phis : List ℕ) (defined : Defined) (number : ℕ) → AreGood good defined
    → Each (Numbered good) number (phis_of one other phis) → AreGood good (with_phis defined number phis)
unfolding with_phis
phis_good good one other [] defined number all each = all
phis_good good one other (phi ∷ phis) defined number all each =
    phis_good good one other phis (defining defined phi number) (suc number) (defining_good good defined phi number all (each.0 copy_no_write)) each.1

not_write : (operator : OpSpec) → is_write operator ≡ false → kind_of operator ≢ 14
not_write (op.Scalar expr) differs is = omega (arith, is)
not_write (op.Read name types) differs is = omega (arith, is)
not_write (op.Map exprs) differs is = omega (arith, is)
not_write (op.Filter expr) differs is = omega (arith, is)
not_write (op.FlatMap flat) differs is = omega (arith, is)
not_write (op.Join one other) differs is = omega (arith, is)
not_write (op.Reduce keys agg) differs is = omega (arith, is)
not_write op.Union differs is = omega (arith, is)
not_write op.Distinct differs is = omega (arith, is)
not_write op.Only differs is = omega (arith, is)
not_write op.Count differs is = omega (arith, is)
not_write (op.Sum column) differs is = omega (arith, is)
not_write (op.MakeRow exprs) differs is = omega (arith, is)
not_write (op.Empty types) differs is = omega (arith, is)
not_write (op.Write name) differs is = absurd (cc differs)
not_write op.Copy differs is = omega (arith, is)

scalar_not_write : (operator : OpSpec) → is_scalar operator ≡ true → kind_of operator ≢ 14
scalar_not_write (op.Scalar expr) scalar is = omega (arith, is)
scalar_not_write other scalar is = absurd (cc scalar)

-- ---- statements

-- the first statement is no write
abbrev pub Starts : List Head → Type 0
Starts [] = ⊥
Starts (assigns target operator args ∷ heads) = Unit {0}
Starts (writes operator args ∷ heads) = ⊥
Starts (decides operator args ∷ heads) = Unit {0}

-- there is a first operator, and it is no write
abbrev pub StartsWell : List Operator → Type 0
StartsWell [] = ⊥
StartsWell (operator ∷ operators) = kind_of operator.spec ≢ 14

abbrev IsSome : List Head → Type 0
IsSome [] = ⊥
IsSome (head ∷ heads) = Unit {0}

starts_front : (heads more : List Head) → IsSome heads → Starts (heads ++ more) → Starts heads
starts_front [] more some starts = absurd some
starts_front (assigns target operator args ∷ heads) more some starts = tt
starts_front (writes operator args ∷ heads) more some starts = starts
starts_front (decides operator args ∷ heads) more some starts = tt

well_front : (operators more : List Operator) → StartsWell operators → StartsWell (operators ++ more)
well_front [] more well = absurd well
well_front (operator ∷ operators) more well = well

-- the operators that a statement, or some, add to the current block and to those after it
pub record Sown (good : ℕ → Type 0) (weave : Weave) (heads : List Head) : Type 0 where
  pub ops : WeavePlace → List Operator
  pub is : (place : WeavePlace) (stretch : WovenStretch)
      → operators_of (stretch_blocks ((weave.weave place).onto stretch)) ≡ ops place ++ operators_of (stretch_blocks stretch)
  pub many : (place : WeavePlace) → place.operator + length (ops place) ≡ (weave.weave place).operator
  pub some : IsSome heads
  pub starts : (variables : ℕ) → All (IsFormedHead variables) heads → Starts heads → (place : WeavePlace) → StartsWell (ops place)
  pub holds : (variables : ℕ) → All (IsFormedHead variables) heads → (place : WeavePlace) → Each (Numbered good) place.operator (ops place)
      → AreGood good place.defined → All (Fair good) (ops place) × AreGood good (weave.weave place).defined

pub record AreSown (good : ℕ → Type 0) (weaves : List Weave) (heads : List Head) : Type 0 where
  pub ops : WeavePlace → List Operator
  pub is : (place : WeavePlace) (stretch : WovenStretch)
      → operators_of (stretch_blocks ((woven_all weaves place).onto stretch)) ≡ ops place ++ operators_of (stretch_blocks stretch)
  pub many : (place : WeavePlace) → place.operator + length (ops place) ≡ (woven_all weaves place).operator
  pub starts : (variables : ℕ) → All (IsFormedHead variables) heads → Starts heads → (place : WeavePlace) → StartsWell (ops place)
  pub holds : (variables : ℕ) → All (IsFormedHead variables) heads → (place : WeavePlace) → Each (Numbered good) place.operator (ops place)
      → AreGood good place.defined → All (Fair good) (ops place) × AreGood good (woven_all weaves place).defined

pub all_front : {A : Type 0} (P : A → Type 0) (xs ys : List A) → All P (xs ++ ys) → All P xs
all_front P [] ys all = All-nil P
all_front P (x ∷ xs) ys all = All-cons P x xs (All-head P x (xs ++ ys) all) (all_front P xs ys (All-tail P x (xs ++ ys) all))

pub all_back : {A : Type 0} (P : A → Type 0) (xs ys : List A) → All P (xs ++ ys) → All P ys
all_back P [] ys all = all
all_back P (x ∷ xs) ys all = all_back P xs ys (All-tail P x (xs ++ ys) all)

none_sown : (good : ℕ → Type 0) → AreSown good [] []
unfolding woven_all
none_sown good = record {
  ops = λ place. [];
  is = λ place stretch. refl;
  many = λ place. omega arith;
  starts = λ variables formed starts place. absurd starts;
  holds = λ variables formed place each all. (All-nil (Fair good), all);
}

more_sown : (good : ℕ → Type 0) (weave : Weave) (weaves : List Weave) (heads others : List Head) → Sown good weave heads → AreSown good weaves others
    → AreSown good (weave ∷ weaves) (heads ++ others)
unfolding woven_all
more_sown good weave weaves heads others first later = record {
  ops = λ place. first.ops place ++ later.ops (next place);
  is = λ place stretch.
      first.is place ((woven_all weaves (next place)).onto stretch)
      ∙ ap (λ list. first.ops place ++ list) (later.is (next place) stretch)
      ∙ sym (append_assoc (first.ops place) (later.ops (next place)) (operators_of (stretch_blocks stretch)));
  many = λ place.
      let a = length-append (first.ops place) (later.ops (next place)) in
      let b = first.many place in let c = later.many (next place) in omega (arith, a, b, c);
  starts = λ variables formed starts place.
      well_front (first.ops place) (later.ops (next place))
      (first.starts variables (all_front (IsFormedHead variables) heads others formed) (starts_front heads others first.some starts) place);
  holds = λ variables formed place each all.
      let one = first.ops place in let two = later.ops (next place) in
      let front = first.holds variables (all_front (IsFormedHead variables) heads others formed) place (each_front (Numbered good) one two place.operator each) all in
      let back = later.holds variables (all_back (IsFormedHead variables) heads others formed) (next place)
      (each_from (Numbered good) two (place.operator + length one) (weave.weave place).operator (first.many place)
      (each_back (Numbered good) one two place.operator each)) front.1 in
      (All-append (Fair good) one two front.0 back.0, back.1);
}
  where
    next : WeavePlace → WeavePlace
    next place = place_after place weave (weave.weave place)

preceded_are : (operators : List Operator) (stretch : WovenStretch) → operators_of (stretch_blocks (operators_first operators stretch)) ≡ operators ++ operators_of (stretch_blocks stretch)
preceded_are operators stretch = append_assoc operators stretch.first.operators (operators_of stretch.later)

assign_sown : (good : ℕ → Type 0) (types : List VarType) (target : ℕ) (operator : OpSpec) (args : List ℕ) (defines : ℕ → Bool)
    → Sown good (record { count = 1; added = 0; assigns = defines; weave = done types (Some target) operator args }) (assigns target operator args ∷ [])
assign_sown good types target operator args defines = record {
  ops = λ place. operator_of types place.defined place.statement operator args ∷ [];
  is = λ place stretch. preceded_are (operator_of types place.defined place.statement operator args ∷ []) stretch;
  many = λ place. omega arith;
  some = tt;
  starts = λ variables formed starts place.
      let head = All-head (IsFormedHead variables) (assigns target operator args) [] formed in not_write operator head.1;
  holds = λ variables formed place each all.
      let head = All-head (IsFormedHead variables) (assigns target operator args) [] formed in (
        All-cons (Fair good) (operator_of types place.defined place.statement operator args) []
            (operator_fair good types place.defined place.statement operator args variables head.2 all) (All-nil (Fair good)),
        defining_good good place.defined target place.operator all (each.0 (not_write operator head.1)),
      );
}

write_sown : (good : ℕ → Type 0) (types : List VarType) (operator : OpSpec) (args : List ℕ) (defines : ℕ → Bool)
    → Sown good (record { count = 1; added = 0; assigns = defines; weave = done types None operator args }) (writes operator args ∷ [])
write_sown good types operator args defines = record {
  ops = λ place. operator_of types place.defined place.statement operator args ∷ [];
  is = λ place stretch. preceded_are (operator_of types place.defined place.statement operator args ∷ []) stretch;
  many = λ place. omega arith;
  some = tt;
  starts = λ variables formed starts place. absurd starts;
  holds = λ variables formed place each all.
      let head = All-head (IsFormedHead variables) (writes operator args) [] formed in (
        All-cons (Fair good) (operator_of types place.defined place.statement operator args) []
            (operator_fair good types place.defined place.statement operator args variables head.1 all) (All-nil (Fair good)),
        all,
      );
}

-- the operators of statements inside, which end with a jump
part_is : (good : ℕ → Type 0) (weaves : List Weave) (heads : List Head) (sown : AreSown good weaves heads) (place : WeavePlace) (to : ℕ)
    → operators_of (stretch_blocks ((woven_all weaves place).onto (just_left (Jump to)))) ≡ sown.ops place
part_is good weaves heads sown place to = sown.is place (just_left (Jump to)) ∙ append-nil (sown.ops place)

length-phis : (one other : Defined) (phis : List ℕ) → length (phis_of one other phis) ≡ length phis
length-phis one other phis = length-map phis (phi_of one other)

-- ---- an `if`

if_sown : (good : ℕ → Type 0) (types : List VarType) (operator : OpSpec) (args : List ℕ) (on_true on_false : List Weave) (heads others : List Head)
    (count added : ℕ) (defines : ℕ → Bool) → AreSown good on_true heads → AreSown good on_false others
    → Sown good (record { count = count; added = added; assigns = defines; weave = woven_branch types operator args on_true on_false })
    (decides operator args ∷ (heads ++ others))
if_sown good types operator args on_true on_false heads others count added defines first second = record {
  ops = λ place. condition place ∷ (one place ++ two place ++ phis place);
  is = λ place stretch.
      let xs = stretch_blocks ((woven_all on_true (in_true place)).onto (just_left (Jump (join_after on_true on_false place.block)))) in
      let ys = stretch_blocks ((woven_all on_false (in_false on_true place)).onto (just_left (Jump (join_after on_true on_false place.block)))) in
      ap (λ list. condition place ∷ list)
      (flat_map-append (λ (block : Block). block.operators) (xs ++ ys) (stretch_blocks (operators_first (phis place) stretch))
      ∙ ap₂ (λ (list more : List Operator). list ++ more)
      (flat_map-append (λ (block : Block). block.operators) xs ys
      ∙ ap₂ (λ (list more : List Operator). list ++ more)
      (part_is good on_true heads first (in_true place) (join_after on_true on_false place.block)) (part_is good on_false others second (in_false on_true place) (join_after on_true on_false place.block)))
      (preceded_are (phis place) stretch)
      ∙ sym (append_assoc (one place ++ two place) (phis place) (operators_of (stretch_blocks stretch))));
  many = λ place.
      let a = length-append (one place ++ two place) (phis place) in let b = length-append (one place) (two place) in
      let c = first.many (in_true place) in let d = second.many (in_false on_true place) in let e = length-phis (defined_one place) (defined_two place) (joined place) in
      omega (arith, a, b, c, d, e);
  some = tt;
  starts = λ variables formed starts place.
      let head = All-head (IsFormedHead variables) (decides operator args) (heads ++ others) formed in scalar_not_write operator head.0;
  holds = λ variables formed place each all.
      let head = All-head (IsFormedHead variables) (decides operator args) (heads ++ others) formed in
      let rest = All-tail (IsFormedHead variables) (decides operator args) (heads ++ others) formed in
      let near : suc place.operator ≡ place.operator + 1 = omega arith in
      let c = first.many (in_true place) in let d = second.many (in_false on_true place) in let e = length-append (one place) (two place) in
      let parts = each_front (Numbered good) (one place ++ two place) (phis place) (suc place.operator) each.1 in
      let one_good = first.holds variables (all_front (IsFormedHead variables) heads others rest) (in_true place)
      (each_from (Numbered good) (one place) (suc place.operator) (place.operator + 1) near
      (each_front (Numbered good) (one place) (two place) (suc place.operator) parts)) all in
      let two_good = second.holds variables (all_back (IsFormedHead variables) heads others rest) (in_false on_true place)
      (each_from (Numbered good) (two place) (suc place.operator + length (one place)) (in_false on_true place).operator (omega (arith, c))
      (each_back (Numbered good) (one place) (two place) (suc place.operator) parts)) all in
      let phis_each = each_from (Numbered good) (phis place) (suc place.operator + length (one place ++ two place)) (last place) (omega (arith, c, d, e))
      (each_back (Numbered good) (one place ++ two place) (phis place) (suc place.operator) each.1) in (
        All-cons (Fair good) (condition place) (one place ++ two place ++ phis place)
            (operator_fair good types place.defined place.statement operator args variables head.1 all)
            (All-append (Fair good) (one place ++ two place) (phis place) (All-append (Fair good) (one place) (two place) one_good.0 two_good.0)
            (phis_fair good (defined_one place) (defined_two place) one_good.1 two_good.1 (joined place))),
        phis_good good (defined_one place) (defined_two place) (joined place) (on_both (defined_one place) (defined_two place)) (last place)
            (both_good good (defined_one place) (defined_two place) one_good.1) phis_each,
      );
}
  where
    condition : WeavePlace → Operator
    condition place = operator_of types place.defined place.statement operator args

    one : WeavePlace → List Operator
    one place = first.ops (in_true place)

    two : WeavePlace → List Operator
    two place = second.ops (in_false on_true place)

    defined_one : WeavePlace → Defined
    defined_one place = (woven_all on_true (in_true place)).defined

    defined_two : WeavePlace → Defined
    defined_two place = (woven_all on_false (in_false on_true place)).defined

    last : WeavePlace → ℕ
    last place = (woven_all on_false (in_false on_true place)).operator

    joined : WeavePlace → List ℕ
    joined place = join_phis (length types) on_true on_false (defined_one place) (defined_two place)

    phis : WeavePlace → List Operator
    phis place = phis_of (defined_one place) (defined_two place) (joined place)

-- ---- a `while`

while_sown : (good : ℕ → Type 0) (types : List VarType) (operator : OpSpec) (args : List ℕ) (body : List Weave) (inner : List Head)
    (count added : ℕ) (defines : ℕ → Bool) → AreSown good body inner
    → Sown good (record { count = count; added = added; assigns = defines; weave = woven_loop types operator args body }) (decides operator args ∷ inner)
while_sown good types operator args body inner count added defines sown = record {
  ops = λ place. phis place ++ condition place ∷ [] ++ turn place;
  is = λ place stretch.
      let xs = stretch_blocks ((woven_all body (in_body types body place)).onto (just_left (Jump (place.block + 1)))) in
      ap (λ list. (phis place ++ condition place ∷ []) ++ list)
      (flat_map-append (λ (block : Block). block.operators) xs (stretch_blocks stretch)
      ∙ ap (λ list. list ++ operators_of (stretch_blocks stretch)) (part_is good body inner sown (in_body types body place) (place.block + 1)))
      ∙ sym (append_assoc (phis place ++ condition place ∷ []) (turn place) (operators_of (stretch_blocks stretch)));
  many = λ place.
      let a = length-append (phis place ++ condition place ∷ []) (turn place) in let b = length-append (phis place) (condition place ∷ []) in
      let c = sown.many (in_body types body place) in let d = length-phis place.defined (defined_turn place) (turned place) in
      omega (arith, a, b, c, d);
  some = tt;
  starts = λ variables formed starts place.
      let head = All-head (IsFormedHead variables) (decides operator args) inner formed in
      well_front (phis place ++ condition place ∷ []) (turn place) (well (turned place) place (scalar_not_write operator head.0));
  holds = λ variables formed place each all.
      let head = All-head (IsFormedHead variables) (decides operator args) inner formed in
      let rest = All-tail (IsFormedHead variables) (decides operator args) inner formed in
      let b = length-append (phis place) (condition place ∷ []) in let d = length-phis place.defined (defined_turn place) (turned place) in
      let front = each_front (Numbered good) (phis place ++ condition place ∷ []) (turn place) place.operator each in
      let inside_good = phis_good good place.defined (defined_turn place) (turned place) place.defined place.operator all
      (each_front (Numbered good) (phis place) (condition place ∷ []) place.operator front) in
      let turn_good = sown.holds variables rest (in_body types body place)
      (each_from (Numbered good) (turn place) (place.operator + length (phis place ++ condition place ∷ [])) (in_body types body place).operator (omega (arith, b, d))
      (each_back (Numbered good) (phis place ++ condition place ∷ []) (turn place) place.operator each)) inside_good in (
        All-append (Fair good) (phis place ++ condition place ∷ []) (turn place)
            (All-append (Fair good) (phis place) (condition place ∷ []) (phis_fair good place.defined (defined_turn place) all turn_good.1 (turned place))
            (All-cons (Fair good) (condition place) [] (operator_fair good types (inside_of place) place.statement operator args variables head.1 inside_good)
            (All-nil (Fair good))))
            turn_good.0,
        inside_good,
      );
}
  where
    turned : WeavePlace → List ℕ
    turned place = loop_phis (length types) body place.defined

    inside_of : WeavePlace → Defined
    inside_of place = with_phis place.defined place.operator (turned place)

    condition : WeavePlace → Operator
    condition place = operator_of types (inside_of place) place.statement operator args

    turn : WeavePlace → List Operator
    turn place = sown.ops (in_body types body place)

    defined_turn : WeavePlace → Defined
    defined_turn place = (woven_all body (in_body types body place)).defined

    phis : WeavePlace → List Operator
    phis place = phis_of place.defined (defined_turn place) (turned place)

    well : (variables : List ℕ) (place : WeavePlace) → kind_of operator ≢ 14
        → StartsWell (phis_of place.defined (defined_turn place) variables ++ condition place ∷ [])
    well [] place differs = differs
    well (variable ∷ variables) place differs = copy_no_write

-- ---- each statement

abbrev IsSown : (ℕ → Type 0) → List VarType → Stmt → Type 0
IsSown good types stmt = Sown good (weave_of types stmt) (heads_in stmt)

abbrev Proved : (ℕ → Type 0) → List VarType → Type 0
Proved good types = (stmt : Stmt) × IsSown good types stmt

abbrev only : (good : ℕ → Type 0) (types : List VarType) → Proved good types → Stmt
only good types proved = proved.0

inner_sown : (good : ℕ → Type 0) (types : List VarType) (block : List (Proved good types))
    → AreSown good (map (weave_of types) (map (only good types) block)) (flat_map (λ heads. heads) (map heads_in (map (only good types) block)))
inner_sown good types [] = none_sown good
inner_sown good types (first ∷ later) =
    more_sown good (weave_of types first.0) (map (weave_of types) (map (only good types) later)) (heads_in first.0)
    (flat_map (λ heads. heads) (map heads_in (map (only good types) later))) first.1 (inner_sown good types later)

rolled : (good : ℕ → Type 0) (types : List VarType) (one : Stmt-F Stmt)
    → Sown good (weave_step types (map-Stmt Stmt Weave (weave_of types) one)) (head_step (map-Stmt Stmt (List Head) heads_in one)) → IsSown good types (roll-Stmt one)
rolled good types one sown = rw (fold-roll-Stmt Weave (weave_step types) one, fold-roll-Stmt (List Head) head_step one) sown

layer_sown : (good : ℕ → Type 0) (types : List VarType) (one : Stmt-F (Proved good types))
    → IsSown good types (roll-Stmt (map-Stmt (Proved good types) Stmt (only good types) one))
layer_sown good types (layer.Assign target operator args) =
    rolled good types (layer.Assign target operator args) (assign_sown good types target operator args _)
layer_sown good types (layer.Write operator args) =
    rolled good types (layer.Write operator args) (write_sown good types operator args _)
layer_sown good types (layer.If operator args on_true on_false) =
    rolled good types (layer.If operator args (map (only good types) on_true) (map (only good types) on_false))
    (if_sown good types operator args _ _ _ _ _ _ _ (inner_sown good types on_true) (inner_sown good types on_false))
layer_sown good types (layer.While operator args body) =
    rolled good types (layer.While operator args (map (only good types) body))
    (while_sown good types operator args _ _ _ _ _ (inner_sown good types body))

pub one_sown : (good : ℕ → Type 0) (types : List VarType) (stmt : Stmt) → IsSown good types stmt
one_sown good types =
    ind-Stmt (IsSown good types) (λ one inner same. subst (λ some. IsSown good types (roll-Stmt some)) same (layer_sown good types inner))

pub block_sown : (good : ℕ → Type 0) (types : List VarType) (block : List Stmt) → AreSown good (map (weave_of types) block) (flat_map heads_in block)
block_sown good types [] = none_sown good
block_sown good types (first ∷ later) =
    more_sown good (weave_of types first) (map (weave_of types) later) (heads_in first) (flat_map heads_in later) (one_sown good types first) (block_sown good types later)
