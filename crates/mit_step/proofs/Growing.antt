-- What is known at one place is known at every later one.
use Rattle.std.proofs.Common.{◌≡◌, ◌∙◌, ℕ, zero, suc, List, [], ◌∷◌, Bool, true, false, Option, Some, None, Result, Ok, Err, ap, arith, get_or, length, map, refl, set, subst, sym}
use Rattle.std.specs.Prelude.{◌&&◌, if◌then◌else◌, is_some, slice_get, slice_set, unwrap_or}
use Rattle.std.proofs.lemmas.List.{length-set}
use Rattle.std.proofs.lemmas.Option.{unwrap_or-slice_get}
use Rattle.mit_ops.specs.declared.kinds.OpSpec.{OpSpec}
use Rattle.mit_ops.specs.declared.types.VarType.{VarType}
use Rattle.mit_script.specs.Accepted.{Check, Known, and_then, assigned_by, assigning, assigned_in_both, branched, check_of, check_step, decided_by, fault_here, fault_or, first_type, in_order, is_assigned, is_condition, is_kept, judged, looped, passed, rejoined, with_assigned, written_by}
use Rattle.mit_script.specs.declared.typed.CheckCode.{CheckCode}
use Rattle.mit_script.specs.declared.typed.CheckCode.TheVariants.{WrongType}
use Rattle.mit_script.specs.declared.tree.Stmt.{Stmt}
use Rattle.mit_script.specs.declared.tree.Stmt.TheFolds.{fold-roll-Stmt, ind-Stmt, map-Stmt}
use Rattle.mit_script.specs.declared.tree.Stmt.TheOpen.{Stmt-F}
use Rattle.mit_script.specs.declared.tree.Stmt.TheOpen as layer
use Rattle.mit_script.specs.declared.tree.Stmt.TheVariants as stmt
use Rattle.mit_script.specs.declared.tree.Stmt.TheViews.{roll-Stmt}

-- ---- the check of a statement, by its kind

pub check_of-Assign : (target : ℕ) (op : OpSpec) (args : List ℕ) (known : Known) → check_of (stmt.Assign target op args) known ≡ assigned_by target op args known
check_of-Assign target op args known =
    ap (λ s. check_of s known) (sym (stmt.rolls-Assign target op args)) ∙ ap (λ (check : Check). check known) (fold-roll-Stmt Check check_step (layer.Assign target op args))

pub check_of-Write : (op : OpSpec) (args : List ℕ) (known : Known) → check_of (stmt.Write op args) known ≡ written_by op args known
check_of-Write op args known =
    ap (λ s. check_of s known) (sym (stmt.rolls-Write op args)) ∙ ap (λ (check : Check). check known) (fold-roll-Stmt Check check_step (layer.Write op args))

pub check_of-If : (op : OpSpec) (args : List ℕ) (on_true on_false : List Stmt) (known : Known)
    → check_of (stmt.If op args on_true on_false) known ≡ and_then (decided_by op args known) (branched (map check_of on_true) (map check_of on_false))
check_of-If op args on_true on_false known =
    ap (λ s. check_of s known) (sym (stmt.rolls-If op args on_true on_false)) ∙ ap (λ (check : Check). check known) (fold-roll-Stmt Check check_step (layer.If op args on_true on_false))

pub check_of-While : (op : OpSpec) (args : List ℕ) (body : List Stmt) (known : Known)
    → check_of (stmt.While op args body) known ≡ and_then (decided_by op args known) (looped (map check_of body))
check_of-While op args body known =
    ap (λ s. check_of s known) (sym (stmt.rolls-While op args body)) ∙ ap (λ (check : Check). check known) (fold-roll-Stmt Check check_step (layer.While op args body))

-- ---- one check after another

-- an answer of two checks goes through one of the first
pub passes : {A B E : Type 0} (found : Result A E) (next : A → Result B E) (last : B) → and_then found next ≡ Ok last → (mid : A) × (found ≡ Ok mid) × (next mid ≡ Ok last)
passes (Ok mid) next last is = (mid, refl, is)
passes (Err why) next last is = cc

-- and a code that is no fault is a value
pub no_fault : {A : Type 0} (known : Known) (found : Result A CheckCode) (value : A) → fault_or known found ≡ Ok value → found ≡ Ok value
no_fault known (Ok other) value is = ap (λ r. r) (let same : other ≡ value = cc in ap Ok same)
no_fault known (Err code) value is = cc

pub if_holds : {A E : Type 0} (test : Bool) (value last : A) (why : E) → (if test then Ok value else Err why) ≡ Ok last → (test ≡ true) × (value ≡ last)
if_holds true value last why is = (refl, cc)
if_holds false value last why is = cc

-- ---- growth

pub record Grows (known after : Known) : Type 0 where
  pub types : (variable : ℕ) (type : VarType) → first_type known variable ≡ Some type → first_type after variable ≡ Some type
  pub assigned : (variable : ℕ) → is_assigned known.assigned variable ≡ true → is_assigned after.assigned variable ≡ true
  pub many : length after.assigned ≡ length known.assigned
  pub typed : length after.types ≡ length known.types

pub grows_none : (known : Known) → Grows known known
grows_none known = record { types = λ variable type is. is; assigned = λ variable is. is; many = refl; typed = refl }

pub grows_twice : {one two three : Known} → Grows one two → Grows two three → Grows one three
grows_twice first second = record {
  types = λ variable type is. second.types variable type (first.types variable type is);
  assigned = λ variable is. second.assigned variable (first.assigned variable is);
  many = second.many ∙ first.many;
  typed = second.typed ∙ first.typed;
}

pub passed_grows : (known : Known) → Grows known (passed known)
passed_grows known = record { types = λ variable type is. is; assigned = λ variable is. is; many = refl; typed = refl }

-- what is assigned in both is assigned in each, and the other way round
assigned_get : (xs : List Bool) (variable : ℕ) → is_assigned xs variable ≡ get_or xs variable false
assigned_get xs variable = unwrap_or-slice_get xs variable false

none_and : (is : Bool) → (is && false) ≡ false
none_and true = refl
none_and false = refl

both_get : (xs ys : List Bool) (variable : ℕ) → get_or (assigned_in_both xs ys) variable false ≡ (get_or xs variable false && get_or ys variable false)
both_get [] ys variable = refl
both_get (x ∷ xs) [] zero = sym (none_and x)
both_get (x ∷ xs) [] (suc variable) = sym (none_and (get_or xs variable false))
both_get (x ∷ xs) (y ∷ ys) zero = refl
both_get (x ∷ xs) (y ∷ ys) (suc variable) = both_get xs ys variable

both_length : (xs ys : List Bool) → length ys ≡ length xs → length (assigned_in_both xs ys) ≡ length xs
both_length [] ys same = refl
both_length (x ∷ xs) [] same = cc
both_length (x ∷ xs) (y ∷ ys) same = let more = both_length xs ys (omega (arith, same)) in omega (arith, more)

and_true : (a b : Bool) → a ≡ true → b ≡ true → (a && b) ≡ true
and_true a b is other = rw (is, other) refl

and_parts : (a b : Bool) → (a && b) ≡ true → (a ≡ true) × (b ≡ true)
and_parts true b is = (refl, is)
and_parts false b is = cc

pub both_of : (xs ys : List Bool) (variable : ℕ) → is_assigned xs variable ≡ true → is_assigned ys variable ≡ true → is_assigned (assigned_in_both xs ys) variable ≡ true
both_of xs ys variable is other =
    assigned_get (assigned_in_both xs ys) variable ∙ (both_get xs ys variable
    ∙ and_true (get_or xs variable false) (get_or ys variable false) (sym (assigned_get xs variable) ∙ is) (sym (assigned_get ys variable) ∙ other))

pub of_both : (xs ys : List Bool) (variable : ℕ) → is_assigned (assigned_in_both xs ys) variable ≡ true → (is_assigned xs variable ≡ true) × (is_assigned ys variable ≡ true)
of_both xs ys variable is =
    let parts = and_parts (get_or xs variable false) (get_or ys variable false) (sym (both_get xs ys variable) ∙ (sym (assigned_get (assigned_in_both xs ys) variable) ∙ is)) in
    (assigned_get xs variable ∙ parts.0, assigned_get ys variable ∙ parts.1)

-- an assignment
pub first_get : (known : Known) (variable : ℕ) → first_type known variable ≡ get_or known.types variable None
first_get known variable = unwrap_or-slice_get known.types variable None

set_true : (xs : List Bool) (target variable : ℕ) → get_or xs variable false ≡ true → get_or (set xs target true) variable false ≡ true
set_true [] target variable is = is
set_true (x ∷ xs) zero zero is = refl
set_true (x ∷ xs) zero (suc variable) is = is
set_true (x ∷ xs) (suc target) zero is = is
set_true (x ∷ xs) (suc target) (suc variable) is = set_true xs target variable is

set_first : {A : Type 0} (xs : List (Option A)) (target variable : ℕ) (one other : A) → get_or xs target None ≡ None → get_or xs variable None ≡ Some other
    → get_or (set xs target (Some one)) variable None ≡ Some other
set_first [] target variable one other none is = is
set_first (x ∷ xs) zero zero one other none is = cc
set_first (x ∷ xs) zero (suc variable) one other none is = is
set_first (x ∷ xs) (suc target) zero one other none is = is
set_first (x ∷ xs) (suc target) (suc variable) one other none is = set_first xs target variable one other none is

pub assigning_grows : (target : ℕ) (type : VarType) (known : Known) → Grows known (assigning target type known)
assigning_grows target type known = record {
  types = λ variable other is. kept variable other is (first_type known target) refl;
  assigned = λ variable is. assigned_get (set known.assigned target true) variable ∙ set_true known.assigned target variable (sym (assigned_get known.assigned variable) ∙ is);
  many = length-set known.assigned target true;
  typed = as_many (first_type known target);
}
  where
    kept : (variable : ℕ) (other : VarType) → first_type known variable ≡ Some other → (first : Option VarType) → first_type known target ≡ first
        → unwrap_or (slice_get (if is_some first then known.types else slice_set known.types target (Some type)) variable) None ≡ Some other
    kept variable other is (Some found) first = is
    kept variable other is None first =
        unwrap_or-slice_get (set known.types target (Some type)) variable None
        ∙ set_first known.types target variable type other (sym (first_get known target) ∙ first) (sym (first_get known variable) ∙ is)

    as_many : (first : Option VarType) → length (if is_some first then known.types else slice_set known.types target (Some type)) ≡ length known.types
    as_many (Some found) = refl
    as_many None = length-set known.types target (Some type)

-- ---- the parts of checks that pass

pub record Decided (op : OpSpec) (args : List ℕ) (known inside : Known) : Type 0 where
  pub type : VarType
  pub judged : judged known op args ≡ Ok type
  pub condition : is_condition type ≡ true
  pub is : passed known ≡ inside

pub decided_parts : (op : OpSpec) (args : List ℕ) (known inside : Known) → decided_by op args known ≡ Ok inside → Decided op args known inside
decided_parts op args known inside is =
    let one = passes (fault_or known (judged known op args)) (λ type. if is_condition type then Ok (passed known) else Err (fault_here known WrongType)) inside is in
    let test = if_holds (is_condition one.0) (passed known) inside (fault_here known WrongType) one.2 in
    record { type = one.0; judged = no_fault known (judged known op args) one.0 one.1; condition = test.0; is = test.1 }

pub record Assigned (target : ℕ) (op : OpSpec) (args : List ℕ) (known after : Known) : Type 0 where
  pub type : VarType
  pub judged : judged known op args ≡ Ok type
  pub kept : is_kept (first_type known target) type ≡ true
  pub is : assigning target type known ≡ after

pub assigned_parts : (target : ℕ) (op : OpSpec) (args : List ℕ) (known after : Known) → assigned_by target op args known ≡ Ok after → Assigned target op args known after
assigned_parts target op args known after is =
    let one = passes (fault_or known (judged known op args)) (λ type. if is_kept (first_type known target) type then Ok (assigning target type known) else Err (fault_here known WrongType)) after is in
    let test = if_holds (is_kept (first_type known target) one.0) (assigning target one.0 known) after (fault_here known WrongType) one.2 in
    record { type = one.0; judged = no_fault known (judged known op args) one.0 one.1; kept = test.0; is = test.1 }

pub record Written (op : OpSpec) (args : List ℕ) (known after : Known) : Type 0 where
  pub type : VarType
  pub judged : judged known op args ≡ Ok type
  pub is : passed known ≡ after

pub same_ok : {A E : Type 0} (one other : A) → ◌≡◌ {A = Result A E} (Ok one) (Ok other) → one ≡ other
same_ok one other is = cc

pub written_parts : (op : OpSpec) (args : List ℕ) (known after : Known) → written_by op args known ≡ Ok after → Written op args known after
written_parts op args known after is =
    let one = passes (fault_or known (judged known op args)) (λ type. Ok (passed known)) after is in
    record { type = one.0; judged = no_fault known (judged known op args) one.0 one.1; is = same_ok (passed known) after one.2 }

pub record Branched (op : OpSpec) (args : List ℕ) (on_true on_false : List Check) (known after : Known) : Type 0 where
  pub inside : Known
  pub one : Known
  pub other : Known
  pub decided : Decided op args known inside
  pub yes : in_order on_true inside ≡ Ok one
  pub no : in_order on_false (with_assigned inside.assigned one) ≡ Ok other
  pub is : with_assigned (assigned_in_both one.assigned other.assigned) other ≡ after

pub branched_parts : (op : OpSpec) (args : List ℕ) (on_true on_false : List Check) (known after : Known)
    → and_then (decided_by op args known) (branched on_true on_false) ≡ Ok after → Branched op args on_true on_false known after
branched_parts op args on_true on_false known after is =
    let first = passes (decided_by op args known) (branched on_true on_false) after is in
    let second = passes (in_order on_true first.0) (rejoined on_false first.0.assigned) after first.2 in
    let third = passes (in_order on_false (with_assigned first.0.assigned second.0)) (λ other. Ok (with_assigned (assigned_in_both second.0.assigned other.assigned) other)) after second.2 in
    record {
      inside = first.0;
      one = second.0;
      other = third.0;
      decided = decided_parts op args known first.0 first.1;
      yes = second.1;
      no = third.1;
      is = same_ok (with_assigned (assigned_in_both second.0.assigned third.0.assigned) third.0) after third.2;
    }

pub record Looped (op : OpSpec) (args : List ℕ) (body : List Check) (known after : Known) : Type 0 where
  pub inside : Known
  pub last : Known
  pub decided : Decided op args known inside
  pub block : in_order body inside ≡ Ok last
  pub is : with_assigned inside.assigned last ≡ after

pub looped_parts : (op : OpSpec) (args : List ℕ) (body : List Check) (known after : Known) → and_then (decided_by op args known) (looped body) ≡ Ok after → Looped op args body known after
looped_parts op args body known after is =
    let first = passes (decided_by op args known) (looped body) after is in
    let second = passes (in_order body first.0) (λ last. Ok (with_assigned first.0.assigned last)) after first.2 in
    record {
      inside = first.0;
      last = second.0;
      decided = decided_parts op args known first.0 first.1;
      block = second.1;
      is = same_ok (with_assigned first.0.assigned second.0) after second.2;
    }

-- ---- each check grows

abbrev DoesGrow : Check → Type 0
DoesGrow check = (known after : Known) → check known ≡ Ok after → Grows known after

abbrev Inner : Type 0
Inner = (s : Stmt) × DoesGrow (check_of s)

abbrev statements : List Inner → List Stmt
statements inner = map (λ one. one.0) inner

in_order_grows : (inner : List Inner) → DoesGrow (in_order (map check_of (statements inner)))
in_order_grows [] known after is = subst (Grows known) (same_ok known after is) (grows_none known)
in_order_grows (one ∷ inner) known after is =
    let first = passes (check_of one.0 known) (in_order (map check_of (statements inner))) after is in
    grows_twice (one.1 known first.0 first.1) (in_order_grows inner first.0 after first.2)

branched_grows : (op : OpSpec) (args : List ℕ) (on_true on_false : List Check) → DoesGrow (in_order on_true) → DoesGrow (in_order on_false)
    → DoesGrow (λ known. and_then (decided_by op args known) (branched on_true on_false))
branched_grows op args on_true on_false grows_yes grows_no known after is =
    let parts = branched_parts op args on_true on_false known after is in
    let inside = subst (Grows known) parts.decided.is (passed_grows known) in
    let one = grows_yes parts.inside parts.one parts.yes in
    let other = grows_no (with_assigned parts.inside.assigned parts.one) parts.other parts.no in
    subst (Grows known) parts.is (record {
      types = λ variable type is. other.types variable type (one.types variable type (inside.types variable type is));
      assigned = λ variable is. both_of parts.one.assigned parts.other.assigned variable
          (one.assigned variable (inside.assigned variable is)) (other.assigned variable (inside.assigned variable is));
      many = both_length parts.one.assigned parts.other.assigned (other.many ∙ sym one.many) ∙ (one.many ∙ inside.many);
      typed = other.typed ∙ (one.typed ∙ inside.typed);
    })

looped_grows : (op : OpSpec) (args : List ℕ) (body : List Check) → DoesGrow (in_order body) → DoesGrow (λ known. and_then (decided_by op args known) (looped body))
looped_grows op args body grows known after is =
    let parts = looped_parts op args body known after is in
    let inside = subst (Grows known) parts.decided.is (passed_grows known) in
    let last = grows parts.inside parts.last parts.block in
    subst (Grows known) parts.is (record {
      types = λ variable type is. last.types variable type (inside.types variable type is);
      assigned = λ variable is. inside.assigned variable is;
      many = inside.many;
      typed = last.typed ∙ inside.typed;
    })

rolled : (it : Stmt-F Stmt) → DoesGrow (check_step (map-Stmt Stmt Check check_of it)) → DoesGrow (check_of (roll-Stmt it))
rolled it grows known after is = grows known after (sym (ap (λ (check : Check). check known) (fold-roll-Stmt Check check_step it)) ∙ is)

layer_grows : (it : Stmt-F Inner) → DoesGrow (check_of (roll-Stmt (map-Stmt Inner Stmt (λ one. one.0) it)))
layer_grows (layer.Assign target op args) = rolled (layer.Assign target op args) (λ known after is.
    let parts = assigned_parts target op args known after is in subst (Grows known) parts.is (assigning_grows target parts.type known))
layer_grows (layer.Write op args) = rolled (layer.Write op args) (λ known after is.
    let parts = written_parts op args known after is in subst (Grows known) parts.is (passed_grows known))
layer_grows (layer.If op args on_true on_false) = rolled (map-Stmt Inner Stmt (λ one. one.0) (layer.If op args on_true on_false))
    (branched_grows op args (map check_of (statements on_true)) (map check_of (statements on_false)) (in_order_grows on_true) (in_order_grows on_false))
layer_grows (layer.While op args body) = rolled (map-Stmt Inner Stmt (λ one. one.0) (layer.While op args body))
    (looped_grows op args (map check_of (statements body)) (in_order_grows body))

pub check_grows : (s : Stmt) (known after : Known) → check_of s known ≡ Ok after → Grows known after
check_grows = ind-Stmt (λ s. DoesGrow (check_of s)) (λ x it same. subst (λ z. DoesGrow (check_of (roll-Stmt z))) same (layer_grows it))

pub block_grows : (block : List Stmt) (known after : Known) → in_order (map check_of block) known ≡ Ok after → Grows known after
block_grows [] known after is = subst (Grows known) (same_ok known after is) (grows_none known)
block_grows (s ∷ block) known after is =
    let first = passes (check_of s known) (in_order (map check_of block)) after is in
    grows_twice (check_grows s known first.0 first.1) (block_grows block first.0 after first.2)
