-- What the check tells of a block goes on from statement to statement.
use Rattle.std.proofs.Common.{◌≡◌, ◌≢◌, ◌∙◌, ◌<◌, ℕ, List, [], ◌∷◌, ◌++◌, All, Bool, true, false, Option, Some, None, Ok, ap, arith, length, map, refl, set, subst, sym}
use Rattle.std.specs.Prelude.{◌&&◌, ◌==◌, IfSome, flat_map, if◌then◌else◌, is_some, slice_get, slice_set, unwrap_or}
use Rattle.std.proofs.lemmas.Bool.{eqb-true, eqb-false}
use Rattle.std.proofs.lemmas.List.{append-nil, drop_at, get_or-set_other, take_at}
use Rattle.std.proofs.lemmas.List.Elements.{All-drop, All-head, All-tail, All-take}
use Rattle.std.proofs.lemmas.Grind.{get_or-set_at}
use Rattle.std.proofs.lemmas.List.Folds.{flat_map-map}
use Rattle.std.proofs.lemmas.Option.{unwrap_or-slice_get}
use Rattle.mit_rows.specs.Bags.{BagOf}
use Rattle.mit_rows.specs.declared.value.ColType.{ColType}
use Rattle.mit_rows.specs.declared.value.ColType.TheVariants as is
use Rattle.mit_expr.specs.Types.{same_type}
use Rattle.mit_ops.specs.Kinds.{kind_of}
use Rattle.mit_ops.specs.Results.{same_types}
use Rattle.mit_ops.specs.declared.kinds.OpSpec.{OpSpec}
use Rattle.mit_ops.specs.declared.kinds.OpSpec.TheVariants as op
use Rattle.mit_ops.specs.declared.types.VarType.{VarType}
use Rattle.mit_script.specs.Accepted.{Known, and_then, assigning, assigned_in_both, check_of, first_type, in_order, is_assigned, is_kept, passed, same_truth, with_assigned}
use Rattle.mit_script.specs.Trees.{Head, IsFormedHead, assigns, decides, head_step, heads_in, is_scalar, is_write, writes}
use Rattle.mit_script.specs.declared.tree.Stmt.{Stmt}
use Rattle.mit_script.specs.declared.tree.Stmt.TheFolds.{fold-roll-Stmt}
use Rattle.mit_script.specs.declared.tree.Stmt.TheOpen as layer
use Rattle.mit_script.specs.declared.tree.Stmt.TheVariants as stmt
use Rattle.mit_step.proofs.Arguments.{op_argued, op_typed}
use Rattle.mit_step.proofs.Growing.{Grows, assigned_parts, assigning_grows, block_grows, branched_parts, check_grows, check_of-Assign, check_of-If, check_of-While, check_of-Write, looped_parts, of_both, passed_grows, passes, same_ok, written_parts}
use Rattle.mit_step.specs.Typing.{Argued, HasType, IsMade, Ready, Settles, StoreHolds, inputs_in, stored_bag, variable_type}

-- ---- the heads of a statement and of those inside it

heads_in-Assign : (target : ℕ) (op : OpSpec) (args : List ℕ) → heads_in (stmt.Assign target op args) ≡ assigns target op args ∷ []
heads_in-Assign target op args = ap heads_in (sym (stmt.rolls-Assign target op args)) ∙ fold-roll-Stmt (List Head) head_step (layer.Assign target op args)

heads_in-Write : (op : OpSpec) (args : List ℕ) → heads_in (stmt.Write op args) ≡ writes op args ∷ []
heads_in-Write op args = ap heads_in (sym (stmt.rolls-Write op args)) ∙ fold-roll-Stmt (List Head) head_step (layer.Write op args)

heads_in-If : (op : OpSpec) (args : List ℕ) (on_true on_false : List Stmt)
    → heads_in (stmt.If op args on_true on_false) ≡ decides op args ∷ flat_map heads_in on_true ++ flat_map heads_in on_false
heads_in-If op args on_true on_false =
    ap heads_in (sym (stmt.rolls-If op args on_true on_false)) ∙ fold-roll-Stmt (List Head) head_step (layer.If op args on_true on_false)
    ∙ rw (flat_map-map (λ heads. heads) heads_in on_true, flat_map-map (λ heads. heads) heads_in on_false) refl

heads_in-While : (op : OpSpec) (args : List ℕ) (body : List Stmt) → heads_in (stmt.While op args body) ≡ decides op args ∷ flat_map heads_in body
heads_in-While op args body =
    ap heads_in (sym (stmt.rolls-While op args body)) ∙ fold-roll-Stmt (List Head) head_step (layer.While op args body)
    ∙ rw (flat_map-map (λ heads. heads) heads_in body) refl

all_front : {A : Type 0} (P : A → Type 0) (xs ys : List A) → All P (xs ++ ys) → All P xs
all_front P xs ys all = subst (All P) (take_at xs ys (length xs) refl) (All-take P (length xs) (xs ++ ys) all)

all_later : {A : Type 0} (P : A → Type 0) (xs ys : List A) → All P (xs ++ ys) → All P ys
all_later P xs ys all = subst (All P) (drop_at xs ys (length xs) refl) (All-drop P (length xs) (xs ++ ys) all)

-- the heads of a single statement
alone : (s : Stmt) → flat_map heads_in (s ∷ []) ≡ heads_in s
alone s = append-nil (heads_in s)

-- a scalar is no write
no_write : (operator : OpSpec) → is_scalar operator ≡ true → is_write operator ≡ false
no_write (op.Scalar expr) is = refl
no_write (op.Write name) is = sym is
no_write operator is = refl

-- ---- types that are the same

truth_of : (a b : Bool) → same_truth a b ≡ true → a ≡ b
truth_of true true is = refl
truth_of true false is = sym is
truth_of false false is = refl
truth_of false true is = cc

both_hold : (a b : Bool) → (a && b) ≡ true → (a ≡ true) × (b ≡ true)
both_hold true b is = (refl, is)
both_hold false b is = cc

type_of : (a b : ColType) → same_type a b ≡ true → a ≡ b
type_of is.Int is.Int same = refl
type_of is.Int is.Text same = cc
type_of is.Int is.Bool same = cc
type_of is.Text is.Text same = refl
type_of is.Text is.Int same = cc
type_of is.Text is.Bool same = cc
type_of is.Bool is.Bool same = refl
type_of is.Bool is.Int same = cc
type_of is.Bool is.Text same = cc

types_of : (one other : List ColType) → same_types one other ≡ true → one ≡ other
types_of [] [] same = refl
types_of [] (b ∷ bs) same = cc
types_of (a ∷ one) [] same = cc
types_of (a ∷ one) (b ∷ other) same =
    let parts = both_hold (same_type a b) (same_types one other) same in rw (type_of a b parts.0, types_of one other parts.1) refl

-- a kept type is the first one
kept_type : (first type : VarType) → is_kept (Some first) type ≡ true → first ≡ type
kept_type first type kept =
    let parts = both_hold (same_truth first.scalar type.scalar) (same_types first.cols type.cols) kept in
    ap (λ (pair : Bool × List ColType). record { scalar = pair.0; cols = pair.1 })
    (let one = truth_of first.scalar type.scalar parts.0 in let other = types_of first.cols type.cols parts.1 in rw (one, other) refl)

-- what is settled after is settled before
settles_before : (types : List VarType) (known after : Known)
    → ((variable : ℕ) (type : VarType) → first_type known variable ≡ Some type → first_type after variable ≡ Some type) → Settles types after → Settles types known
settles_before types known after kept settles variable = by_first (first_type known variable) refl
  where
    by_first : (first : Option VarType) → first_type known variable ≡ first → IfSome first (λ type. variable_type types variable ≡ type)
    by_first None is = tt
    by_first (Some type) is = subst (λ found. IfSome found (λ t. variable_type types variable ≡ t)) (kept variable type is) (settles variable)

-- a bag that stays is held, where all that is assigned now was assigned with its type before
holds_after : (types : List VarType) (known after : Known) (store : List BagOf) → StoreHolds types known store
    → ((variable : ℕ) → is_assigned after.assigned variable ≡ true → is_assigned known.assigned variable ≡ true)
    → ((variable : ℕ) (type : VarType) → first_type known variable ≡ Some type → first_type after variable ≡ Some type) → StoreHolds types after store
holds_after types known after store holds fewer kept = record {
  typed = λ variable is. kept variable (variable_type types variable) (holds.typed variable (fewer variable is));
  held = λ variable is. holds.held variable (fewer variable is);
}

-- a check of one statement alone
one_check : (s : Stmt) (known : Known) {after : Known} → in_order (map check_of (s ∷ [])) known ≡ Ok after → check_of s known ≡ Ok after
one_check s known {after} is =
    let one = passes (check_of s known) (in_order []) after is in one.1 ∙ ap Ok (same_ok one.0 after one.2)

alone_check : (s : Stmt) (known : Known) {after : Known} → check_of s known ≡ Ok after → in_order (map check_of (s ∷ [])) known ≡ Ok after
alone_check s known is = ap (λ found. and_then found (in_order [])) is

-- an operator of another kind
not_fourteen : (operator : OpSpec) → is_write operator ≡ false → kind_of operator ≢ 14
not_fourteen (op.Write name) is = cc
not_fourteen operator is = omega arith

-- the type of an assigned variable is the one that was found
assigned_type : (known : Known) (target : ℕ) (type : VarType) → target < length known.types → is_kept (first_type known target) type ≡ true
    → first_type (assigning target type known) target ≡ Some type
assigned_type known target type there kept = by_first (first_type known target) refl kept
  where
    by_first : (first : Option VarType) → first_type known target ≡ first → is_kept first type ≡ true
        → unwrap_or (slice_get (if is_some first then known.types else slice_set known.types target (Some type)) target) None ≡ Some type
    by_first (Some first) is kept = is ∙ ap Some (kept_type first type kept)
    by_first None is kept = unwrap_or-slice_get (set known.types target (Some type)) target None ∙ get_or-set_at known.types target target (Some type) None refl there

-- an assigned variable holds the bag
assigned_holds : (types : List VarType) (known : Known) (store : List BagOf) (target : ℕ) (type : VarType) (bag : BagOf) → length known.types ≡ length store → target < length store
    → is_kept (first_type known target) type ≡ true → Settles types (assigning target type known) → StoreHolds types known store → HasType type bag
    → StoreHolds types (assigning target type known) (set store target bag)
assigned_holds types known store target type bag sized there kept settles holds typed = record {
  typed = λ variable is. by_typed variable is (variable == target) refl;
  held = λ variable is. by_held variable is (variable == target) refl;
}
  where
    first : first_type (assigning target type known) target ≡ Some type
    first = assigned_type known target type (omega (arith, sized, there)) kept

    settled : variable_type types target ≡ type
    settled = subst (λ found. IfSome found (λ t. variable_type types target ≡ t)) first (settles target)

    before : (variable : ℕ) → variable ≢ target → is_assigned (set known.assigned target true) variable ≡ true → is_assigned known.assigned variable ≡ true
    before variable other is =
        unwrap_or-slice_get known.assigned variable false ∙ (sym (get_or-set_other known.assigned target variable true false other)
        ∙ (sym (unwrap_or-slice_get (set known.assigned target true) variable false) ∙ is))

    by_typed : (variable : ℕ) → is_assigned (set known.assigned target true) variable ≡ true → (same : Bool) → (variable == target) ≡ same
        → first_type (assigning target type known) variable ≡ Some (variable_type types variable)
    by_typed variable is true same =
        let it = eqb-true variable target same in rw it (first ∙ ap Some (sym settled))
    by_typed variable is false same =
        (assigning_grows target type known).types variable (variable_type types variable)
        (holds.typed variable (before variable (λ it. eqb-false variable target same it) is))

    by_held : (variable : ℕ) → is_assigned (set known.assigned target true) variable ≡ true → (same : Bool) → (variable == target) ≡ same
        → HasType (variable_type types variable) (stored_bag (set store target bag) variable)
    by_held variable is true same =
        let it = eqb-true variable target same in
        let bag_is : stored_bag (set store target bag) variable ≡ bag = get_or-set_at store target variable bag [] it there in
        let type_is : variable_type types variable ≡ type = ap (variable_type types) it ∙ settled in
        rw (bag_is, type_is) typed
    by_held variable is false same =
        let other : variable ≢ target = λ it. eqb-false variable target same it in
        rw (get_or-set_other store target variable bag [] other) (holds.held variable (before variable other is))

pub record AfterFirst (types : List VarType) (known after : Known) (first : Stmt) (more : List Stmt) (store : List BagOf) : Type 0 where
  pub mid : Known
  pub one : Ready types known mid (first ∷ []) store
  pub rest : (store' : List BagOf) → length store' ≡ length store → StoreHolds types mid store' → Ready types mid after more store'

pub ready_first : {types : List VarType} {known after : Known} {first : Stmt} {more : List Stmt} {store : List BagOf} → Ready types known after (first ∷ more) store
    → AfterFirst types known after first more store
ready_first {types} {known} {after} {first} {more} {store} ready =
    let check = passes (check_of first known) (in_order (map check_of more)) after ready.checked in
    let grows = check_grows first known check.0 check.1 in
    let later = block_grows more check.0 after check.2 in
    let heads : All (IsFormedHead (length store)) (heads_in first ++ flat_map heads_in more) = ready.formed in
    record {
      mid = check.0;
      one = record {
        checked = alone_check first known check.1;
        settles = settles_before types check.0 after later.types ready.settles;
        formed = subst (All (IsFormedHead (length store))) (sym (alone first)) (all_front (IsFormedHead (length store)) (heads_in first) (flat_map heads_in more) heads);
        assigned = ready.assigned;
        typed = ready.typed;
        holds = ready.holds;
      };
      rest = λ store' sized holds. record {
        checked = check.2;
        settles = ready.settles;
        formed = subst (λ n. All (IsFormedHead n) (flat_map heads_in more)) (sym sized) (all_later (IsFormedHead (length store)) (heads_in first) (flat_map heads_in more) heads);
        assigned = grows.many ∙ (ready.assigned ∙ sym sized);
        typed = grows.typed ∙ (ready.typed ∙ sym sized);
        holds = holds;
      };
    }

pub ready_none : {types : List VarType} {known after : Known} {store : List BagOf} → Ready types known after [] store → StoreHolds types after store
ready_none {types} {known} {after} {store} ready = subst (λ k. StoreHolds types k store) (same_ok known after ready.checked) ready.holds

pub record Assigns (types : List VarType) (after : Known) (target : ℕ) (op : OpSpec) (args : List ℕ) (store : List BagOf) : Type 0 where
  pub there : target < length store
  pub other : is_write op ≡ false
  pub argued : Argued op args store
  pub holds : (bag : BagOf) → IsMade op (inputs_in store args) bag → StoreHolds types after (set store target bag)

pub ready_assign : {types : List VarType} {known after : Known} {store : List BagOf} (target : ℕ) (op : OpSpec) (args : List ℕ) → Ready types known after (stmt.Assign target op args ∷ []) store
    → Assigns types after target op args store
ready_assign {types} {known} {after} {store} target op args ready =
    let check = assigned_parts target op args known after (sym (check_of-Assign target op args known) ∙ one_check (stmt.Assign target op args) known ready.checked) in
    let heads : All (IsFormedHead (length store)) (assigns target op args ∷ []) = subst (All (IsFormedHead (length store))) (alone (stmt.Assign target op args) ∙ heads_in-Assign target op args) ready.formed in
    let head = All-head (IsFormedHead (length store)) (assigns target op args) [] heads in
    let settles : Settles types (assigning target check.type known) = subst (Settles types) (sym check.is) ready.settles in
    record {
      there = head.0;
      other = head.1;
      argued = op_argued op args check.type ready.holds check.judged head.2;
      holds = λ bag made. subst (λ k. StoreHolds types k (set store target bag)) check.is
          (assigned_holds types known store target check.type bag ready.typed head.0 check.kept settles ready.holds
          (op_typed op args check.type ready.holds check.judged head.2 (not_fourteen op head.1) bag made));
    }

pub record Writes (types : List VarType) (after : Known) (op : OpSpec) (args : List ℕ) (store : List BagOf) : Type 0 where
  pub write : is_write op ≡ true
  pub argued : Argued op args store
  pub holds : StoreHolds types after store

pub ready_write : {types : List VarType} {known after : Known} {store : List BagOf} (op : OpSpec) (args : List ℕ) → Ready types known after (stmt.Write op args ∷ []) store
    → Writes types after op args store
ready_write {types} {known} {after} {store} op args ready =
    let check = written_parts op args known after (sym (check_of-Write op args known) ∙ one_check (stmt.Write op args) known ready.checked) in
    let heads : All (IsFormedHead (length store)) (writes op args ∷ []) = subst (All (IsFormedHead (length store))) (alone (stmt.Write op args) ∙ heads_in-Write op args) ready.formed in
    let head = All-head (IsFormedHead (length store)) (writes op args) [] heads in
    record {
      write = head.0;
      argued = op_argued op args check.type ready.holds check.judged head.1;
      holds = subst (λ k. StoreHolds types k store) check.is (holds_after types known (passed known) store ready.holds (λ variable is. is) (λ variable type is. is));
    }

pub record Branches (types : List VarType) (after : Known) (op : OpSpec) (args : List ℕ) (on_true on_false : List Stmt) (store : List BagOf) : Type 0 where
  pub other : is_write op ≡ false
  pub argued : Argued op args store
  pub inside : Known
  pub one : Known
  pub two : Known
  pub yes : Ready types inside one on_true store
  pub no : Ready types (with_assigned inside.assigned one) two on_false store
  pub after_yes : (store' : List BagOf) → StoreHolds types one store' → StoreHolds types after store'
  pub after_no : (store' : List BagOf) → StoreHolds types two store' → StoreHolds types after store'

pub ready_if : {types : List VarType} {known after : Known} {store : List BagOf} (op : OpSpec) (args : List ℕ) (on_true on_false : List Stmt)
    → Ready types known after (stmt.If op args on_true on_false ∷ []) store → Branches types after op args on_true on_false store
ready_if {types} {known} {after} {store} op args on_true on_false ready =
    let check = branched_parts op args (map check_of on_true) (map check_of on_false) known after (sym (check_of-If op args on_true on_false known) ∙ one_check (stmt.If op args on_true on_false) known ready.checked) in
    let heads : All (IsFormedHead (length store)) (decides op args ∷ flat_map heads_in on_true ++ flat_map heads_in on_false) =
    subst (All (IsFormedHead (length store))) (alone (stmt.If op args on_true on_false) ∙ heads_in-If op args on_true on_false) ready.formed in
    let head = All-head (IsFormedHead (length store)) (decides op args) (flat_map heads_in on_true ++ flat_map heads_in on_false) heads in
    let inner = All-tail (IsFormedHead (length store)) (decides op args) (flat_map heads_in on_true ++ flat_map heads_in on_false) heads in
    let inside = subst (Grows known) check.decided.is (passed_grows known) in
    let one = block_grows on_true check.inside check.one check.yes in
    let two = block_grows on_false (with_assigned check.inside.assigned check.one) check.other check.no in
    let settles : Settles types check.other = subst (Settles types) (sym check.is) ready.settles in
    let within : StoreHolds types check.inside store = subst (λ k. StoreHolds types k store) check.decided.is (holds_after types known (passed known) store ready.holds (λ variable is. is) (λ variable type is. is)) in
    record {
      other = no_write op head.0;
      argued = op_argued op args check.decided.type ready.holds check.decided.judged head.1;
      inside = check.inside;
      one = check.one;
      two = check.other;
      yes = record {
        checked = check.yes;
        settles = settles_before types check.one check.other two.types settles;
        formed = all_front (IsFormedHead (length store)) (flat_map heads_in on_true) (flat_map heads_in on_false) inner;
        assigned = inside.many ∙ ready.assigned;
        typed = inside.typed ∙ ready.typed;
        holds = within;
      };
      no = record {
        checked = check.no;
        settles = settles;
        formed = all_later (IsFormedHead (length store)) (flat_map heads_in on_true) (flat_map heads_in on_false) inner;
        assigned = inside.many ∙ ready.assigned;
        typed = one.typed ∙ (inside.typed ∙ ready.typed);
        holds = holds_after types check.inside (with_assigned check.inside.assigned check.one) store within (λ variable is. is) one.types;
      };
      after_yes = λ store' holds. subst (λ k. StoreHolds types k store') check.is
          (holds_after types check.one (with_assigned (assigned_in_both check.one.assigned check.other.assigned) check.other) store' holds
          (λ variable is. (of_both check.one.assigned check.other.assigned variable is).0) two.types);
      after_no = λ store' holds. subst (λ k. StoreHolds types k store') check.is
          (holds_after types check.other (with_assigned (assigned_in_both check.one.assigned check.other.assigned) check.other) store' holds
          (λ variable is. (of_both check.one.assigned check.other.assigned variable is).1) (λ variable type is. is));
    }

pub record Loops (types : List VarType) (known after : Known) (op : OpSpec) (args : List ℕ) (block : List Stmt) (store : List BagOf) : Type 0 where
  pub other : is_write op ≡ false
  pub argued : Argued op args store
  pub inside : Known
  pub last : Known
  pub body : Ready types inside last block store
  pub again : (store' : List BagOf) → length store' ≡ length store → StoreHolds types last store' → Ready types known after (stmt.While op args block ∷ []) store'
  pub holds : StoreHolds types after store

pub ready_while : {types : List VarType} {known after : Known} {store : List BagOf} (op : OpSpec) (args : List ℕ) (body : List Stmt)
    → Ready types known after (stmt.While op args body ∷ []) store → Loops types known after op args body store
ready_while {types} {known} {after} {store} op args body ready =
    let check = looped_parts op args (map check_of body) known after (sym (check_of-While op args body known) ∙ one_check (stmt.While op args body) known ready.checked) in
    let heads : All (IsFormedHead (length store)) (decides op args ∷ flat_map heads_in body) =
    subst (All (IsFormedHead (length store))) (alone (stmt.While op args body) ∙ heads_in-While op args body) ready.formed in
    let head = All-head (IsFormedHead (length store)) (decides op args) (flat_map heads_in body) heads in
    let inner = All-tail (IsFormedHead (length store)) (decides op args) (flat_map heads_in body) heads in
    let inside = subst (Grows known) check.decided.is (passed_grows known) in
    let last = block_grows body check.inside check.last check.block in
    let settles : Settles types check.last = subst (Settles types) (sym check.is) ready.settles in
    let within : StoreHolds types check.inside store = subst (λ k. StoreHolds types k store) check.decided.is (holds_after types known (passed known) store ready.holds (λ variable is. is) (λ variable type is. is)) in
    record {
      other = no_write op head.0;
      argued = op_argued op args check.decided.type ready.holds check.decided.judged head.1;
      inside = check.inside;
      last = check.last;
      body = record {
        checked = check.block;
        settles = settles;
        formed = inner;
        assigned = inside.many ∙ ready.assigned;
        typed = inside.typed ∙ ready.typed;
        holds = within;
      };
      again = λ store' sized holds. record {
        checked = ready.checked;
        settles = ready.settles;
        formed = subst (λ n. All (IsFormedHead n) (flat_map heads_in (stmt.While op args body ∷ []))) (sym sized) ready.formed;
        assigned = ready.assigned ∙ sym sized;
        typed = ready.typed ∙ sym sized;
        holds = record {
          typed = ready.holds.typed;
          held = λ variable is. holds.held variable (last.assigned variable (inside.assigned variable is));
        };
      };
      holds = subst (λ k. StoreHolds types k store) check.is
          (holds_after types check.inside (with_assigned check.inside.assigned check.last) store within (λ variable is. is) last.types);
    }
