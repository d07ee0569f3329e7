-- What is routed to a partition fits the operator, and its scalars stand in partition 0.
use Rattle.std.proofs.Common.{◌≡◌, ℕ, suc, ◌==◌, true, false, List, [], ◌∷◌, ◌++◌, map, length, take, drop, Some, IsTrue, if◌then◌else◌, slice_get, refl, sym, subst, ◌∙◌, arith}
use Rattle.std.proofs.lemmas.Bool.{ne_eqb}
use Rattle.std.proofs.lemmas.Bool.Decides.{nat_tests}
use Rattle.std.proofs.lemmas.List.{drop-map}
use Rattle.std.proofs.lemmas.List.Elements.{All-append, All-cons, All-filter, All-head, All-nil, All-tail}
use Rattle.std.proofs.lemmas.Option.{cond_some}
use Rattle.std.specs.List.{All, AllZip}
use Rattle.std.specs.Prelude.{⊤}
use Rattle.mit_rows.specs.Bags.{RowOf, all_rows}
use Rattle.mit_rows.specs.declared.value.ColType.{ColType}
use Rattle.mit_ops.specs.Forms.{rows_at}
use Rattle.mit_ops.specs.Kinds.{bag_inputs_of}
use Rattle.mit_ops.specs.Operators.{bags_in}
use Rattle.mit_ops.specs.Parts.{FitsAs, HaveColumns, StandsIn, input_columns, routed_lists}
use Rattle.mit_ops.specs.Results.{agg_type, bag, first, keys_fit, result, second, types_of}
use Rattle.mit_ops.specs.Routes.{bag_route, capture_route, goes, lists_at, route_to, routed, share}
use Rattle.mit_ops.specs.declared.kinds.OpSpec.{OpSpec}
use Rattle.mit_ops.specs.declared.kinds.OpSpec.TheVariants as op
use Rattle.mit_ops.specs.declared.routes.Route.{Route}
use Rattle.mit_ops.specs.declared.routes.Route.TheVariants.{Forward, Gather}
use Rattle.mit_ops.specs.declared.types.VarType.{VarType}
use Rattle.mit_op_laws.proofs.FewerRows.{with_rows}
use Rattle.mit_op_laws.proofs.KindParts.{bags_at, captures_at}
use Rattle.mit_op_laws.proofs.TypedCaptures.{fits_result}
use Rattle.mit_op_laws.proofs.TypedOperators.{with_some}
use Rattle.mit_op_laws.proofs.TypedRows.{Of}
use Rattle.mit_op_laws.proofs.TypedScalars.{no_scalar}

-- ---- columns

All-parts : (P : RowOf → Type 0) (xs ys : List RowOf) → All P (xs ++ ys) → All P xs × All P ys
All-parts P [] ys all = (All-nil P, all)
All-parts P (x ∷ xs) ys all =
    let later = All-parts P xs ys (All-tail P x (xs ++ ys) all) in (All-cons P x xs (All-head P x (xs ++ ys) all) later.0, later.1)

routed_keeps : (P : RowOf → Type 0) (route : Route) (parts from to : ℕ) (cut : List (List RowOf)) → All P (all_rows cut) → All P (routed route parts from to cut)
unfolding all_rows routed
routed_keeps P route parts from to [] all = All-nil P
routed_keeps P route parts from to (rows ∷ later) all =
    let both = All-parts P rows (all_rows later) all in
    All-append P (share rows route parts from to) (routed route parts (suc from) to later) (All-filter (goes route parts from to) P rows both.0)
    (routed_keeps P route parts (suc from) to later both.1)

lists_keep : (routes : ℕ → Route) (parts to input : ℕ) (types : List (List ColType)) (cuts : List (List (List RowOf))) → AllZip HaveColumns types (map all_rows cuts)
    → AllZip HaveColumns types (lists_at routes parts to input cuts)
unfolding lists_at
lists_keep routes parts to input [] [] have = tt
lists_keep routes parts to input [] (cut ∷ cuts) have = absurd have
lists_keep routes parts to input (columns ∷ types) [] have = absurd have
lists_keep routes parts to input (columns ∷ types) (cut ∷ cuts) have =
    (routed_keeps (Of columns) (routes input) parts 0 to cut have.0, lists_keep routes parts to (suc input) types cuts have.1)

pub routed_fits : (spec : OpSpec) (bags : List VarType) (captures : List ColType) (type : VarType) (columns : ℕ → ℕ) (parts part : ℕ) (cuts : List (List (List RowOf)))
    → FitsAs spec bags captures (map all_rows cuts) type → FitsAs spec bags captures (routed_lists spec columns parts part cuts) type
routed_fits spec bags captures type columns parts part cuts fits =
    with_rows spec bags captures type (map all_rows cuts) (routed_lists spec columns parts part cuts) fits
    (lists_keep (λ input. route_to spec input (columns input)) parts part 0 (input_columns bags captures) cuts fits.rows)

-- ---- one row in partition 0

abbrev OneIn : List (List RowOf) → Type 0
OneIn cut = (from : ℕ) → length (rows_at cut from) ≡ (if from == 0 then 1 else 0)

-- no rows in the parts after the first
none_after : (rows : List RowOf) (later : List (List RowOf)) → OneIn (rows ∷ later) → (k : ℕ) → length (rows_at later k) ≡ 0
none_after rows later one k = let past : (suc k == 0) ≡ false = ne_eqb (suc k) 0 (omega arith) in rw past at (one (suc k))

none_in_all : (cut : List (List RowOf)) → ((k : ℕ) → length (rows_at cut k) ≡ 0) → all_rows cut ≡ []
unfolding all_rows
none_in_all [] none = refl
none_in_all ([] ∷ later) none = none_in_all later (λ k. none (suc k))
none_in_all ((row ∷ rows) ∷ later) none = let some : suc (length rows) ≡ 0 = none 0 in absurd (omega (arith, some))

none_routed : (route : Route) (parts from to : ℕ) (cut : List (List RowOf)) → ((k : ℕ) → length (rows_at cut k) ≡ 0) → routed route parts from to cut ≡ []
unfolding routed
none_routed route parts from to [] none = refl
none_routed route parts from to ([] ∷ later) none = none_routed route parts (suc from) to later (λ k. none (suc k))
none_routed route parts from to ((row ∷ rows) ∷ later) none = let some : suc (length rows) ≡ 0 = none 0 in absurd (omega (arith, some))

pub one_in_all : (cut : List (List RowOf)) → OneIn cut → length (all_rows cut) ≡ 1
unfolding all_rows
one_in_all [] one = one 0
one_in_all ([] ∷ later) one = let none : 0 ≡ 1 = one 0 in absurd (omega (arith, none))
one_in_all ((row ∷ []) ∷ later) one = rw (none_in_all later (none_after (row ∷ []) later one)) refl
one_in_all ((row ∷ other ∷ rows) ∷ later) one = let more : suc (suc (length rows)) ≡ 1 = one 0 in absurd (omega (arith, more))

-- ---- bags that stand

-- a route by which rows of partition 0 come to it
abbrev Stays : Route → Type 0
Stays Forward = ⊤
Stays Gather = ⊤
Stays _ = ⊥

zero_first : (n : ℕ) → (0 == n) ≡ (n == 0)
zero_first n = elim (n == 0) as (λ b. (n == 0) ≡ b → (0 == n) ≡ b) [ true ↦ λ e. grind (arith, nat_tests) | false ↦ λ e. grind (arith, nat_tests) ] refl

goes_first : (route : Route) → Stays route → (parts part : ℕ) (row : RowOf) → goes route parts 0 part row ≡ (part == 0)
goes_first Forward stays parts part row = zero_first part
goes_first Gather stays parts part row = zero_first part
goes_first _ stays parts part row = absurd stays

one_routed : (route : Route) → Stays route → (parts part : ℕ) (cut : List (List RowOf)) → OneIn cut → length (routed route parts 0 part cut) ≡ (if part == 0 then 1 else 0)
unfolding routed
one_routed route stays parts part [] one = let none : 0 ≡ 1 = one 0 in absurd (omega (arith, none))
one_routed route stays parts part ([] ∷ later) one = let none : 0 ≡ 1 = one 0 in absurd (omega (arith, none))
one_routed route stays parts part ((row ∷ []) ∷ later) one =
    rw (none_routed route parts 1 part later (none_after (row ∷ []) later one), goes_first route stays parts part row)
    (elim (part == 0) as (λ b. length ((if b then row ∷ [] else []) ++ []) ≡ (if b then 1 else 0)) [ true ↦ refl | false ↦ refl ])
one_routed route stays parts part ((row ∷ other ∷ rows) ∷ later) one = let more : suc (suc (length rows)) ≡ 1 = one 0 in absurd (omega (arith, more))

bags_stand : (routes : ℕ → Route) → ((input : ℕ) → Stays (routes input)) → (parts part input : ℕ) (bags : List VarType) (cuts : List (List (List RowOf)))
    → AllZip (λ type cut. (from : ℕ) → StandsIn from type (rows_at cut from)) bags cuts → AllZip (StandsIn part) bags (lists_at routes parts part input cuts)
unfolding lists_at
bags_stand routes stays parts part input [] [] stand = tt
bags_stand routes stays parts part input [] (cut ∷ cuts) stand = absurd stand
bags_stand routes stays parts part input (type ∷ bags) [] stand = absurd stand
bags_stand routes stays parts part input (type ∷ bags) (cut ∷ cuts) stand =
    (λ s. one_routed (routes input) (stays input) parts part cut (λ from. stand.0 from s), bags_stand routes stays parts part (suc input) bags cuts stand.1)

-- the bags of an operator that gives a scalar stay, or come together
scalar_stays : (spec : OpSpec) (bags : List VarType) (captures : List ColType) (type : VarType) → result spec bags captures ≡ Some type → IsTrue type.scalar → (input columns : ℕ)
    → Stays (bag_route spec input columns)
scalar_stays (op.Scalar expr) bags captures type e s input columns = tt
scalar_stays (op.Read name types) bags captures type e s input columns = tt
scalar_stays (op.Map exprs) bags captures type e s input columns = tt
scalar_stays (op.Filter expr) bags captures type e s input columns = tt
scalar_stays (op.FlatMap flat) bags captures type e s input columns = tt
scalar_stays (op.Join left right) bags captures type e s input columns =
    absurd (no_scalar (first bags ++ second bags) type
    (cond_some (keys_fit (types_of (slice_get (first bags)) left) (types_of (slice_get (second bags)) right)) (bag (first bags ++ second bags)) type e).1 s)
scalar_stays (op.Reduce keys agg) bags captures type e s input columns =
    let some = with_some (types_of (slice_get (first bags)) keys) (agg_type agg (first bags)) type e in absurd (no_scalar (some.0 ++ some.1 ∷ []) type some.4 s)
scalar_stays op.Union bags captures type e s input columns = tt
scalar_stays op.Distinct bags captures type e s input columns = let same : bag (first bags) ≡ type = cc in absurd (no_scalar (first bags) type same s)
scalar_stays op.Only bags captures type e s input columns = tt
scalar_stays op.Count bags captures type e s input columns = tt
scalar_stays (op.Sum column) bags captures type e s input columns = tt
scalar_stays (op.MakeRow exprs) bags captures type e s input columns = tt
scalar_stays (op.Empty types) bags captures type e s input columns = tt
scalar_stays (op.Write name) bags captures type e s input columns = tt
scalar_stays op.Copy bags captures type e s input columns = tt

pub routed_stand : (spec : OpSpec) (bags : List VarType) (captures : List ColType) (type : VarType) (columns : ℕ → ℕ) (parts part : ℕ) (cuts : List (List (List RowOf)))
    → FitsAs spec bags captures (map all_rows cuts) type → IsTrue type.scalar
    → AllZip (λ type cut. (from : ℕ) → StandsIn from type (rows_at cut from)) bags (take (bag_inputs_of spec) cuts)
    → AllZip (StandsIn part) bags (bags_in spec (routed_lists spec columns parts part cuts))
routed_stand spec bags captures type columns parts part cuts fits s stand =
    subst (AllZip (StandsIn part) bags) (sym (bags_at columns parts spec part cuts))
    (bags_stand (λ input. bag_route spec input (columns input))
    (λ input. scalar_stays spec bags captures type (fits_result spec bags captures (map all_rows cuts) type fits) s input (columns input))
    parts part 0 bags (take (bag_inputs_of spec) cuts) stand)

-- ---- captured scalars

captures_come : (spec : OpSpec) (parts from : ℕ) (row : RowOf) → goes (capture_route spec) parts from 0 row ≡ true
captures_come (op.Scalar expr) parts from row = refl
captures_come (op.Read name types) parts from row = refl
captures_come (op.Map exprs) parts from row = refl
captures_come (op.Filter expr) parts from row = refl
captures_come (op.FlatMap flat) parts from row = refl
captures_come (op.Join left right) parts from row = refl
captures_come (op.Reduce keys agg) parts from row = refl
captures_come op.Union parts from row = refl
captures_come op.Distinct parts from row = refl
captures_come op.Only parts from row = refl
captures_come op.Count parts from row = refl
captures_come (op.Sum column) parts from row = refl
captures_come (op.MakeRow exprs) parts from row = refl
captures_come (op.Empty types) parts from row = refl
captures_come (op.Write name) parts from row = refl
captures_come op.Copy parts from row = refl

pub routed_captures : (spec : OpSpec) (columns : ℕ → ℕ) (parts part : ℕ) (cuts : List (List (List RowOf))) → All (λ rows. length rows ≡ 1) (drop (bag_inputs_of spec) (map all_rows cuts))
    → part ≡ 0 → All (λ rows. length rows ≡ 1) (drop (bag_inputs_of spec) (routed_lists spec columns parts part cuts))
routed_captures spec columns parts part cuts one first =
    subst (λ (p : ℕ). All (λ rows. length rows ≡ 1) (drop (bag_inputs_of spec) (routed_lists spec columns parts p cuts))) (sym first)
    (subst (All (λ rows. length rows ≡ 1)) (drop-map all_rows (bag_inputs_of spec) cuts ∙ sym (captures_at columns parts spec 0 cuts (captures_come spec parts))) one)
