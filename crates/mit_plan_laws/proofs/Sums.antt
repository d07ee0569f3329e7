-- The parts of an operator add up to what it makes of the whole bags.
use Rattle.std.proofs.Common.{◌≡◌, ◌∙◌, ◌<◌, ◌≤◌, ◌+◌, ℕ, zero, suc, List, [], ◌∷◌, ◌++◌, length, map, get_or, ap, sym, refl, arith, All, Bool, true, false, cond, eqb, eqb-true, not, ◌||◌, Option, Some, None, Ok, Err}
use Rattle.std.specs.Prelude.{◌⊎◌, IsSome, option_and_then, option_map}
use Rattle.std.specs.List.{range_with_len}
use Rattle.std.specs.Option.{is_some, unwrap_or}
use Rattle.std.proofs.lemmas.List.Elements.{All-cons}
use Rattle.std.proofs.lemmas.List.FromFn.{get_or-map-range_with_len}
use Rattle.mit_rows.specs.Bags.{BagOf, IsBag, RowOf, all_rows, bag_of, bag_sum}
use Rattle.mit_files.specs.Files.{FileMap}
use Rattle.mit_ops.specs.Answers.{BagOrFault, both, over}
use Rattle.mit_ops.specs.Operators.{part_apply, whole}
use Rattle.mit_ops.specs.Parts.{CutInto, SameBags, routed_lists, sum_of_parts, sum_parts}
use Rattle.mit_ops.specs.Routes.{lists_at, route_to, routed, senders_of, share}
use Rattle.mit_ops.specs.declared.kinds.OpSpec.{OpSpec}
use Rattle.mit_ops.specs.declared.routes.Route.{Route}
use Rattle.mit_plan.specs.Chosen.{Choice, chosen, input_edges}
use Rattle.mit_plan.specs.Explained.{Explained}
use Rattle.mit_plan.specs.Held.{History, Job, Part, all_there, applied, as_part, bag_in, decisions_before, failed, held, is_ok, list_of, lists_of, ok, op_of, part, received, row_at, sent, stands, void}
use Rattle.mit_plan.specs.Meant.{answer_in, fault_at, fault_in, made, pair}
use Rattle.mit_plan.specs.Plans.{block_at, edge_at, is_phi, op_at}
use Rattle.mit_plan.specs.Sums.{AreRouted, TakesBags, bag_at, bag_taken, bags_of}
use Rattle.mit_plan_laws.proofs.Choices.{PathLaws, chosen_edge}
use Rattle.mit_plan_laws.proofs.Collected.{Are, all_are, all_true, are, map_range_same, range_push}
use Rattle.mit_plan_laws.proofs.Shares.{from_senders, senders_within}

-- the laws of operators, of routes, of answers and of bags
pub record OpLaws : Type 0 where
  pub parts : (spec : OpSpec) (columns : ℕ → ℕ) (parts : ℕ) (cuts : List (List (List RowOf))) (files : FileMap) → 0 < parts → CutInto parts cuts
      → sum_of_parts spec columns parts cuts files ≡ whole spec (map all_rows cuts) files
  pub order : (spec : OpSpec) (inputs others : List (List RowOf)) (files : FileMap) → SameBags inputs others → whole spec inputs files ≡ whole spec others files
  pub part_order : (spec : OpSpec) (part parts : ℕ) (inputs others : List (List RowOf)) (files : FileMap) → SameBags inputs others
      → part_apply spec part parts inputs files ≡ part_apply spec part parts others files
  pub senders : (route : Route) (parts from to : ℕ) (rows : List RowOf) → from < parts → (from < (senders_of route to parts).0) ⊎ ((senders_of route to parts).0 + (senders_of route to parts).1 ≤ from)
      → share rows route parts from to ≡ []
  pub more : (answer : ℕ → BagOrFault) (xs : List ℕ) (x : ℕ) → over answer (xs ++ x ∷ []) ≡ both (over answer xs) (answer x)
  pub commutes : (a b : BagOrFault) → both a b ≡ both b a
  pub sorted : (rows : List RowOf) → IsBag (bag_of rows)
  pub joined : (first second : List RowOf) → bag_of (bag_of first ++ bag_of second) ≡ bag_of (first ++ second)

-- ---- the bag of an operator

-- the parts of a choice, by partition
abbrev pub parts_of : Job → History → ℕ → ℕ → Option (List BagOf)
parts_of job history place index = all_there (map (λ partition. bag_in (held history place index partition)) (range_with_len 0 job.partitions))

-- the parts that an input takes, where they are there
abbrev pub parts_taken : Job → History → Option Choice → Option (List BagOf)
parts_taken job history chosen = option_and_then (λ choice. parts_of job history choice.place (op_at job.plan (edge_at job.plan choice.edge).from).index) chosen

abbrev pub cut_in : Job → History → Option Choice → List BagOf
cut_in job history chosen = unwrap_or (parts_taken job history chosen) []

-- an input that is there: a choice, and its parts
pub record Input (job : Job) (history : History) (found : Option Choice) (bag : BagOf) : Type 0 where
  pub choice : Choice
  pub is : found ≡ Some choice
  pub parts : parts_of job history choice.place (op_at job.plan (edge_at job.plan choice.edge).from).index ≡ Some (cut_in job history found)
  pub sum : bag ≡ bag_sum (cut_in job history found)

input_by : (job : Job) (history : History) (choice : Choice) (bag : BagOf) (cut : Option (List BagOf))
    → parts_of job history choice.place (op_at job.plan (edge_at job.plan choice.edge).from).index ≡ cut → option_map bag_sum cut ≡ Some bag → Input job history (Some choice) bag
input_by job history choice bag None is all = absurd cc
input_by job history choice bag (Some cut) is all = record {
  choice = choice;
  is = refl;
  parts = is ∙ ap (λ (some : Option (List BagOf)). Some (unwrap_or some [])) (sym is);
  sum = (let e : bag ≡ bag_sum cut = cc in e) ∙ ap (λ (some : Option (List BagOf)). bag_sum (unwrap_or some [])) (sym is);
}

input_there : (job : Job) (history : History) (found : Option Choice) (bag : BagOf) → bag_taken job history found ≡ Some bag → Input job history found bag
input_there job history None bag all = absurd cc
input_there job history (Some choice) bag all =
    input_by job history choice bag (parts_of job history choice.place (op_at job.plan (edge_at job.plan choice.edge).from).index) refl all

-- ---- what comes to a partition of an input

list_by : OpLaws → (job : Job) (history : History) (choice : Choice) (cut : List BagOf) (to : ℕ) → to < job.partitions
    → parts_of job history choice.place (op_at job.plan (edge_at job.plan choice.edge).from).index ≡ Some cut
    → received job history to (edge_at job.plan choice.edge) choice.place ≡ Some (bag_of (routed (edge_at job.plan choice.edge).route job.partitions 0 to cut))
list_by laws job history choice cut to below all =
    let edge = edge_at job.plan choice.edge in
    let source = (op_at job.plan edge.from).index in
    let route = edge.route in
    let range = senders_of route to job.partitions in
    let there = are (λ p. bag_in (held history choice.place source p)) 0 job.partitions cut all in
    ap (option_map bag_sum) (all_are (sent job history edge choice.place to) (λ from. share (get_or cut from []) route job.partitions from to) range.0 range.1
    (λ k above less. each k (omega (arith, less, senders_within route to job.partitions below)) there))
    ∙ ap (λ (rows : List RowOf). Some (bag_of rows)) (from_senders laws.senders route job.partitions to cut below there.size)
  where
    each : (k : ℕ) → k < job.partitions → Are (λ p. bag_in (held history choice.place (op_at job.plan (edge_at job.plan choice.edge).from).index p)) 0 job.partitions cut
        → sent job history (edge_at job.plan choice.edge) choice.place to k ≡ Some (share (get_or cut k []) (edge_at job.plan choice.edge).route job.partitions k to)
    each k less there =
        let e : 0 + k ≡ k = omega arith in
        ap (option_map (λ bag. share bag (edge_at job.plan choice.edge).route job.partitions k to))
        (ap (λ (p : ℕ). bag_in (held history choice.place (op_at job.plan (edge_at job.plan choice.edge).from).index p)) (sym e) ∙ there.each k [] less)

-- the list of an input in a partition
list_is : OpLaws → (job : Job) (history : History) (found : Option Choice) (bag : BagOf) (to : ℕ) (route : Route) → to < job.partitions
    → ((choice : Choice) → found ≡ Some choice → (edge_at job.plan choice.edge).route ≡ route) → Input job history found bag
    → list_of job history to found ≡ Some (bag_of (routed route job.partitions 0 to (cut_in job history found)))
list_is laws job history found bag to route below same input =
    ap (list_of job history to) input.is ∙ list_by laws job history input.choice (cut_in job history found) to below input.parts
    ∙ ap (λ (some : Route). Some (bag_of (routed some job.partitions 0 to (cut_in job history found)))) (same input.choice input.is)

-- ---- all inputs of an operator

map_twice : {A B C : Type 0} (f : B → C) (g : A → B) (xs : List A) → map f (map g xs) ≡ map (λ x. f (g x)) xs
map_twice f g [] = refl
map_twice f g (x ∷ xs) = ap (λ rest. f (g x) ∷ rest) (map_twice f g xs)

lists_at-map : (routes : ℕ → Route) (parts to from many : ℕ) (cut : ℕ → List BagOf)
    → lists_at routes parts to from (map cut (range_with_len from many)) ≡ map (λ input. routed (routes input) parts 0 to (cut input)) (range_with_len from many)
unfolding lists_at
lists_at-map routes parts to from zero cut = refl
lists_at-map routes parts to from (suc many) cut =
    let e : suc from ≡ from + 1 = omega arith in
    ap (λ (rest : List (List RowOf)). routed (routes from) parts 0 to (cut from) ∷ rest)
    (ap (λ (input : ℕ). lists_at routes parts to input (map cut (range_with_len (from + 1) many))) e ∙ lists_at-map routes parts to (from + 1) many cut)

-- an operator whose inputs are all there, with the parts of each
pub record Inputs (job : Job) (history : History) (op place : ℕ) (columns : ℕ → ℕ) (bags : List BagOf) : Type 0 where
  pub each : (input : ℕ) → input < length (input_edges job.plan op) → Input job history (chosen job.plan history.path op input place) (get_or bags input [])
  pub size : length bags ≡ length (input_edges job.plan op)
  pub route : (input : ℕ) (choice : Choice) → chosen job.plan history.path op input place ≡ Some choice → (edge_at job.plan choice.edge).route ≡ route_to (op_at job.plan op).spec input (columns input)

pub inputs_there : PathLaws → (job : Job) (history : History) (op place : ℕ) (columns : ℕ → ℕ) (bags : List BagOf) → AreRouted job.plan op columns → bags_of job history op place ≡ Some bags
    → Inputs job history op place columns bags
inputs_there laws job history op place columns bags routed all =
    let there = are (λ input. bag_taken job history (chosen job.plan history.path op input place)) 0 (length (input_edges job.plan op)) bags all in
    record {
      each = λ input below. input_there job history (chosen job.plan history.path op input place) (get_or bags input []) (moved input ∙ there.each input [] below);
      size = there.size;
      route = λ input choice is. chosen_edge laws job.plan history.path (get_or (input_edges job.plan op) input [])
          (λ edge. (edge_at job.plan edge).route ≡ route_to (op_at job.plan op).spec input (columns input)) (is_phi (op_at job.plan op)) place choice (routed input) is;
    }
  where
    moved : (input : ℕ) → bag_taken job history (chosen job.plan history.path op input place) ≡ bag_taken job history (chosen job.plan history.path op (0 + input) place)
    moved input = let e : input ≡ 0 + input = omega arith in ap (λ (k : ℕ). bag_taken job history (chosen job.plan history.path op k place)) e

-- the parts of each input
abbrev pub cuts_of : Job → History → ℕ → ℕ → List (List BagOf)
cuts_of job history op place = map (λ input. cut_in job history (chosen job.plan history.path op input place)) (range_with_len 0 (length (input_edges job.plan op)))

pub bags_are : (job : Job) (history : History) (op place : ℕ) (columns : ℕ → ℕ) (bags : List BagOf) → Inputs job history op place columns bags → bags_of job history op place ≡ Some bags
    → bags ≡ map bag_sum (cuts_of job history op place)
bags_are job history op place columns bags inputs all =
    let many = length (input_edges job.plan op) in
    let cut : ℕ → List BagOf = λ input. cut_in job history (chosen job.plan history.path op input place) in
    let sums = all_are (λ input. bag_taken job history (chosen job.plan history.path op input place)) (λ input. bag_sum (cut input)) 0 many
    (λ input above below. sum_of input (inputs.each input (omega (arith, below)))) in
    let same : bags ≡ map (λ input. bag_sum (cut input)) (range_with_len 0 many) = cc in
    same ∙ sym (map_twice bag_sum cut (range_with_len 0 many))
  where
    sum_of : (input : ℕ) → Input job history (chosen job.plan history.path op input place) (get_or bags input [])
        → bag_taken job history (chosen job.plan history.path op input place) ≡ Some (bag_sum (cut_in job history (chosen job.plan history.path op input place)))
    sum_of input there =
        ap (bag_taken job history) there.is ∙ ap (option_map bag_sum) there.parts

all_fit : (parts : ℕ) (cut : ℕ → List BagOf) (from many : ℕ) → ((k : ℕ) → from ≤ k → k < from + many → length (cut k) ≤ parts) → All (λ (one : List BagOf). length one ≤ parts) (map cut (range_with_len from many))
all_fit parts cut from zero each = λ k d below. absurd (omega (arith, below))
all_fit parts cut from (suc many) each =
    All-cons (λ (one : List BagOf). length one ≤ parts) (cut from) (map cut (range_with_len (from + 1) many)) (each from (omega arith) (omega arith))
    (all_fit parts cut (from + 1) many (λ k above below. each k (omega (arith, above)) (omega (arith, below))))

pub cuts_fit : (job : Job) (history : History) (op place : ℕ) (columns : ℕ → ℕ) (bags : List BagOf) → Inputs job history op place columns bags → CutInto job.partitions (cuts_of job history op place)
cuts_fit job history op place columns bags inputs =
    all_fit job.partitions (λ input. cut_in job history (chosen job.plan history.path op input place)) 0 (length (input_edges job.plan op))
    (λ input above below. fits input (inputs.each input (omega (arith, below))))
  where
    fits : (input : ℕ) → Input job history (chosen job.plan history.path op input place) (get_or bags input [])
        → length (cut_in job history (chosen job.plan history.path op input place)) ≤ job.partitions
    fits input there =
        let source = (op_at job.plan (edge_at job.plan there.choice.edge).from).index in
        let all = are (λ p. bag_in (held history there.choice.place source p)) 0 job.partitions (cut_in job history (chosen job.plan history.path op input place)) there.parts in
        omega (arith, all.size)

-- what comes to a partition, but for the order of rows
abbrev pub lists_in : Job → History → ℕ → ℕ → ℕ → (ℕ → ℕ) → List BagOf
lists_in job history op place to columns =
    map (λ input. bag_of (routed (route_to (op_at job.plan op).spec input (columns input)) job.partitions 0 to (cut_in job history (chosen job.plan history.path op input place)))) (range_with_len 0 (length (input_edges job.plan op)))

pub lists_are : OpLaws → (job : Job) (history : History) (op place to : ℕ) (columns : ℕ → ℕ) (bags : List BagOf) → to < job.partitions → Inputs job history op place columns bags
    → lists_of job history op place to ≡ Some (lists_in job history op place to columns)
lists_are laws job history op place to columns bags below inputs =
    all_are (λ input. list_of job history to (chosen job.plan history.path op input place))
    (λ input. bag_of (routed (route_to (op_at job.plan op).spec input (columns input)) job.partitions 0 to (cut_in job history (chosen job.plan history.path op input place)))) 0 (length (input_edges job.plan op))
    (λ input above less. list_is laws job history (chosen job.plan history.path op input place) (get_or bags input []) to (route_to (op_at job.plan op).spec input (columns input)) below
    (inputs.route input) (inputs.each input (omega (arith, less))))

-- ---- the parts of an operator

-- the answer of each partition, over all that comes to it
abbrev pub answer_of : Job → History → ℕ → ℕ → (ℕ → ℕ) → ℕ → BagOrFault
answer_of job history op place columns partition =
    part_apply (op_at job.plan op).spec partition job.partitions (routed_lists (op_at job.plan op).spec columns job.partitions partition (cuts_of job history op place)) job.files

pub same_bags : OpLaws → (job : Job) (history : History) (op place to : ℕ) (columns : ℕ → ℕ)
    → SameBags (lists_in job history op place to columns) (routed_lists (op_at job.plan op).spec columns job.partitions to (cuts_of job history op place))
same_bags laws job history op place to columns =
    let many = length (input_edges job.plan op) in
    let routes : ℕ → Route = λ input. route_to (op_at job.plan op).spec input (columns input) in
    let cut : ℕ → List BagOf = λ input. cut_in job history (chosen job.plan history.path op input place) in
    let rows : ℕ → List RowOf = λ input. routed (routes input) job.partitions 0 to (cut input) in
    map_twice bag_of (λ input. bag_of (rows input)) (range_with_len 0 many)
    ∙ map_range_same (λ input. bag_of (bag_of (rows input))) (λ input. bag_of (rows input)) 0 many (λ input above below. sym (laws.sorted (rows input)))
    ∙ sym (map_twice bag_of rows (range_with_len 0 many))
    ∙ ap (map bag_of) (sym (lists_at-map routes job.partitions to 0 many cut))

applied_is : OpLaws → (job : Job) (history : History) (op place to : ℕ) (columns : ℕ → ℕ) (bags : List BagOf) → to < job.partitions → Inputs job history op place columns bags
    → applied job (op_at job.plan op).spec to (lists_of job history op place to) ≡ as_part (answer_of job history op place columns to)
applied_is laws job history op place to columns bags below inputs =
    ap (applied job (op_at job.plan op).spec to) (lists_are laws job history op place to columns bags below inputs)
    ∙ ap as_part (laws.part_order (op_at job.plan op).spec to job.partitions _ _ job.files (same_bags laws job history op place to columns))

-- an operator that was ok before stands
is_ok_by : (part : Part) (bag : BagOf) → bag_in part ≡ Some bag → is_ok part ≡ true
is_ok_by (ok made) bag is = refl
is_ok_by (failed fault) bag is = absurd cc
is_ok_by void bag is = absurd cc

ok_in : (job : Job) (history : History) (place index to : ℕ) (cut : Option (List BagOf)) → to < job.partitions → parts_of job history place index ≡ cut → IsSome (option_map bag_sum cut) → is_ok (held history place index to) ≡ true
ok_in job history place index to None below is some = absurd cc
ok_in job history place index to (Some cut) below is some =
    let all = are (λ p. bag_in (held history place index p)) 0 job.partitions cut is in
    let e : 0 + to ≡ to = omega arith in
    is_ok_by (held history place index to) (get_or cut to []) (ap (λ (p : ℕ). bag_in (held history place index p)) (sym e) ∙ all.each to [] below)

earlier_by : (one other : ℕ) (fine same : Bool) → eqb one other ≡ same → (one ≡ other → fine ≡ true) → (not same || fine) ≡ true
earlier_by one other fine false is ok_there = refl
earlier_by one other fine true is ok_there = ok_there (eqb-true one other is)

stands_is : (job : Job) (history : History) (place index to : ℕ) → to < job.partitions
    → ((earlier : ℕ) → earlier < place → get_or history.path earlier 0 ≡ get_or history.path place 0 → IsSome (bag_at job history earlier index)) → stands history place index to ≡ true
stands_is job history place index to below stood =
    all_true (λ earlier. not (eqb (get_or history.path earlier 0) (get_or history.path place 0)) || is_ok (held history earlier index to)) 0 place (λ earlier above less.
    let before : earlier < place = omega (arith, less) in
    earlier_by (get_or history.path earlier 0) (get_or history.path place 0) (is_ok (held history earlier index to)) (eqb (get_or history.path earlier 0) (get_or history.path place 0)) refl
    (λ same. ok_in job history earlier index to (parts_of job history earlier index) below refl (stood earlier before same)))

part_is : PathLaws → OpLaws → (job : Job) (history : History) (place index to : ℕ) (columns : ℕ → ℕ) (bags : List BagOf) → to < job.partitions → TakesBags job history place index columns bags
    → part job history place index to ≡ as_part (answer_of job history (op_of job.plan history.path place index) place columns to)
part_is paths laws job history place index to columns bags below takes =
    let op = op_of job.plan history.path place index in
    ap (λ (stood : Bool). cond stood (applied job (op_at job.plan op).spec to (lists_of job history op place to)) void) (stands_is job history place index to below takes.stood)
    ∙ applied_is laws job history op place to columns bags below (inputs_there paths job history op place columns bags takes.routed takes.takes)

-- ---- the sum

over_map : {A B : Type 0} (f : B → BagOrFault) (g : A → B) (xs : List A) → over f (map g xs) ≡ over (λ x. f (g x)) xs
unfolding over
over_map f g [] = refl
over_map f g (x ∷ xs) = ap (λ (rest : BagOrFault). both (f (g x)) rest) (over_map f g xs)

over_same : {A : Type 0} (f g : A → BagOrFault) (xs : List A) → ((x : A) → f x ≡ g x) → over f xs ≡ over g xs
unfolding over
over_same f g [] same = refl
over_same f g (x ∷ xs) same = let here = same x in let rest = over_same f g xs same in cc

answer_back : (answer : BagOrFault) → answer_in (as_part answer) ≡ answer
answer_back (Ok bag) = refl
answer_back (Err fault) = refl

over_range : OpLaws → (answer : ℕ → BagOrFault) (many : ℕ) → over answer (range_with_len 0 many) ≡ sum_parts answer many
unfolding over sum_parts
over_range laws answer zero = refl
over_range laws answer (suc many) =
    let e : 0 + many ≡ many = omega arith in
    ap (over answer) (range_push 0 many) ∙ laws.more answer (range_with_len 0 many) (0 + many)
    ∙ ap (λ (k : ℕ). both (over answer (range_with_len 0 many)) (answer k)) e
    ∙ laws.commutes (over answer (range_with_len 0 many)) (answer many)
    ∙ ap (λ (rest : BagOrFault). both (answer many) rest) (over_range laws answer many)

pub row_is : PathLaws → OpLaws → (job : Job) (history : History) (place index : ℕ) (columns : ℕ → ℕ) (bags : List BagOf) → Explained job history → TakesBags job history place index columns bags
    → row_at history place index ≡ map (λ partition. as_part (answer_of job history (op_of job.plan history.path place index) place columns partition)) (range_with_len 0 job.partitions)
row_is paths laws job history place index columns bags explained takes =
    explained place index takes.below takes.stands
    ∙ map_range_same (part job history place index) (λ partition. as_part (answer_of job history (op_of job.plan history.path place index) place columns partition)) 0 job.partitions
    (λ partition above below. part_is paths laws job history place index partition columns bags (omega (arith, below)) takes)

pub all_alike : OpLaws → (cuts : List (List BagOf)) → SameBags (map all_rows cuts) (map bag_sum cuts)
all_alike laws [] = refl
all_alike laws (cut ∷ cuts) = let here = laws.sorted (all_rows cut) in let rest = all_alike laws cuts in cc

-- the answers of all partitions add up to what the operator makes of the whole bags
pub answers_sum : PathLaws → OpLaws → (job : Job) (history : History) (place index : ℕ) (columns : ℕ → ℕ) (bags : List BagOf) → 0 < job.partitions → TakesBags job history place index columns bags
    → let op = op_of job.plan history.path place index in sum_parts (answer_of job history op place columns) job.partitions ≡ whole (op_at job.plan op).spec bags job.files
answers_sum paths laws job history place index columns bags some takes =
    let op = op_of job.plan history.path place index in
    let spec = (op_at job.plan op).spec in
    let inputs = inputs_there paths job history op place columns bags takes.routed takes.takes in
    let cuts = cuts_of job history op place in
    let given = bags_are job history op place columns bags inputs takes.takes in
    laws.parts spec columns job.partitions cuts job.files some (cuts_fit job history op place columns bags inputs)
    ∙ laws.order spec (map all_rows cuts) (map bag_sum cuts) job.files (all_alike laws cuts)
    ∙ ap (λ (inputs : List BagOf). whole spec inputs job.files) (sym given)

pub sums : PathLaws → OpLaws → (job : Job) (history : History) (place index : ℕ) (columns : ℕ → ℕ) (bags : List BagOf) → Explained job history → 0 < job.partitions → TakesBags job history place index columns bags
    → made history (pair place index) ≡ whole (op_at job.plan (op_of job.plan history.path place index)).spec bags job.files
sums paths laws job history place index columns bags explained some takes =
    let answer = answer_of job history (op_of job.plan history.path place index) place columns in
    ap (over answer_in) (row_is paths laws job history place index columns bags explained takes)
    ∙ over_map answer_in (λ partition. as_part (answer partition)) (range_with_len 0 job.partitions)
    ∙ over_same (λ partition. answer_in (as_part (answer partition))) answer (range_with_len 0 job.partitions) (λ partition. answer_back (answer partition))
    ∙ over_range laws answer job.partitions
    ∙ answers_sum paths laws job history place index columns bags some takes

-- ---- bags that are ok

more_ok : OpLaws → (first later : List RowOf) (rest : BagOf) → bag_of later ≡ rest → bag_of (first ++ later) ≡ bag_of (first ++ rest)
more_ok laws first later rest is =
    let a = laws.joined first later in
    let b = laws.joined first (bag_of later) in
    let c = laws.sorted later in
    let e : bag_of (bag_of first ++ bag_of (bag_of later)) ≡ bag_of (bag_of first ++ bag_of later) = ap (λ (rows : List RowOf). bag_of (bag_of first ++ rows)) (sym c) in
    sym a ∙ sym e ∙ b ∙ ap (λ (rows : List RowOf). bag_of (first ++ rows)) is

-- answers that add up to a bag are bags
bags_by : OpLaws → (first later : BagOrFault) (more : Option (List BagOf)) (bag : BagOf) → ((rest : BagOf) → later ≡ Ok rest → option_map bag_sum more ≡ Some rest)
    → both first later ≡ Ok bag → option_map bag_sum (option_and_then (λ one. option_map (λ others. one ∷ others) more) (bag_in (as_part first))) ≡ Some bag
unfolding all_rows
bags_by laws (Err fault) (Ok rest) more bag each sum = absurd cc
bags_by laws (Err fault) (Err other) more bag each sum = absurd cc
bags_by laws (Ok first) (Err fault) more bag each sum = absurd cc
bags_by laws (Ok first) (Ok rest) more bag each sum = by_more more (each rest refl)
  where
    by_more : (more : Option (List BagOf)) → option_map bag_sum more ≡ Some rest → option_map bag_sum (option_map (λ others. first ∷ others) more) ≡ Some bag
    by_more None none = absurd cc
    by_more (Some others) is =
        let e : bag_of (all_rows others) ≡ rest = cc in
        let f = more_ok laws first (all_rows others) rest e in
        cc

bags_in : OpLaws → (answer : ℕ → BagOrFault) (from many : ℕ) (bag : BagOf) → bag_of [] ≡ [] → over answer (range_with_len from many) ≡ Ok bag
    → option_map bag_sum (all_there (map (λ partition. bag_in (as_part (answer partition))) (range_with_len from many))) ≡ Some bag
unfolding over all_there all_rows
bags_in laws answer from zero bag nothing sum = cc
bags_in laws answer from (suc many) bag nothing sum =
    bags_by laws (answer from) (over answer (range_with_len (from + 1) many)) (all_there (map (λ partition. bag_in (as_part (answer partition))) (range_with_len (from + 1) many))) bag
    (λ rest is. bags_in laws answer (from + 1) many rest nothing is) sum

-- and bags add up to their sum
sum_by : OpLaws → (first : Part) (later : BagOrFault) (more : Option (List BagOf)) (bag : BagOf) → ((rest : BagOf) → option_map bag_sum more ≡ Some rest → later ≡ Ok rest)
    → option_map bag_sum (option_and_then (λ one. option_map (λ others. one ∷ others) more) (bag_in first)) ≡ Some bag → both (answer_in first) later ≡ Ok bag
unfolding all_rows
sum_by laws (failed fault) later more bag each all = absurd cc
sum_by laws void later more bag each all = absurd cc
sum_by laws (ok first) later None bag each all = absurd cc
sum_by laws (ok first) later (Some others) bag each all =
    let rest : later ≡ Ok (bag_sum others) = each (bag_sum others) refl in
    let e = more_ok laws first (all_rows others) (bag_sum others) refl in
    ap (both (Ok first)) rest ∙ (let g : both (Ok first) (Ok (bag_sum others)) ≡ Ok bag = cc in g)

sum_in : OpLaws → (part : ℕ → Part) (from many : ℕ) (bag : BagOf) → bag_of [] ≡ []
    → option_map bag_sum (all_there (map (λ partition. bag_in (part partition)) (range_with_len from many))) ≡ Some bag → over answer_in (map part (range_with_len from many)) ≡ Ok bag
unfolding over all_there all_rows
sum_in laws part from zero bag nothing all = cc
sum_in laws part from (suc many) bag nothing all =
    sum_by laws (part from) (over answer_in (map part (range_with_len (from + 1) many))) (all_there (map (λ partition. bag_in (part partition)) (range_with_len (from + 1) many))) bag
    (λ rest is. sum_in laws part (from + 1) many rest nothing is) all

pub bag_empty : bag_of [] ≡ []
unfolding bag_of
bag_empty = refl

pub held_in_row : (job : Job) (history : History) (place index : ℕ) (parts : ℕ → Part) (partition : ℕ) → row_at history place index ≡ map parts (range_with_len 0 job.partitions) → partition < job.partitions
    → held history place index partition ≡ parts partition
held_in_row job history place index parts partition is below =
    ap (λ (cells : List Part). get_or cells partition void) is ∙ get_or-map-range_with_len parts 0 job.partitions partition partition void below (omega arith)

-- where the whole is a bag, all parts are there
pub bag_there : PathLaws → OpLaws → (job : Job) (history : History) (place index : ℕ) (columns : ℕ → ℕ) (bags : List BagOf) (bag : BagOf) → Explained job history → 0 < job.partitions → TakesBags job history place index columns bags
    → made history (pair place index) ≡ Ok bag → bag_at job history place index ≡ Some bag
bag_there paths laws job history place index columns bags bag explained some takes is =
    let answer = answer_of job history (op_of job.plan history.path place index) place columns in
    let row = row_is paths laws job history place index columns bags explained takes in
    let sum : over answer (range_with_len 0 job.partitions) ≡ Ok bag =
    sym (ap (over answer_in) row
    ∙ over_map answer_in (λ partition. as_part (answer partition)) (range_with_len 0 job.partitions)
    ∙ over_same (λ partition. answer_in (as_part (answer partition))) answer (range_with_len 0 job.partitions) (λ partition. answer_back (answer partition))) ∙ is in
    ap (λ (parts : List (Option BagOf)). option_map bag_sum (all_there parts))
    (map_range_same (λ partition. bag_in (held history place index partition)) (λ partition. bag_in (as_part (answer partition))) 0 job.partitions
    (λ partition above below. ap bag_in (held_in_row job history place index (λ partition. as_part (answer partition)) partition row (omega (arith, below)))))
    ∙ bags_in laws answer 0 job.partitions bag bag_empty sum

-- the bag that is there is what the operator made
pub there_made : OpLaws → (job : Job) (history : History) (place index : ℕ) (bag : BagOf) → Explained job history → place < length history.path → index < (block_at job.plan (get_or history.path place 0)).count
    → bag_at job history place index ≡ Some bag → made history (pair place index) ≡ Ok bag
there_made laws job history place index bag explained below stands is =
    let row = explained place index below stands in
    let same = map_range_same (λ partition. bag_in (part job history place index partition)) (λ partition. bag_in (held history place index partition)) 0 job.partitions
    (λ partition above less. sym (ap bag_in (held_in_row job history place index (part job history place index) partition row (omega (arith, less))))) in
    ap (over answer_in) row
    ∙ sum_in laws (part job history place index) 0 job.partitions bag bag_empty (ap (λ (parts : List (Option BagOf)). option_map bag_sum (all_there parts)) same ∙ is)

-- where a part is not ok, there is a fault
pub faulty : PathLaws → OpLaws → (job : Job) (history : History) (place index : ℕ) (columns : ℕ → ℕ) (bags : List BagOf) → Explained job history → 0 < job.partitions → TakesBags job history place index columns bags
    → bag_at job history place index ≡ None → IsSome (fault_at job.plan history (pair place index))
faulty paths laws job history place index columns bags explained some takes none = by_made (made history (pair place index)) refl
  where
    by_made : (answer : BagOrFault) → made history (pair place index) ≡ answer → IsSome (fault_at job.plan history (pair place index))
    by_made (Ok bag) is = let there = bag_there paths laws job history place index columns bags bag explained some takes is in absurd cc
    by_made (Err fault) is =
        let op = op_at job.plan (op_of job.plan history.path place index) in
        ap (λ (answer : BagOrFault). is_some (fault_in answer op.statement (decisions_before job.plan history.path place))) is
