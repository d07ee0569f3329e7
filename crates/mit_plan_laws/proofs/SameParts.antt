-- A part depends on the earlier pairs of place and index alone.
use Rattle.std.proofs.Common.{◌≡◌, ◌∙◌, ◌<◌, ◌≤◌, ◌+◌, ℕ, zero, suc, List, [], ◌∷◌, length, map, get_or, ap, sym, subst, refl, arith, cond, Bool, true, false, Option, Some, None, All, inl, inr}
use Rattle.std.specs.Prelude.{◌⊎◌, ⊤}
use Rattle.std.specs.List.{list_all, range_with_len}
use Rattle.std.specs.Option.{option_map}
use Rattle.std.proofs.lemmas.Bool.{cases_lt}
use Rattle.mit_rows.specs.Bags.{RowOf, bag_sum}
use Rattle.mit_path.specs.Choice.{chosen_operand}
use Rattle.mit_ops.specs.Routes.{share}
use Rattle.mit_plan.specs.Chosen.{Choice, choice_of, chosen, chosen_among, input_edges}
use Rattle.mit_plan.specs.Held.{History, Job, Part, all_there, applied, bag_in, held, list_of, lists_of, op_of, part, received, senders, sent, stands, void}
use Rattle.mit_plan.specs.Plans.{PlanOf, block_at, edge_at, edges_to, is_phi, op_at, source_block}
use Rattle.mit_plan.specs.declared.plan.Edge.{Edge}
use Rattle.mit_plan_laws.proofs.Upward.{GoesUp}
use Rattle.mit_plan_laws.proofs.Choices.{PathLaws, input_all, is_chosen}

-- the two histories are one before this pair of place and index
pub record SameBefore (one other : History) (place index : ℕ) : Type 0 where
  pub path : (at : ℕ) → at ≤ place → get_or one.path at 0 ≡ get_or other.path at 0
  pub choice : (operands : List ℕ) (phi : Bool) → chosen_operand one.path operands place phi ≡ chosen_operand other.path operands place phi
  pub earlier : (at x p : ℕ) → at < place → held one at x p ≡ held other at x p
  pub here : (x p : ℕ) → x < index → held one place x p ≡ held other place x p

-- a pair is before another one
abbrev IsBefore : ℕ → ℕ → ℕ → ℕ → Type 0
IsBefore at x place index = (at < place) ⊎ ((at ≡ place) × (x < index))

same_held : (one other : History) (place index : ℕ) → SameBefore one other place index → (at x p : ℕ) → IsBefore at x place index → held one at x p ≡ held other at x p
same_held one other place index same at x p (inl before) = same.earlier at x p before
same_held one other place index same at x p (inr here) = rw (here.0) (same.here x p here.1)

-- ---- lists

pub map_same : {A B : Type 0} (f g : A → B) (xs : List A) → ((x : A) → f x ≡ g x) → map f xs ≡ map g xs
map_same f g [] same = refl
map_same f g (x ∷ xs) same = let here = same x in let rest = map_same f g xs same in cc

pub same_received : (job : Job) (one other : History) (partition : ℕ) (edge : Edge) (place : ℕ)
    → ((p : ℕ) → held one place (op_at job.plan edge.from).index p ≡ held other place (op_at job.plan edge.from).index p)
    → received job one partition edge place ≡ received job other partition edge place
same_received job one other partition edge place same =
    ap (λ (shares : List (Option (List RowOf))). option_map bag_sum (all_there shares))
    (map_same (sent job one edge place partition) (sent job other edge place partition) (senders job edge partition)
    (λ p. ap (λ (held_part : Part). option_map (λ bag. share bag edge.route job.partitions p partition) (bag_in held_part)) (same p)))

-- a chosen pair is before the pair that chooses it
before_pair : (plan : PlanOf) (path : List ℕ) (place index : ℕ) (choice : Choice) → choice.place < suc place
    → source_block plan (edge_at plan choice.edge) ≡ get_or path choice.place 0 → GoesUp plan (get_or path place 0) index choice.edge
    → IsBefore choice.place (op_at plan (edge_at plan choice.edge).from).index place index
before_pair plan path place index choice below from up = by_order (cases_lt choice.place place)
  where
    by_order : (choice.place < place) ⊎ (place ≤ choice.place) → IsBefore choice.place (op_at plan (edge_at plan choice.edge).from).index place index
    by_order (inl before) = inl before
    by_order (inr after) = let e : choice.place ≡ place = omega (arith, after, below) in inr (e, up (from ∙ ap (λ k. get_or path k 0) e))

-- a phi chooses an earlier place, and an input goes up
abbrev InputGoesUp : PlanOf → ℕ → ℕ → Bool → List ℕ → Type 0
InputGoesUp plan block index phi edges = phi ≡ false → All (GoesUp plan block index) edges

chosen_before : PathLaws → (plan : PlanOf) (path edges : List ℕ) (place index : ℕ) (phi : Bool) (choice : Choice) → InputGoesUp plan (get_or path place 0) index phi edges
    → chosen_among plan path edges phi place ≡ Some choice → IsBefore choice.place (op_at plan (edge_at plan choice.edge).from).index place index
chosen_before laws plan path edges place index true choice up is =
    let blocks = map (λ edge. source_block plan (edge_at plan edge)) edges in
    inl (is_chosen plan path edges (λ edge. ⊤) place choice (chosen_operand path blocks place true) (laws.phi path blocks place) (λ k d below. tt) is).below
chosen_before laws plan path edges place index false choice up is =
    let blocks = map (λ edge. source_block plan (edge_at plan edge)) edges in
    let found = is_chosen plan path edges (GoesUp plan (get_or path place 0) index) (suc place) choice (chosen_operand path blocks place false) (laws.input path blocks place) (up refl) is in
    before_pair plan path place index choice found.below found.block found.edge

same_list : PathLaws → (job : Job) (one other : History) (edges : List ℕ) (phi : Bool) (place index partition : ℕ) (choice : Option Choice) → SameBefore one other place index
    → InputGoesUp job.plan (get_or one.path place 0) index phi edges → chosen_among job.plan one.path edges phi place ≡ choice
    → list_of job one partition choice ≡ list_of job other partition choice
same_list laws job one other edges phi place index partition None same up is = refl
same_list laws job one other edges phi place index partition (Some choice) same up is =
    let before = chosen_before laws job.plan one.path edges place index phi choice up is in
    same_received job one other partition (edge_at job.plan choice.edge) choice.place
    (λ p. same_held one other place index same choice.place (op_at job.plan (edge_at job.plan choice.edge).from).index p before)

same_input : PathLaws → (job : Job) (one other : History) (edges : List ℕ) (phi : Bool) (place index partition : ℕ) → SameBefore one other place index
    → InputGoesUp job.plan (get_or one.path place 0) index phi edges
    → list_of job one partition (chosen_among job.plan one.path edges phi place) ≡ list_of job other partition (chosen_among job.plan other.path edges phi place)
same_input laws job one other edges phi place index partition same up =
    same_list laws job one other edges phi place index partition (chosen_among job.plan one.path edges phi place) same up refl
    ∙ ap (λ found. list_of job other partition (option_map (choice_of edges) found)) (same.choice (map (λ edge. source_block job.plan (edge_at job.plan edge)) edges) phi)

-- each input of an operator
input_goes_up : (plan : PlanOf) (op block index input : ℕ) → (is_phi (op_at plan op) ≡ false → All (GoesUp plan block index) (edges_to plan op))
    → InputGoesUp plan block index (is_phi (op_at plan op)) (get_or (input_edges plan op) input [])
input_goes_up plan op block index input up plain =
    let e : map (λ (edge : ℕ). edge ∷ []) (edges_to plan op) ≡ input_edges plan op = sym (ap (λ phi. cond phi (edges_to plan op ∷ []) (map (λ edge. edge ∷ []) (edges_to plan op))) plain) in
    subst (λ (inputs : List (List ℕ)). All (GoesUp plan block index) (get_or inputs input [])) e (input_all (GoesUp plan block index) (edges_to plan op) input (up plain))

same_lists : PathLaws → (job : Job) (one other : History) (op place index partition : ℕ) → SameBefore one other place index
    → (is_phi (op_at job.plan op) ≡ false → All (GoesUp job.plan (get_or one.path place 0) index) (edges_to job.plan op))
    → lists_of job one op place partition ≡ lists_of job other op place partition
same_lists laws job one other op place index partition same up =
    ap all_there (map_same (λ input. list_of job one partition (chosen job.plan one.path op input place)) (λ input. list_of job other partition (chosen job.plan other.path op input place))
    (range_with_len 0 (length (input_edges job.plan op)))
    (λ input. same_input laws job one other (get_or (input_edges job.plan op) input []) (is_phi (op_at job.plan op)) place index partition same
    (input_goes_up job.plan op (get_or one.path place 0) index input up)))

-- ---- earlier places of the operator

all_same : (f g : ℕ → Bool) (from many : ℕ) → ((k : ℕ) → k < from + many → f k ≡ g k) → list_all f (range_with_len from many) ≡ list_all g (range_with_len from many)
all_same f g from zero same = refl
all_same f g from (suc many) same =
    let here = same from (omega arith) in
    let rest = all_same f g (from + 1) many (λ k below. same k (omega (arith, below))) in
    cc

same_stands : (one other : History) (place index partition : ℕ) → SameBefore one other place index → stands one place index partition ≡ stands other place index partition
same_stands one other place index partition same =
    all_same _ _ 0 place (λ k below.
    let at = same.path k (omega (arith, below)) in
    let now = same.path place (omega arith) in
    let here = same.earlier k index partition (omega (arith, below)) in
    cc)

-- the part at a pair depends on what is held before the pair alone
pub same_part : PathLaws → (job : Job) (one other : History) (place index partition : ℕ) → SameBefore one other place index
    → (is_phi (op_at job.plan (op_of job.plan one.path place index)) ≡ false → All (GoesUp job.plan (get_or one.path place 0) index) (edges_to job.plan (op_of job.plan one.path place index)))
    → part job one place index partition ≡ part job other place index partition
same_part laws job one other place index partition same up =
    let op = op_of job.plan one.path place index in
    let stood = same_stands one other place index partition same in
    let lists = same_lists laws job one other op place index partition same up in
    let at = same.path place (omega arith) in
    ap (λ stood. cond stood (applied job (op_at job.plan op).spec partition (lists_of job one op place partition)) void) stood
    ∙ ap (λ lists. cond (stands other place index partition) (applied job (op_at job.plan op).spec partition lists) void) lists
    ∙ ap (λ (block : ℕ). let other_op = (block_at job.plan block).first + index in
    cond (stands other place index partition) (applied job (op_at job.plan other_op).spec partition (lists_of job other other_op place partition)) void) at
