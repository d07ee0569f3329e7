-- What an operator takes of a variable is its last definition.
use Rattle.std.proofs.Common.{◌≡◌, ◌≢◌, ◌∙◌, ◌<◌, ◌≤◌, ◌+◌, ℕ, zero, suc, List, [], ◌∷◌, length, map, get_or, ap, ap₂, sym, subst, refl, arith, All, Contains, Bool, true, false, cond, eqb, eqb-true, eq-eqb, ne_eqb, Option, Some, None, inl, inr}
use Rattle.std.specs.Prelude.{◌⊎◌}
use Rattle.std.specs.List.{position_from}
use Rattle.std.specs.Option.{MatchOption, option_map}
use Rattle.std.proofs.lemmas.Bool.{cases_lt, cases_order}
use Rattle.std.proofs.lemmas.List.{get_or-map, length-map}
use Rattle.std.proofs.lemmas.List.Elements.{All-cons, All-nil}
use Rattle.mit_path.specs.Choice.{chosen_operand, operand_of}
use Rattle.mit_path.specs.Last.{HasNone, IsLast}
use Rattle.mit_plan.specs.Chosen.{choice_of, chosen_among}
use Rattle.mit_plan.specs.Held.{History, Job, op_of}
use Rattle.mit_plan.specs.Plans.{PlanOf, block_at, edge_at, op_at, source_block}
use Rattle.mit_plan.specs.Sums.{bag_at, bag_taken}
use Rattle.mit_plan.specs.Valid.{RangesFollow}
use Rattle.mit_script.specs.Execution.{Store}
use Rattle.mit_ssa.specs.Reaching.{Reaching, is_for, reach, reaching}
use Rattle.mit_meaning.proofs.Good.{Holds, IsBefore, Last}
use Rattle.mit_meaning.proofs.Standing.{names, stands_in}

-- the laws of choice over blocks
pub record PathLaws : Type 0 where
  pub input : (path operands : List ℕ) (at : ℕ) → MatchOption (chosen_operand path operands at false) (HasNone path operands (suc at)) (IsLast path operands (suc at))
  pub phi : (path operands : List ℕ) (at : ℕ) → MatchOption (chosen_operand path operands at true) (HasNone path operands at) (IsLast path operands at)

-- ---- what reaches a pair

-- an operator is for a variable exactly where it defines it
pub is_for_true : (defined : Option ℕ) (variable : ℕ) → is_for defined variable ≡ true → defined ≡ Some variable
is_for_true None variable is = absurd cc
is_for_true (Some target) variable is = ap (λ (one : ℕ). Some one) (eqb-true target variable is)

pub is_for_own : (defined : Option ℕ) (variable : ℕ) → defined ≡ Some variable → is_for defined variable ≡ true
is_for_own defined variable is = ap (λ (one : Option ℕ). is_for one variable) is ∙ eq-eqb variable variable refl

-- each of these operators defines a variable
abbrev pub Defines : Reaching → ℕ → List ℕ → Type 0
Defines known variable operators = All (λ operator. known.defines operator ≡ Some variable) operators

-- what may have defined a variable last defines it
pub reach_defines : (known : Reaching) (block first index variable : ℕ) → Defines known variable (known.entry block variable) → Defines known variable (reach known block first index variable)
unfolding reach
reach_defines known block first zero variable entry = entry
reach_defines known block first (suc index) variable entry =
    by_test (is_for (known.defines (first + index)) variable) refl (reach_defines known block first index variable entry)
  where
    by_test : (own : Bool) → is_for (known.defines (first + index)) variable ≡ own → Defines known variable (reach known block first index variable)
        → Defines known variable (cond own ((first + index) ∷ []) (reach known block first index variable))
    by_test true is before =
        All-cons (λ operator. known.defines operator ≡ Some variable) (first + index) [] (is_for_true (known.defines (first + index)) variable is)
        (All-nil (λ operator. known.defines operator ≡ Some variable))
    by_test false is before = before

-- ---- operands by their blocks

-- a block that no operand has is no operand's
no_operand : (block from : ℕ) (blocks : List ℕ) → ((k : ℕ) → k < length blocks → get_or blocks k 0 ≢ block) → position_from (λ one. eqb block one) from blocks ≡ None
no_operand block from [] never = refl
no_operand block from (one ∷ blocks) never =
    let other : eqb block one ≡ false = ne_eqb block one (λ e. never 0 (omega arith) (sym e)) in
    let rest = no_operand block (from + 1) blocks (λ k below. never (suc k) (omega (arith, below))) in
    cc

-- the operand of a block is the first one with it
operand_at : (block from k : ℕ) (blocks : List ℕ) → k < length blocks → get_or blocks k 0 ≡ block → ((j : ℕ) → j < k → get_or blocks j 0 ≢ block)
    → position_from (λ one. eqb block one) from blocks ≡ Some (from + k)
operand_at block from k [] below is before = absurd (omega (arith, below))
operand_at block from zero (one ∷ blocks) below is before =
    let here : eqb block one ≡ true = eq-eqb block one (sym is) in
    let e : from ≡ from + 0 = omega arith in
    cc
operand_at block from (suc k) (one ∷ blocks) below is before =
    let other : eqb block one ≡ false = ne_eqb block one (λ e. before 0 (omega arith) (sym e)) in
    let rest = operand_at block (from + 1) k blocks (omega (arith, below)) is (λ j less. before (suc j) (omega (arith, less))) in
    let e : from + 1 + k ≡ from + suc k = omega arith in
    cc

-- ---- the last place

-- there is one last place
one_last : (path operands : List ℕ) (bound operand place : ℕ) (found : Option (ℕ × ℕ)) → MatchOption found (HasNone path operands bound) (IsLast path operands bound)
    → IsLast path operands bound (operand, place) → found ≡ Some (operand, place)
one_last path operands bound operand place None none last = let here = none place last.below in let is = last.is in absurd cc
one_last path operands bound operand place (Some other) found last = by_order (cases_order place other.1)
  where
    by_order : (place ≡ other.1) ⊎ ((place < other.1) ⊎ (other.1 < place)) → Some other ≡ Some (operand, place)
    by_order (inl same) =
        let at : operand_of operands (get_or path place 0) ≡ operand_of operands (get_or path other.1 0) = ap (λ (n : ℕ). operand_of operands (get_or path n 0)) same in
        let one : Some other.0 ≡ Some operand = sym found.is ∙ sym at ∙ last.is in
        let e : other.0 ≡ operand = cc in
        ap₂ (λ (a b : ℕ). Some (a, b)) e (sym same)
    by_order (inr (inl later)) = let none = last.last other.1 later found.below in let is = found.is in absurd cc
    by_order (inr (inr later)) = let none = found.last place later last.below in let is = last.is in absurd cc

-- the operator that an edge of an input leaves
abbrev pub source_op : PlanOf → List ℕ → ℕ → ℕ
source_op plan edges k = (edge_at plan (get_or edges k 0)).from

-- the blocks of these operators
abbrev pub operand_blocks : PlanOf → List ℕ → List ℕ
operand_blocks plan edges = map (λ edge. source_block plan (edge_at plan edge)) edges

-- the edges of an input at a pair: they come from operators of distinct blocks; one of the pair's own block has a lower index, and is taken at this place too
pub record Feeds (plan : PlanOf) (path : List ℕ) (place index bound : ℕ) (edges : List ℕ) : Type 0 where
  pub names : (k : ℕ) → k < length edges → source_op plan edges k < length plan.ops
  pub apart : (one other : ℕ) → one < other → other < length edges → (op_at plan (source_op plan edges one)).block ≢ (op_at plan (source_op plan edges other)).block
  pub own : (k : ℕ) → k < length edges → (op_at plan (source_op plan edges k)).block ≡ get_or path place 0
      → (bound ≡ suc place) × ((op_at plan (source_op plan edges k)).index < index)
  pub least : place ≤ bound
  pub most : bound ≤ suc place

-- an operator of an edge stands before the pair at each place of its block that may be chosen
stands_before : (plan : PlanOf) (path : List ℕ) (place index bound : ℕ) (edges : List ℕ) (k other : ℕ) → Feeds plan path place index bound edges → k < length edges
    → (op_at plan (source_op plan edges k)).block ≡ get_or path other 0 → other < bound → IsBefore other (op_at plan (source_op plan edges k)).index place index
stands_before plan path place index bound edges k other feeds within is below = by_order (cases_lt other place)
  where
    by_order : (other < place) ⊎ (place ≤ other) → IsBefore other (op_at plan (source_op plan edges k)).index place index
    by_order (inl less) = inl less
    by_order (inr more) =
        let same : other ≡ place = omega (arith, more, below, feeds.most) in
        inr (same, (feeds.own k within (is ∙ ap (λ (n : ℕ). get_or path n 0) same)).1)

-- behind the last definition no place is one of an operand's block
none_later : (plan : PlanOf) (known : Reaching) (path : List ℕ) (place index bound variable : ℕ) (edges : List ℕ) → RangesFollow plan → place < length path
    → Feeds plan path place index bound edges → ((k : ℕ) → k < length edges → known.defines (source_op plan edges k) ≡ Some variable)
    → (last : Last plan known path place index variable) → (k later : ℕ) → k < length edges → last.at < later → later < bound
    → (op_at plan (source_op plan edges k)).block ≢ get_or path later 0
none_later plan known path place index bound variable edges ranges below feeds defines last k later within after less is =
    let op = source_op plan edges k in
    let own = stands_in plan (get_or path later 0) op ranges (feeds.names k within) is in
    let entered : later < length path = omega (arith, below, less, feeds.most) in
    let none = last.none later (op_at plan op).index (entered, own.below) (inl after) (stands_before plan path place index bound edges k later feeds within is less) in
    let same : is_for (known.defines op) variable ≡ false = ap (λ (one : ℕ). is_for (known.defines one) variable) own.number ∙ none in
    let own_is = is_for_own (known.defines op) variable (defines k within) in
    absurd cc

-- the last definition is the last place that fits
last_place : (plan : PlanOf) (known : Reaching) (path : List ℕ) (place index bound variable : ℕ) (edges : List ℕ) (k : ℕ) → RangesFollow plan → place < length path
    → Feeds plan path place index bound edges → ((k : ℕ) → k < length edges → known.defines (source_op plan edges k) ≡ Some variable)
    → (last : Last plan known path place index variable) → k < length edges → source_op plan edges k ≡ op_of plan path last.at last.under
    → IsLast path (operand_blocks plan edges) bound (k, last.at)
last_place plan known path place index bound variable edges k ranges below feeds defines last within is = record {
  below = by_place last.before;
  is = operand_at (get_or path last.at 0) 0 k (operand_blocks plan edges) (omega (arith, size, within)) (block_of k within ∙ block_is) (λ j less same.
      feeds.apart j k less within (sym (block_of j (omega (arith, less, within))) ∙ same ∙ sym block_is)) ∙ ap (λ (n : ℕ). Some n) (let z : 0 + k ≡ k = omega arith in z);
  last = λ later after less. no_operand (get_or path later 0) 0 (operand_blocks plan edges) (λ j inside same.
      let there : j < length edges = omega (arith, size, inside) in
      none_later plan known path place index bound variable edges ranges below feeds defines last j later there after less (sym (block_of j there) ∙ same));
}
  where
    size : length (operand_blocks plan edges) ≡ length edges
    size = length-map edges (λ edge. source_block plan (edge_at plan edge))

    block_of : (j : ℕ) → j < length edges → get_or (operand_blocks plan edges) j 0 ≡ (op_at plan (source_op plan edges j)).block
    block_of j there = get_or-map (λ edge. source_block plan (edge_at plan edge)) edges j 0 0 there

    block_is : (op_at plan (source_op plan edges k)).block ≡ get_or path last.at 0
    block_is = ap (λ (op : ℕ). (op_at plan op).block) is ∙ (names plan (get_or path last.at 0) last.under ranges last.pair.1).block_is

    by_place : IsBefore last.at last.under place index → last.at < bound
    by_place (inl less) = omega (arith, less, feeds.least)
    by_place (inr here) =
        let same = here.0 in
        let own = (feeds.own k within (block_is ∙ ap (λ (n : ℕ). get_or path n 0) same)).0 in
        omega arith

-- ---- what an input takes

-- the places that may be chosen: a phi takes none of its own place
abbrev pub choice_end : Bool → ℕ → ℕ
choice_end true place = place
choice_end false place = suc place

-- the laws of choice, for phis and for other inputs
chosen_fits : PathLaws → (path operands : List ℕ) (at : ℕ) (phi : Bool) → MatchOption (chosen_operand path operands at phi) (HasNone path operands (choice_end phi at)) (IsLast path operands (choice_end phi at))
chosen_fits laws path operands at true = laws.phi path operands at
chosen_fits laws path operands at false = laws.input path operands at

-- an input over whose edges all comes that may have defined a variable last takes the variable's bag
pub taken_is : PathLaws → (job : Job) (known : Reaching) (history : History) (place index : ℕ) (store : Store) (variable : ℕ) (edges : List ℕ) (phi : Bool) → RangesFollow job.plan
    → place < length history.path → Feeds job.plan history.path place index (choice_end phi place) edges → Defines known variable (known.entry (get_or history.path place 0) variable)
    → reaching job.plan known (get_or history.path place 0) index variable ≡ map (λ edge. (edge_at job.plan edge).from) edges → Holds job known history place index store variable
    → bag_taken job history (chosen_among job.plan history.path edges phi place) ≡ Some (store variable)
taken_is laws job known history place index store variable edges phi ranges below feeds entry takes holds =
    let op = op_of job.plan history.path holds.last.at holds.last.under in
    let listed = subst (λ (ops : List ℕ). Contains ops op) takes holds.listed in
    let k = listed.0 in
    let within : k < length edges = omega (arith, listed.1, size) in
    let is : source_op job.plan edges k ≡ op = sym (get_or-map (λ edge. (edge_at job.plan edge).from) edges k 0 op within) ∙ listed.2 in
    let last = last_place job.plan known history.path place index (choice_end phi place) variable edges k ranges below feeds defines holds.last within is in
    let found = one_last history.path (operand_blocks job.plan edges) (choice_end phi place) k holds.last.at (chosen_operand history.path (operand_blocks job.plan edges) place phi)
    (chosen_fits laws history.path (operand_blocks job.plan edges) place phi) last in
    let index_is = ap (λ (one : ℕ). (op_at job.plan one).index) is ∙ (names job.plan (get_or history.path holds.last.at 0) holds.last.under ranges holds.last.pair.1).index_is in
    ap (λ (one : Option (ℕ × ℕ)). bag_taken job history (option_map (choice_of edges) one)) found ∙ ap (bag_at job history holds.last.at) index_is ∙ holds.bag
  where
    size : length (map (λ edge. (edge_at job.plan edge).from) edges) ≡ length edges
    size = length-map edges (λ edge. (edge_at job.plan edge).from)

    defines : (j : ℕ) → j < length edges → known.defines (source_op job.plan edges j) ≡ Some variable
    defines j there =
        let all = subst (Defines known variable) takes
        (reach_defines known (get_or history.path place 0) (block_at job.plan (get_or history.path place 0)).first index variable entry) in
        ap known.defines (sym (get_or-map (λ edge. (edge_at job.plan edge).from) edges j 0 0 there)) ∙ all j 0 (omega (arith, there, size))
