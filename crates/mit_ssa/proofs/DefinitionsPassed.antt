-- Plans of good blocks: what is passed on a path, and the conditions on definitions.
use Rattle.std.proofs.Common.{◌≡◌, ◌≢◌, ◌∙◌, ◌<◌, ◌≤◌, ◌+◌, ℕ, zero, suc, List, [], ◌∷◌, length, map, get_or, ap, sym, subst, refl, arith, cond, eqb, nat_lt, Bool, true, false, Option, Some, None, is_some, IsSome, IsTrue, MatchBool, ◌⊎◌, inl, inr, All, Contains, slice_index}
use Rattle.std.proofs.lemmas.Bool.{cases_lt}
use Rattle.std.proofs.lemmas.Bool.Decides.{nat_tests}
use Rattle.mit_path.specs.Choice.{chosen_operand, found_or, last_below, operand_of}
use Rattle.mit_plan.specs.Paths.{IsPath, next_of}
use Rattle.mit_plan.specs.Plans.{PlanOf, block_at, is_phi, no_block, no_edge, op_at}
use Rattle.mit_plan.specs.Valid.{Chooses, AreApart, EdgesGoUp, GoesUp, OperandsApart, PlacesToChoose, source_blocks}
use Rattle.mit_plan.specs.declared.plan.Edge.{Edge}
use Rattle.mit_plan.specs.declared.plan.PlanBlock.{PlanBlock}
use Rattle.mit_plan.specs.declared.plan.PlanOp.{PlanOp}
use Rattle.mit_ssa.specs.PlanFor.{edges_in, operator_edges}
use Rattle.mit_ssa.specs.declared.block.Operator.{Operator}
use Rattle.mit_ssa.specs.declared.block.Source.{Source}
use Rattle.mit_ssa.proofs.DefinitionsPhis.{Each}
use Rattle.mit_ssa.proofs.DefinitionsGood.{Among, Away, GoodOp, GoodPhi, IsEntered, IsPassed, Leads, Marks, Offers, Split}
use Rattle.mit_ssa.proofs.DefinitionsNumbered.{Leaves, Stands, no_operator}
use Rattle.mit_ssa.proofs.DefinitionsEdges.{each_all, each_any, each_contains, each_edge, each_in, source_blocks_are}

-- a plan of good blocks
pub record IsGoodPlan (variables : ℕ) (look : Marks) (plan : PlanOf) (operators : List Operator) : Type 0 where
  pub edges : plan.edges ≡ operator_edges 0 operators
  pub many : length plan.ops ≡ length operators
  pub begin : (variable : ℕ) → (look 0).entry variable ≡ []
  pub outside : (block : ℕ) → length plan.blocks ≤ block → (look block).start ≡ 0
  pub starts : (block : ℕ) → (look block).start ≤ length plan.ops
  pub stands : (op : ℕ) → op < length plan.ops → Stands variables look 0 op (length plan.blocks) (op_at plan op) (get_or operators op no_operator)
  pub leaves : (block : ℕ) → block < length plan.blocks → Leaves variables look block (length plan.blocks) (length plan.ops) (block_at plan block)

abbrev home : PlanOf → ℕ → ℕ
home plan op = (op_at plan op).block

-- ---- in which block an operator stands

within : (variables : ℕ) (look : Marks) (plan : PlanOf) (operators : List Operator) (block op : ℕ) → IsGoodPlan variables look plan operators
    → op < (look block).start → block < length plan.blocks
within variables look plan operators block op good below = by_order (cases_lt block (length plan.blocks))
  where
    by_order : (block < length plan.blocks) ⊎ (length plan.blocks ≤ block) → block < length plan.blocks
    by_order (inl lt) = lt
    by_order (inr ge) = absurd (let e = good.outside block ge in omega (arith, e, below))

home_below : (variables : ℕ) (look : Marks) (plan : PlanOf) (operators : List Operator) (block op : ℕ) → IsGoodPlan variables look plan operators
    → op < length plan.ops → op < (look block).start → home plan op < block
home_below variables look plan operators block op good is_op below = by_order (cases_lt (home plan op) block)
  where
    by_order : (home plan op < block) ⊎ (block ≤ home plan op) → home plan op < block
    by_order (inl lt) = lt
    by_order (inr ge) =
        let stood = good.stands op is_op in
        let same = stood.is.block_is in
        let e = stood.earlier block (omega arith) (omega (arith, same, ge)) in
        absurd (omega (arith, e, below))

home_from : (variables : ℕ) (look : Marks) (plan : PlanOf) (operators : List Operator) (block op : ℕ) → IsGoodPlan variables look plan operators
    → op < length plan.ops → block < length plan.blocks → (look block).start ≤ op → block ≤ home plan op
home_from variables look plan operators block op good is_op is_block from = by_order (cases_lt (home plan op) block)
  where
    by_order : (home plan op < block) ⊎ (block ≤ home plan op) → block ≤ home plan op
    by_order (inl lt) =
        let stood = good.stands op is_op in
        let same = stood.is.block_is in
        let e = stood.later block (omega (arith, same, lt)) is_block in
        absurd (omega (arith, e, from))
    by_order (inr ge) = ge

-- an operator that was passed inside a block stands there
home_is : (variables : ℕ) (look : Marks) (plan : PlanOf) (operators : List Operator) (block op : ℕ) → IsGoodPlan variables look plan operators
    → block < length plan.blocks → (until : ℕ) → until ≤ length plan.ops → ((other : ℕ) → block < other → other < length plan.blocks → until ≤ (look other).start)
    → (look block).start ≤ op → op < until → home plan op ≡ block
home_is variables look plan operators block op good is_block until in_ops bound from below = by_order (cases_lt block (home plan op))
  where
    is_op : op < length plan.ops
    is_op = omega arith

    by_order : (block < home plan op) ⊎ (home plan op ≤ block) → home plan op ≡ block
    by_order (inl above) =
        let stood = good.stands op is_op in
        let same = stood.is.block_is in
        let high = stood.high in
        let e = bound (home plan op) above (omega (arith, same, high)) in
        let f = stood.earlier (home plan op) (omega arith) (omega (arith, same)) in
        absurd (omega (arith, e, f, below))
    by_order (inr under) =
        let f = home_from variables look plan operators block op good is_op is_block from in omega (arith, f, under)

-- ---- the sources of an operator

map_from : {A : Type 0} (f : ℕ → A) (sources : List Source) → map (λ source. f source.from) sources ≡ map f (map (λ source. source.from) sources)
map_from f [] = refl
map_from f (source ∷ sources) = ap (λ l. f source.from ∷ l) (map_from f sources)

sources_are : (variables : ℕ) (look : Marks) (plan : PlanOf) (operators : List Operator) (op : ℕ) → IsGoodPlan variables look plan operators → op < length plan.ops
    → source_blocks plan op ≡ map (λ source. home plan source.from) (get_or operators op no_operator).inputs
sources_are variables look plan operators op good is_op =
    source_blocks_are plan operators op good.edges (let e = good.many in omega (arith, e, is_op))

phi_blocks : (variables : ℕ) (look : Marks) (plan : PlanOf) (operators : List Operator) (op block : ℕ) → IsGoodPlan variables look plan operators → op < length plan.ops
    → (phi : GoodPhi variables look block (get_or operators op no_operator)) → source_blocks plan op ≡ home plan phi.one ∷ home plan phi.other ∷ []
phi_blocks variables look plan operators op block good is_op phi =
    sources_are variables look plan operators op good is_op
    ∙ (map_from (home plan) (get_or operators op no_operator).inputs ∙ ap (map (home plan)) phi.inputs)

no_phi : (op : PlanOp) (operator : Operator) → op.phi ≡ operator.phi → operator.phi ≡ 0 → is_phi op ≡ false
no_phi op operator same none = ap (nat_lt 0) (same ∙ none)

a_phi : (op : PlanOp) (operator : Operator) → op.phi ≡ operator.phi → operator.phi ≡ 2 → is_phi op ≡ true
a_phi op operator same two = ap (nat_lt 0) (same ∙ two)

-- ---- operands stand apart

two_apart : (a b own : ℕ) → a ≢ b → a ≢ own → b ≢ own → AreApart (a ∷ b ∷ []) own
two_apart a b own apart first second = record { distinct = pairs; others = each }
  where
    pairs : (one other : ℕ) → one < other → other < length (a ∷ b ∷ []) → slice_index (a ∷ b ∷ []) one ≢ slice_index (a ∷ b ∷ []) other
    pairs zero zero lt below = absurd (omega arith)
    pairs zero (suc zero) lt below = apart
    pairs zero (suc (suc j)) lt below = absurd (omega arith)
    pairs (suc i) zero lt below = absurd (omega arith)
    pairs (suc i) (suc zero) lt below = absurd (omega arith)
    pairs (suc i) (suc (suc j)) lt below = absurd (omega arith)

    each : (one : ℕ) → one < length (a ∷ b ∷ []) → slice_index (a ∷ b ∷ []) one ≢ own
    each zero below = first
    each (suc zero) below = second
    each (suc (suc k)) below = absurd (omega arith)

split_apart : (variables : ℕ) (look : Marks) (plan : PlanOf) (operators : List Operator) (one other : ℕ) → IsGoodPlan variables look plan operators
    → one < length plan.ops → other < length plan.ops → Split look one other → home plan one ≢ home plan other
split_apart variables look plan operators one other good is_one is_other split = by_side split.between
  where
    by_side : ((one < (look split.block).start) × ((look split.block).start ≤ other)) ⊎ ((other < (look split.block).start) × ((look split.block).start ≤ one))
        → home plan one ≢ home plan other
    by_side (inl sides) = λ same.
        let a = home_below variables look plan operators split.block one good is_one sides.0 in
        let b = home_from variables look plan operators split.block other good is_other (within variables look plan operators split.block one good sides.0) sides.1 in
        omega (arith, a, b, same)
    by_side (inr sides) = λ same.
        let a = home_below variables look plan operators split.block other good is_other sides.0 in
        let b = home_from variables look plan operators split.block one good is_one (within variables look plan operators split.block other good sides.0) sides.1 in
        omega (arith, a, b, same)

away_apart : (variables : ℕ) (look : Marks) (plan : PlanOf) (operators : List Operator) (block op : ℕ) → IsGoodPlan variables look plan operators
    → op < length plan.ops → Away look block op → home plan op ≢ block
away_apart variables look plan operators block op good is_op (inl before) = λ same.
    let a = home_below variables look plan operators block op good is_op before in omega (arith, a, same)
away_apart variables look plan operators block op good is_op (inr after) = λ same.
    let some = after.some in
    let a = home_from variables look plan operators after.later op good is_op (within variables look plan operators after.later 0 good some) after.from in
    let b = after.after in
    omega (arith, a, b, same)

phi_apart : (variables : ℕ) (look : Marks) (plan : PlanOf) (operators : List Operator) (op : ℕ) → IsGoodPlan variables look plan operators
    → op < length plan.ops → IsTrue (is_phi (op_at plan op)) → AreApart (source_blocks plan op) (op_at plan op).block
phi_apart variables look plan operators op good is_op phi = by_kind (good.stands op is_op).good
  where
    by_kind : GoodOp variables look (good.stands op is_op).block op (get_or operators op no_operator) → AreApart (source_blocks plan op) (op_at plan op).block
    by_kind (inl other) =
        absurd (let e = no_phi (op_at plan op) (get_or operators op no_operator) (good.stands op is_op).is.phi_is other.0 in cc)
    by_kind (inr both) =
        let it = both.1 in
        let blocks = phi_blocks variables look plan operators op (good.stands op is_op).block good is_op it in
        let is_one : it.one < length plan.ops = (let a = it.one_bound in let b = good.starts it.bound in omega (arith, a, b)) in
        let is_other : it.other < length plan.ops = (let a = it.other_bound in let b = good.starts it.bound in omega (arith, a, b)) in
        let here = (good.stands op is_op).is.block_is in
        subst (λ (bs : List ℕ). AreApart bs (op_at plan op).block) (sym blocks)
        (two_apart (home plan it.one) (home plan it.other) (op_at plan op).block
        (split_apart variables look plan operators it.one it.other good is_one is_other it.apart)
        (λ same. away_apart variables look plan operators (good.stands op is_op).block it.one good is_one it.one_away (same ∙ here))
        (λ same. away_apart variables look plan operators (good.stands op is_op).block it.other good is_other it.other_away (same ∙ here)))

pub operands_apart : (variables : ℕ) (look : Marks) (plan : PlanOf) (operators : List Operator) → IsGoodPlan variables look plan operators → OperandsApart plan
operands_apart variables look plan operators good = λ op is_op phi. phi_apart variables look plan operators op good is_op phi

-- ---- edges go up inside a block

goes_up : (variables : ℕ) (look : Marks) (plan : PlanOf) (operators : List Operator) (op from : ℕ) → IsGoodPlan variables look plan operators
    → op < length plan.ops → from < op → home plan from ≡ home plan op → (op_at plan from).index < (op_at plan op).index
goes_up variables look plan operators op from good is_op before same =
    let one = good.stands from (omega arith) in
    let two = good.stands op is_op in
    let a = one.number_is in let b = two.number_is in
    let c : one.block ≡ two.block = sym one.is.block_is ∙ (same ∙ two.is.block_is) in
    let d = ap (λ (n : ℕ). (look n).start) c in
    omega (arith, a, b, d, before)

abbrev Up : PlanOf → Edge → Type 0
Up plan edge = GoesUp (op_at plan edge.from) (op_at plan edge.to)

op_goes_up : (variables : ℕ) (look : Marks) (plan : PlanOf) (operators : List Operator) (op : ℕ) → IsGoodPlan variables look plan operators
    → op < length plan.ops → Each (Up plan) (edges_in op 0 (get_or operators op no_operator).inputs)
op_goes_up variables look plan operators op good is_op = by_kind (good.stands op is_op).good
  where
    by_kind : GoodOp variables look (good.stands op is_op).block op (get_or operators op no_operator)
        → Each (Up plan) (edges_in op 0 (get_or operators op no_operator).inputs)
    by_kind (inl other) =
        each_in (Up plan) (λ source. IsPassed variables look (good.stands op is_op).block op source.from) op 0 (get_or operators op no_operator).inputs
        (λ source number passed none same. goes_up variables look plan operators op source.from good is_op passed.before same) other.1
    by_kind (inr both) =
        let e = a_phi (op_at plan op) (get_or operators op no_operator) (good.stands op is_op).is.phi_is both.0 in
        each_in (Up plan) (λ source. Unit {0}) op 0 (get_or operators op no_operator).inputs
        (λ source number passed none same. absurd (not_both (is_phi (op_at plan op)) e none)) (each_any (λ source. Unit {0}) (get_or operators op no_operator).inputs (λ source. tt))
      where
        not_both : (b : Bool) → b ≡ true → b ≡ false → ⊥
        not_both b is not = cc

pub edges_go_up : (variables : ℕ) (look : Marks) (plan : PlanOf) (operators : List Operator) → IsGoodPlan variables look plan operators → EdgesGoUp plan
edges_go_up variables look plan operators good = λ edge below.
    each_all (Up plan) plan.edges
    (subst (λ (edges : List Edge). Each (Up plan) edges) (sym good.edges)
    (each_edge (Up plan) 0 operators (λ k below.
    let e : k ≡ 0 + k = omega arith in
    subst (λ (n : ℕ). Each (Up plan) (edges_in n 0 (get_or operators k no_operator).inputs)) e
    (op_goes_up variables look plan operators k good (let f = good.many in omega (arith, f, below)))))) edge no_edge below

-- ---- what is passed on a path

pub record Visited (plan : PlanOf) (path : List ℕ) (place op : ℕ) : Type 0 where
  pub at : ℕ
  pub before : at < place
  pub is : slice_index path at ≡ home plan op

pub record SomeVisited (plan : PlanOf) (path : List ℕ) (place : ℕ) (wanted : List ℕ) : Type 0 where
  pub op : ℕ
  pub listed : Among wanted op
  pub visited : Visited plan path place op

abbrev Entered : ℕ → Marks → PlanOf → List ℕ → ℕ → Type 0
Entered variables look plan path place =
    (variable : ℕ) → variable < variables
    → ((look (slice_index path place)).entry variable ≡ []) ⊎ SomeVisited plan path place ((look (slice_index path place)).entry variable)

later_visited : (plan : PlanOf) (path : List ℕ) (place more op : ℕ) → place ≤ more → Visited plan path place op → Visited plan path more op
later_visited plan path place more op le visited = record { at = visited.at; before = (let b = visited.before in omega (arith, b, le)); is = visited.is }

-- what was passed at a number of the block at a place
passed_visited : (variables : ℕ) (look : Marks) (plan : PlanOf) (operators : List Operator) (path : List ℕ) (place op until : ℕ)
    → IsGoodPlan variables look plan operators → slice_index path place < length plan.blocks → until ≤ length plan.ops
    → ((other : ℕ) → slice_index path place < other → other < length plan.blocks → until ≤ (look other).start)
    → Entered variables look plan path place → IsPassed variables look (slice_index path place) until op → Visited plan path (suc place) op
passed_visited variables look plan operators path place op until good is_block in_ops bound entered passed = by_how passed.how
  where
    only_one : (wanted : List ℕ) → wanted ≡ op ∷ [] → SomeVisited plan path place wanted → Visited plan path place op
    only_one wanted is some = by_listed (subst (λ (w : List ℕ). Among w some.op) is some.listed)
      where
        by_listed : Among (op ∷ []) some.op → Visited plan path place op
        by_listed (inl same) = subst (λ (o : ℕ). Visited plan path place o) (sym same) some.visited
        by_listed (inr none) = absurd none

    by_entry : (entry : IsEntered variables (look (slice_index path place)).entry op)
        → ((look (slice_index path place)).entry entry.variable ≡ []) ⊎ SomeVisited plan path place ((look (slice_index path place)).entry entry.variable)
        → Visited plan path (suc place) op
    by_entry entry (inl none) = absurd (no_empty (sym entry.is ∙ none))
      where
        no_empty : op ∷ [] ≡ [] → ⊥
        no_empty same = cc
    by_entry entry (inr some) =
        later_visited plan path place (suc place) op (omega arith) (only_one ((look (slice_index path place)).entry entry.variable) entry.is some)

    by_how : IsEntered variables (look (slice_index path place)).entry op ⊎ ((look (slice_index path place)).start ≤ op) → Visited plan path (suc place) op
    by_how (inl entry) = by_entry entry (entered entry.variable entry.below)
    by_how (inr from) = record {
      at = place;
      before = omega arith;
      is = sym (home_is variables look plan operators (slice_index path place) op good is_block until in_ops bound from passed.before);
    }

-- the next place
next_entered : (variables : ℕ) (look : Marks) (plan : PlanOf) (operators : List Operator) (path : List ℕ) (place : ℕ) → IsGoodPlan variables look plan operators
    → Contains (next_of (block_at plan (slice_index path place)).leave) (slice_index path (suc place)) → Entered variables look plan path place
    → Entered variables look plan path (suc place)
next_entered variables look plan operators path place good leads entered = by_order (cases_lt (slice_index path place) (length plan.blocks))
  where
    by_order : (slice_index path place < length plan.blocks) ⊎ (length plan.blocks ≤ slice_index path place) → Entered variables look plan path (suc place)
    by_order (inl is_block) = λ variable below. by_lead variable (each_contains (Leads variables look (slice_index path place) left.until)
        (next_of (block_at plan (slice_index path place)).leave) (slice_index path (suc place)) left.leads leads variable below)
      where
        left : Leaves variables look (slice_index path place) (length plan.blocks) (length plan.ops) (block_at plan (slice_index path place))
        left = good.leaves (slice_index path place) is_block

        by_lead : (variable : ℕ)
            → ((look (slice_index path (suc place))).entry variable ≡ [])
            ⊎ Offers variables look (slice_index path place) left.until ((look (slice_index path (suc place))).entry variable)
            → ((look (slice_index path (suc place))).entry variable ≡ []) ⊎ SomeVisited plan path (suc place) ((look (slice_index path (suc place))).entry variable)
        by_lead variable (inl none) = inl none
        by_lead variable (inr offers) = inr (record {
          op = offers.operator;
          listed = offers.listed;
          visited = passed_visited variables look plan operators path place offers.operator left.until good is_block left.within left.bound entered offers.passed;
        })
    by_order (inr outside) = absurd (nothing_next outside)
      where
        past : {A : Type 0} (xs : List A) (k : ℕ) (d : A) → length xs ≤ k → get_or xs k d ≡ d
        past [] k d le = refl
        past (x ∷ xs) zero d le = absurd (omega arith)
        past (x ∷ xs) (suc k) d le = past xs k d (omega arith)

        nothing_next : length plan.blocks ≤ slice_index path place → ⊥
        nothing_next le =
            let e = past plan.blocks (slice_index path place) no_block le in
            let found = subst (λ (b : PlanBlock). Contains (next_of b.leave) (slice_index path (suc place))) e leads in
            (let lt = found.1 in omega (arith, lt))

entered_at : (variables : ℕ) (look : Marks) (plan : PlanOf) (operators : List Operator) (path : List ℕ) → IsGoodPlan variables look plan operators → IsPath plan path
    → (place : ℕ) → place < length path → Entered variables look plan path place
entered_at variables look plan operators path good is_path zero below =
    λ variable lt. inl (ap (λ (b : ℕ). (look b).entry variable) is_path.first ∙ good.begin variable)
entered_at variables look plan operators path good is_path (suc place) below =
    next_entered variables look plan operators path place good (is_path.leads place below)
    (entered_at variables look plan operators path good is_path place (omega arith))

-- ---- places to choose

last_some : (path operands : List ℕ) (bound at : ℕ) → at < bound → is_some (operand_of operands (slice_index path at)) ≡ true
    → is_some (last_below path operands bound) ≡ true
unfolding last_below
last_some path operands zero at below some = absurd (omega arith)
last_some path operands (suc bound) at below some =
    by_here (operand_of operands (slice_index path bound)) refl (cases_lt at bound) (λ lt. last_some path operands bound at lt some)
  where
    by_here : (here : Option ℕ) → operand_of operands (slice_index path bound) ≡ here → (at < bound) ⊎ (bound ≤ at)
        → (at < bound → is_some (last_below path operands bound) ≡ true) → is_some (found_or here bound (last_below path operands bound)) ≡ true
    by_here (Some operand) here order rest = refl
    by_here None here (inl lt) rest = rest lt
    by_here None here (inr ge) rest =
        let e : at ≡ bound = omega arith in
        absurd (nothing (operand_of operands (slice_index path bound)) here (ap (λ (k : ℕ). is_some (operand_of operands (slice_index path k))) (sym e) ∙ some))
      where
        nothing : (o : Option ℕ) → o ≡ None → is_some o ≡ true → ⊥
        nothing None is yes_it_is = cc
        nothing (Some x) is yes_it_is = cc

one_operand : (block operand : ℕ) → block ≡ operand → is_some (operand_of (operand ∷ []) block) ≡ true
one_operand block operand same = let e : eqb block operand ≡ true = grind (arith, nat_tests) in rw e refl

two_operands : (block one other : ℕ) → (block ≡ one) ⊎ (block ≡ other) → is_some (operand_of (one ∷ other ∷ []) block) ≡ true
two_operands block one other (inl same) = let e : eqb block one ≡ true = grind (arith, nat_tests) in rw e refl
two_operands block one other (inr same) = let e : eqb block other ≡ true = grind (arith, nat_tests) in by_first (eqb block one) e
  where
    by_first : (first : Bool) → eqb block other ≡ true → is_some {T = ℕ} (cond first (Some 0) (cond (eqb block other) (Some 1) None)) ≡ true
    by_first true e = refl
    by_first false e = rw e refl

phi_chooses : (variables : ℕ) (look : Marks) (plan : PlanOf) (path : List ℕ) (place block : ℕ) (operator : Operator) → (phi : GoodPhi variables look block operator)
    → slice_index path place ≡ block → Entered variables look plan path place
    → is_some (last_below path (home plan phi.one ∷ home plan phi.other ∷ []) place) ≡ true
phi_chooses variables look plan path place block operator phi here entered = by_entry (entered phi.variable phi.below)
  where
    entry : (look (slice_index path place)).entry phi.variable ≡ phi.one ∷ phi.other ∷ []
    entry = ap (λ (b : ℕ). (look b).entry phi.variable) here ∙ phi.entry

    no_empty : phi.one ∷ phi.other ∷ [] ≡ [] → ⊥
    no_empty same = cc

    by_listed : (op : ℕ) → Visited plan path place op → Among (phi.one ∷ phi.other ∷ []) op
        → is_some (last_below path (home plan phi.one ∷ home plan phi.other ∷ []) place) ≡ true
    by_listed op visited (inl same) =
        last_some path (home plan phi.one ∷ home plan phi.other ∷ []) place visited.at visited.before
        (two_operands (slice_index path visited.at) (home plan phi.one) (home plan phi.other) (inl (visited.is ∙ ap (home plan) (sym same))))
    by_listed op visited (inr (inl same)) =
        last_some path (home plan phi.one ∷ home plan phi.other ∷ []) place visited.at visited.before
        (two_operands (slice_index path visited.at) (home plan phi.one) (home plan phi.other) (inr (visited.is ∙ ap (home plan) (sym same))))
    by_listed op visited (inr (inr none)) = absurd none

    by_entry : ((look (slice_index path place)).entry phi.variable ≡ []) ⊎ SomeVisited plan path place ((look (slice_index path place)).entry phi.variable)
        → is_some (last_below path (home plan phi.one ∷ home plan phi.other ∷ []) place) ≡ true
    by_entry (inl none) = absurd (no_empty (sym entry ∙ none))
    by_entry (inr some) = by_listed some.op some.visited (subst (λ (w : List ℕ). Among w some.op) entry some.listed)

source_chooses : (plan : PlanOf) (path : List ℕ) (place op : ℕ) → Visited plan path (suc place) op → IsSome (chosen_operand path (home plan op ∷ []) place false)
source_chooses plan path place op visited =
    last_some path (home plan op ∷ []) (suc place) visited.at visited.before (one_operand (slice_index path visited.at) (home plan op) visited.is)

each_block : (P : ℕ → Type 0) (Q : Source → Type 0) (f : Source → ℕ) (sources : List Source) → ((source : Source) → Q source → P (f source)) → Each Q sources
    → Each P (map f sources)
unfolding Each
each_block P Q f [] change each = tt
each_block P Q f (source ∷ sources) change each = (change source each.0, each_block P Q f sources change each.1)

by_test : (b : Bool) (P Q : Type 0) → b ≡ true → P → MatchBool b P Q
by_test true P Q is holds = holds
by_test false P Q is holds = absurd cc

by_no_test : (b : Bool) (P Q : Type 0) → b ≡ false → Q → MatchBool b P Q
by_no_test true P Q is holds = absurd cc
by_no_test false P Q is holds = holds

op_chooses : (variables : ℕ) (look : Marks) (plan : PlanOf) (operators : List Operator) (path : List ℕ) (place op : ℕ) → IsGoodPlan variables look plan operators
    → IsPath plan path → place < length path → op < length plan.ops → (op_at plan op).block ≡ slice_index path place → Chooses plan path place op
op_chooses variables look plan operators path place op good is_path below is_op here = by_kind (good.stands op is_op).good
  where
    entered : Entered variables look plan path place
    entered = entered_at variables look plan operators path good is_path place below

    at_block : slice_index path place ≡ (good.stands op is_op).block
    at_block = sym here ∙ (good.stands op is_op).is.block_is

    is_block : slice_index path place < length plan.blocks
    is_block = let e = (good.stands op is_op).high in omega (arith, e, at_block)

    bound : (other : ℕ) → slice_index path place < other → other < length plan.blocks → op ≤ (look other).start
    bound other above under = let e = (good.stands op is_op).later other (omega (arith, at_block, above)) under in omega (arith, e)

    by_kind : GoodOp variables look (good.stands op is_op).block op (get_or operators op no_operator) → Chooses plan path place op
    by_kind (inl plain) =
        by_no_test (is_phi (op_at plan op)) (IsSome (chosen_operand path (source_blocks plan op) place true))
        (All (λ block. IsSome (chosen_operand path (block ∷ []) place false)) (source_blocks plan op))
        (no_phi (op_at plan op) (get_or operators op no_operator) (good.stands op is_op).is.phi_is plain.0)
        (subst (λ (bs : List ℕ). All (λ block. IsSome (chosen_operand path (block ∷ []) place false)) bs) (sym (sources_are variables look plan operators op good is_op))
        (each_all (λ block. IsSome (chosen_operand path (block ∷ []) place false)) (map (λ source. home plan source.from) (get_or operators op no_operator).inputs)
        (each_block (λ block. IsSome (chosen_operand path (block ∷ []) place false)) (λ source. IsPassed variables look (good.stands op is_op).block op source.from)
        (λ source. home plan source.from) (get_or operators op no_operator).inputs
        (λ source passed. source_chooses plan path place source.from
        (passed_visited variables look plan operators path place source.from op good is_block (omega arith) bound entered
        (subst (λ (b : ℕ). IsPassed variables look b op source.from) (sym at_block) passed)))
        plain.1)))
    by_kind (inr both) =
        by_test (is_phi (op_at plan op)) (IsSome (chosen_operand path (source_blocks plan op) place true))
        (All (λ block. IsSome (chosen_operand path (block ∷ []) place false)) (source_blocks plan op))
        (a_phi (op_at plan op) (get_or operators op no_operator) (good.stands op is_op).is.phi_is both.0)
        (subst (λ (bs : List ℕ). IsSome (chosen_operand path bs place true)) (sym (phi_blocks variables look plan operators op (good.stands op is_op).block good is_op both.1))
        (phi_chooses variables look plan path place (good.stands op is_op).block (get_or operators op no_operator) both.1 at_block entered))

pub places_to_choose : (variables : ℕ) (look : Marks) (plan : PlanOf) (operators : List Operator) → IsGoodPlan variables look plan operators → PlacesToChoose plan
places_to_choose variables look plan operators good =
    λ path is_path place below op is_op here. op_chooses variables look plan operators path place op good is_path below is_op here
