-- Histories computed place by place: what the worked plans need.
use Rattle.std.proofs.Common.{◌≡◌, ◌∙◌, ℕ, suc, List, [], ◌∷◌, ◌++◌, length, map, ap, sym, refl, Some}
use Rattle.std.specs.List.{range_with_len}
use Rattle.mit_rows.specs.Bags.{bag_of, insert_row}
use Rattle.mit_rows.specs.declared.value.Value.{Value}
use Rattle.mit_expr.specs.Values.{ValueOrFault, gives}
use Rattle.mit_ops.specs.Answers.{at_row, settled}
use Rattle.mit_ops.specs.EachRow.{given}
use Rattle.mit_ops.specs.Operators.{one_value}
use Rattle.mit_ops.specs.declared.kinds.OpSpec.{OpSpec}
use Rattle.mit_ops.specs.declared.leave.Leave.{Leave}
use Rattle.mit_ops.specs.declared.routes.Route.{Route}
use Rattle.mit_plan.specs.Held.{History, Job, Part, Run, as_part, follows, grown_run, ok, part, rows, run, with_place}
use Rattle.mit_plan.specs.Plans.{block_at}
use Rattle.mit_plan.specs.declared.plan.Edge.{Edge}
use Rattle.mit_plan.specs.declared.plan.PlanBlock.{PlanBlock}
use Rattle.mit_plan.specs.declared.plan.PlanOp.{PlanOp}

-- ---- plans

abbrev pub op : ℕ → ℕ → ℕ → OpSpec → ℕ → PlanOp
op block index statement spec phi = record { block = block; index = index; statement = statement; spec = spec; phi = phi }

abbrev pub edge : ℕ → ℕ → ℕ → Route → Edge
edge from to input route = record { from = from; to = to; input = input; route = route }

abbrev pub block_of : ℕ → ℕ → Leave → PlanBlock
block_of first count leave = record { first = first; count = count; leave = leave }

-- ---- rows

-- in two partitions a scalar stands in the first one
abbrev pub scalar : Value → List Part
scalar value = ok ((value ∷ []) ∷ []) ∷ ok [] ∷ []

-- what an expression with this value makes
pub value_row : (found : ValueOrFault) (value : Value) → found ≡ gives value → as_part (settled (at_row [] (given found one_value))) ∷ ok [] ∷ [] ≡ scalar value
unfolding bag_of insert_row
value_row found value is = ap (λ (v : ValueOrFault). as_part (settled (at_row [] (given v one_value))) ∷ ok [] ∷ []) is

-- the row of an operator behind those of the operators before it
abbrev pub next : Job → History → ℕ → List (List Part) → List Part
next job history block before = map (part job (with_place history block before) (length history.path) (length before)) (range_with_len 0 job.partitions)

next_row : (job : Job) (history : History) (block index : ℕ) (before : List (List Part)) (row : List Part) → length before ≡ index → rows job history block index ≡ before
    → next job history block before ≡ row → rows job history block (suc index) ≡ before ++ row ∷ []
unfolding rows
next_row job history block index before row size is made =
    ap (λ (some : List (List Part)). some ++ map (part job (with_place history block some) (length history.path) index) (range_with_len 0 job.partitions) ∷ []) is
    ∙ ap (λ (k : ℕ). before ++ map (part job (with_place history block before) (length history.path) k) (range_with_len 0 job.partitions) ∷ []) (sym size)
    ∙ ap (λ (one : List Part). before ++ one ∷ []) made

-- blocks of one, two, three and four operators
pub one_row : (job : Job) (history : History) (block : ℕ) (a : List Part) → next job history block [] ≡ a → rows job history block 1 ≡ a ∷ []
unfolding rows
one_row job history block a is = next_row job history block 0 [] a refl refl is

pub two_rows : (job : Job) (history : History) (block : ℕ) (a b : List Part) → next job history block [] ≡ a → next job history block (a ∷ []) ≡ b → rows job history block 2 ≡ a ∷ b ∷ []
two_rows job history block a b is more = next_row job history block 1 (a ∷ []) b refl (one_row job history block a is) more

pub three_rows : (job : Job) (history : History) (block : ℕ) (a b c : List Part) → next job history block [] ≡ a → next job history block (a ∷ []) ≡ b → next job history block (a ∷ b ∷ []) ≡ c
    → rows job history block 3 ≡ a ∷ b ∷ c ∷ []
three_rows job history block a b c is more last = next_row job history block 2 (a ∷ b ∷ []) c refl (two_rows job history block a b is more) last

pub four_rows : (job : Job) (history : History) (block : ℕ) (a b c d : List Part) → next job history block [] ≡ a → next job history block (a ∷ []) ≡ b → next job history block (a ∷ b ∷ []) ≡ c
    → next job history block (a ∷ b ∷ c ∷ []) ≡ d → rows job history block 4 ≡ a ∷ b ∷ c ∷ d ∷ []
four_rows job history block a b c d is more later last = next_row job history block 3 (a ∷ b ∷ c ∷ []) d refl (three_rows job history block a b c is more later) last

-- ---- places

pub next_place : (job : Job) (places : ℕ) (history : History) (block : ℕ) (made : List (List Part)) → run job places ≡ record { history = history; next = Some block }
    → rows job history block (block_at job.plan block).count ≡ made
    → run job (suc places) ≡ record { history = with_place history block made; next = follows job (with_place history block made) (length history.path) (block_at job.plan block) (block_at job.plan block).leave }
unfolding run
next_place job places history block made is all =
    ap (λ (state : Run). grown_run job state.history state.next) is
    ∙ ap (λ (some : List (List Part)). record { history = with_place history block some; next = follows job (with_place history block some) (length history.path) (block_at job.plan block) (block_at job.plan block).leave }) all

abbrev pub start : History
start = record { path = []; parts = [] }
