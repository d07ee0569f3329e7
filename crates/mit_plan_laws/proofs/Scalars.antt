-- What decides a scalar: its part in partition 0 is what it is of the whole bags, and the other parts are empty.
use Rattle.std.proofs.Common.{◌≡◌, ◌∙◌, ◌<◌, ℕ, zero, suc, List, [], ap, ap₂, sym, subst, refl, arith, Bool, true, false, cond, eqb, Option, Some, None, Ok, Err, append-nil}
use Rattle.std.proofs.lemmas.Bool.{ne_eqb}
use Rattle.mit_rows.specs.Bags.{BagOf, RowOf, bag_of}
use Rattle.mit_rows.specs.declared.value.Value.{Value}
use Rattle.mit_files.specs.Files.{FileMap}
use Rattle.mit_expr.specs.declared.expr.Expr.{Expr}
use Rattle.mit_ops.specs.Answers.{BagOrFault, both, settled}
use Rattle.mit_ops.specs.Operators.{captures_among, if_captured, part_apply, whole}
use Rattle.mit_ops.specs.Parts.{routed_lists, sum_parts}
use Rattle.mit_ops.specs.declared.kinds.OpSpec.{OpSpec}
use Rattle.mit_ops.specs.declared.kinds.OpSpec.TheVariants as op
use Rattle.mit_plan.specs.Explained.{Explained}
use Rattle.mit_plan.specs.Held.{History, Job, as_part, held, op_of}
use Rattle.mit_plan.specs.Plans.{op_at}
use Rattle.mit_plan.specs.Sums.{TakesBags}
use Rattle.mit_plan_laws.proofs.Choices.{PathLaws}
use Rattle.mit_plan_laws.proofs.Sums.{OpLaws, answer_of, answers_sum, bag_empty, cuts_of, held_in_row, row_is}

-- ---- one answer among empty ones

-- only partition 0 answers something, and its rows stand in order
record IsAlone (answer : ℕ → BagOrFault) : Type 0 where
  settles : settled (answer 0) ≡ answer 0
  empty : (partition : ℕ) → answer (suc partition) ≡ Ok []

with_nothing : (answer : BagOrFault) → both answer (Ok []) ≡ settled answer
with_nothing (Ok rows) = ap (λ (rows : List RowOf). Ok (bag_of rows)) (append-nil rows)
with_nothing (Err fault) = refl

after_nothing : (answer : BagOrFault) → both (Ok []) answer ≡ settled answer
after_nothing (Ok rows) = refl
after_nothing (Err fault) = refl

-- it is the sum
alone_sum : (answer : ℕ → BagOrFault) (parts : ℕ) → IsAlone answer → sum_parts answer (suc parts) ≡ answer 0
unfolding sum_parts
alone_sum answer zero alone = with_nothing (answer 0) ∙ alone.settles
alone_sum answer (suc parts) alone =
    ap₂ both (alone.empty parts) (alone_sum answer parts alone) ∙ after_nothing (answer 0) ∙ alone.settles

-- ---- a scalar's answers

settled_twice : OpLaws → (answer : BagOrFault) → settled (settled answer) ≡ settled answer
settled_twice laws (Ok rows) = ap (λ (rows : List RowOf). Ok rows) (sym (laws.sorted rows))
settled_twice laws (Err fault) = refl

settles_captured : OpLaws → (captures : Option (List Value)) (answer : List Value → BagOrFault)
    → settled (if_captured captures (λ captures. settled (answer captures))) ≡ if_captured captures (λ captures. settled (answer captures))
settles_captured laws None answer = ap (λ (rows : List RowOf). Ok rows) bag_empty
settles_captured laws (Some captures) answer = settled_twice laws (answer captures)

empty_later : (test : Bool) → test ≡ false → (captures : Option (List Value)) (answer : List Value → BagOrFault)
    → if_captured captures (λ captures. cond test (answer captures) (Ok [])) ≡ Ok []
empty_later true is captures answer = absurd cc
empty_later false is None answer = refl
empty_later false is (Some captures) answer = refl

-- the answers of an operator's partitions
abbrev answers : OpSpec → (ℕ → ℕ) → ℕ → List (List (List RowOf)) → FileMap → ℕ → BagOrFault
answers spec columns parts cuts files partition = part_apply spec partition parts (routed_lists spec columns parts partition cuts) files

scalar_alone : OpLaws → (expr : Expr) (columns : ℕ → ℕ) (parts : ℕ) (cuts : List (List (List RowOf))) (files : FileMap)
    → IsAlone (answers (op.Scalar expr) columns parts cuts files)
scalar_alone laws expr columns parts cuts files = record {
  settles = settles_captured laws (captures_among (op.Scalar expr) (routed_lists (op.Scalar expr) columns parts 0 cuts)) _;
  empty = λ partition. empty_later (eqb (suc partition) 0) (ne_eqb (suc partition) 0 (λ e. omega (arith, e)))
      (captures_among (op.Scalar expr) (routed_lists (op.Scalar expr) columns parts (suc partition) cuts)) _;
}

-- ---- in a history

zero_sum : (answer : ℕ → BagOrFault) (parts : ℕ) → 0 < parts → IsAlone answer → answer 0 ≡ sum_parts answer parts
zero_sum answer zero some alone = absurd (omega arith)
zero_sum answer (suc parts) some alone = sym (alone_sum answer parts alone)

pub scalar_is : PathLaws → OpLaws → (job : Job) (history : History) (place index : ℕ) (columns : ℕ → ℕ) (bags : List BagOf) (expr : Expr) → Explained job history → 0 < job.partitions
    → TakesBags job history place index columns bags → (op_at job.plan (op_of job.plan history.path place index)).spec ≡ op.Scalar expr
    → held history place index 0 ≡ as_part (whole (op.Scalar expr) bags job.files)
scalar_is paths laws job history place index columns bags expr explained some takes is =
    let op_here = op_of job.plan history.path place index in
    let answer = answer_of job history op_here place columns in
    let cuts = cuts_of job history op_here place in
    let alone = subst (λ (spec : OpSpec). IsAlone (answers spec columns job.partitions cuts job.files)) (sym is)
    (scalar_alone laws expr columns job.partitions cuts job.files) in
    held_in_row job history place index (λ partition. as_part (answer partition)) 0 (row_is paths laws job history place index columns bags explained takes) some
    ∙ ap as_part (zero_sum answer job.partitions some alone ∙ answers_sum paths laws job history place index columns bags some takes)
    ∙ ap (λ (spec : OpSpec). as_part (whole spec bags job.files)) is
