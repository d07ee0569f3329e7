-- Only a read asks for files.
use Rattle.std.proofs.Common.{◌≡◌, ◌≢◌, ℕ, List, refl}
use Rattle.mit_rows.specs.Bags.{RowOf}
use Rattle.mit_rows.specs.declared.value.Value.{Value}
use Rattle.mit_files.specs.Files.{FileMap}
use Rattle.mit_ops.specs.Forms.{part_answer, whole_answer}
use Rattle.mit_ops.specs.Kinds.{kind_of}
use Rattle.mit_ops.specs.Operators.{bags_in, captures_among, form_of, if_captured, part_apply, whole}
use Rattle.mit_ops.specs.declared.kinds.OpSpec.{OpSpec}
use Rattle.mit_ops.specs.declared.kinds.OpSpec.TheVariants as op

form_same : (spec : OpSpec) (files others : FileMap) (captures : List Value) → kind_of spec ≢ 1 → form_of spec files captures ≡ form_of spec others captures
form_same (op.Scalar expr) files others captures other = refl
form_same (op.Read name types) files others captures other = absurd (other refl)
form_same (op.Map exprs) files others captures other = refl
form_same (op.Filter expr) files others captures other = refl
form_same (op.FlatMap flat) files others captures other = refl
form_same (op.Join left right) files others captures other = refl
form_same (op.Reduce keys agg) files others captures other = refl
form_same op.Union files others captures other = refl
form_same op.Distinct files others captures other = refl
form_same op.Only files others captures other = refl
form_same op.Count files others captures other = refl
form_same (op.Sum column) files others captures other = refl
form_same (op.MakeRow exprs) files others captures other = refl
form_same (op.Empty types) files others captures other = refl
form_same (op.Write name) files others captures other = refl
form_same op.Copy files others captures other = refl

pub part_without_files : (spec : OpSpec) (part parts : ℕ) (inputs : List (List RowOf)) (files others : FileMap) → kind_of spec ≢ 1
    → part_apply spec part parts inputs files ≡ part_apply spec part parts inputs others
part_without_files spec part parts inputs files others other =
    λ i. if_captured (captures_among spec inputs) (λ captures. part_answer (form_same spec files others captures other i) parts part (bags_in spec inputs))

pub whole_without_files : (spec : OpSpec) (inputs : List (List RowOf)) (files others : FileMap) → kind_of spec ≢ 1 → whole spec inputs files ≡ whole spec inputs others
whole_without_files spec inputs files others other =
    λ i. if_captured (captures_among spec inputs) (λ captures. whole_answer (form_same spec files others captures other i) (bags_in spec inputs))
