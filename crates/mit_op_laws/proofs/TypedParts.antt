-- What operators give has their results' columns.
use Rattle.std.proofs.Common.{◌≡◌, ◌≢◌, ℕ, List, drop, Some, Ok, subst}
use Rattle.std.proofs.lemmas.List.Elements.{All-nil}
use Rattle.mit_rows.specs.Bags.{RowOf}
use Rattle.mit_rows.specs.declared.value.ColType.{ColType}
use Rattle.mit_rows.specs.declared.value.Value.{Value}
use Rattle.mit_files.specs.Files.{FileMap}
use Rattle.mit_ops.specs.Forms.{part_answer, whole_answer}
use Rattle.mit_ops.specs.Kinds.{bag_inputs_of, kind_of}
use Rattle.mit_ops.specs.Operators.{bags_in, captures_among, form_of, part_apply, whole}
use Rattle.mit_ops.specs.Parts.{FitsAs, HaveColumns}
use Rattle.mit_ops.specs.declared.kinds.OpSpec.{OpSpec}
use Rattle.mit_ops.specs.declared.types.VarType.{VarType}
use Rattle.mit_op_laws.proofs.TypedAnswers.{Gives, Moves, part_gives, whole_gives}
use Rattle.mit_op_laws.proofs.TypedCaptures.{if_captured_is, captured_typed, fits_parts, fits_result}
use Rattle.mit_op_laws.proofs.TypedOperators.{Good, form_gives}
use Rattle.mit_op_laws.proofs.TypedRows.{Of, Typing}

-- the form of an operator that fits gives rows of its result's columns
fits_good : Typing → (spec : OpSpec) (bags : List VarType) (captures : List ColType) (type : VarType) (inputs : List (List RowOf)) (files : FileMap) (values : List Value)
    → FitsAs spec bags captures inputs type → kind_of spec ≢ 14 → captures_among spec inputs ≡ Some values → Good spec files values (bags_in spec inputs) type
fits_good typing spec bags captures type inputs files values fits other e =
    let have = fits_parts spec bags captures inputs type fits in
    form_gives typing spec bags captures type values (bags_in spec inputs) files fits.count other (fits_result spec bags captures inputs type fits)
    (captured_typed captures (drop (bag_inputs_of spec) inputs) values have.1 e) have.0

pub part_columns : Moves → Typing → (spec : OpSpec) (bags : List VarType) (captures : List ColType) (type : VarType) (part parts : ℕ) (inputs : List (List RowOf)) (files : FileMap)
    (rows : List RowOf) → FitsAs spec bags captures inputs type → kind_of spec ≢ 14 → part_apply spec part parts inputs files ≡ Ok rows → HaveColumns type.cols rows
part_columns moves typing spec bags captures type part parts inputs files rows fits other is =
    subst (Gives (Of type.cols)) is (if_captured_is (Gives (Of type.cols)) (captures_among spec inputs) (λ values. part_answer (form_of spec files values) parts part (bags_in spec inputs)) (λ e. All-nil (Of type.cols))
    (λ values e. part_gives moves (Of type.cols) (form_of spec files values) parts part (bags_in spec inputs) (fits_good typing spec bags captures type inputs files values fits other e)))

pub whole_columns : Moves → Typing → (spec : OpSpec) (bags : List VarType) (captures : List ColType) (type : VarType) (inputs : List (List RowOf)) (files : FileMap)
    (rows : List RowOf) → FitsAs spec bags captures inputs type → kind_of spec ≢ 14 → whole spec inputs files ≡ Ok rows → HaveColumns type.cols rows
whole_columns moves typing spec bags captures type inputs files rows fits other is =
    subst (Gives (Of type.cols)) is (if_captured_is (Gives (Of type.cols)) (captures_among spec inputs) (λ values. whole_answer (form_of spec files values) (bags_in spec inputs)) (λ e. All-nil (Of type.cols))
    (λ values e. whole_gives moves (Of type.cols) (form_of spec files values) (bags_in spec inputs) (fits_good typing spec bags captures type inputs files values fits other e)))
