-- What a write writes in partition 0 is what it writes of the whole bags.
use Rattle.std.proofs.Common.{◌≡◌, ◌∙◌, ◌<◌, ℕ, zero, suc, List, [], ◌∷◌, map, drop, ap, sym, subst, refl, Bool, true, false, cond, Option, None}
use Rattle.std.specs.Prelude.{option_and_then, option_map}
use Rattle.std.specs.Ordering.{is_le}
use Rattle.mit_rows.specs.Bags.{BagOf, RowOf, all_rows, bag_of, bag_sum, insert_row}
use Rattle.mit_rows.specs.Order.{row_cmp}
use Rattle.mit_rows.specs.declared.value.Value.{Value}
use Rattle.mit_files.specs.Files.{FileMap}
use Rattle.mit_expr.specs.Values.{value_in}
use Rattle.mit_expr.specs.declared.expr.Expr.{Expr}
use Rattle.mit_ops.specs.Kinds.{bag_inputs_of}
use Rattle.mit_ops.specs.Operators.{captured, legal_in, name_written, part_apply, scalar_in, whole}
use Rattle.mit_ops.specs.Parts.{CutInto, SameBags, routed_lists}
use Rattle.mit_ops.specs.declared.kinds.OpSpec.{OpSpec}
use Rattle.mit_ops.specs.declared.kinds.OpSpec.TheVariants as op
use Rattle.mit_plan.specs.Explained.{Explained}
use Rattle.mit_plan.specs.Held.{History, Job, as_part, held, op_of}
use Rattle.mit_plan.specs.Meant.{pair, write_at, write_of}
use Rattle.mit_plan.specs.Plans.{op_at}
use Rattle.mit_plan.specs.Sums.{TakesBags}
use Rattle.mit_plan_laws.proofs.Choices.{PathLaws}
use Rattle.mit_plan_laws.proofs.Sums.{OpLaws, all_alike, answer_of, bags_are, cuts_fit, cuts_of, held_in_row, inputs_there, lists_are, lists_in, row_is, same_bags}

-- ---- captured scalars do not depend on the order of rows

-- rows that are not one
none_of_two : (first second : RowOf) (later : List RowOf) → scalar_in (first ∷ second ∷ later) ≡ None
none_of_two [] second later = refl
none_of_two (value ∷ []) second later = refl
none_of_two (value ∷ other ∷ more) second later = refl

some_row : (row : RowOf) (rows : List RowOf) → (first : RowOf) × (later : List RowOf) × (insert_row row rows ≡ first ∷ later)
unfolding insert_row
some_row row [] = (row, [], refl)
some_row row (next ∷ rest) = by_test (is_le (row_cmp row next))
  where
    by_test : (low : Bool) → (first : RowOf) × (later : List RowOf) × (cond low (row ∷ next ∷ rest) (next ∷ insert_row row rest) ≡ first ∷ later)
    by_test true = (row, next ∷ rest, refl)
    by_test false = (next, insert_row row rest, refl)

none_of_more : (row next : RowOf) (rest : List RowOf) → scalar_in (insert_row row (next ∷ rest)) ≡ None
unfolding insert_row
none_of_more row next rest = by_test (is_le (row_cmp row next)) (some_row row rest)
  where
    by_test : (low : Bool) → (first : RowOf) × (later : List RowOf) × (insert_row row rest ≡ first ∷ later) → scalar_in (cond low (row ∷ next ∷ rest) (next ∷ insert_row row rest)) ≡ None
    by_test true some = none_of_two row next rest
    by_test false some = ap (λ (rows : List RowOf). scalar_in (next ∷ rows)) some.2 ∙ none_of_two next some.0 some.1

same_scalar : (rows : List RowOf) → scalar_in (bag_of rows) ≡ scalar_in rows
unfolding bag_of insert_row
same_scalar [] = refl
same_scalar (row ∷ []) = refl
same_scalar (row ∷ next ∷ rest) =
    let some = some_row next (bag_of rest) in
    ap (λ (rows : List RowOf). scalar_in (insert_row row rows)) some.2 ∙ none_of_more row some.0 some.1 ∙ sym (none_of_two row next rest)

same_captured : (lists : List (List RowOf)) → captured (map bag_of lists) ≡ captured lists
unfolding captured
same_captured [] = refl
same_captured (rows ∷ later) =
    ap (λ (one : Option Value). option_and_then (λ value. option_map (λ values. value ∷ values) (captured (map bag_of later))) one) (same_scalar rows)
    ∙ ap (λ (all : Option (List Value)). option_and_then (λ value. option_map (λ values. value ∷ values) all) (scalar_in rows)) (same_captured later)

drop_map : (n : ℕ) (lists : List (List RowOf)) → drop n (map bag_of lists) ≡ map bag_of (drop n lists)
drop_map zero lists = refl
drop_map (suc n) [] = refl
drop_map (suc n) (rows ∷ lists) = drop_map n lists

pub same_captures : (n : ℕ) (inputs others : List (List RowOf)) → SameBags inputs others → captured (drop n inputs) ≡ captured (drop n others)
same_captures n inputs others same =
    sym (same_captured (drop n inputs)) ∙ ap captured (sym (drop_map n inputs) ∙ ap (drop n) same ∙ drop_map n others) ∙ same_captured (drop n others)

-- ---- the write

-- an operator writes under one name, whatever the order of rows
abbrev NamesAlike : OpSpec → Type 0
NamesAlike spec = (inputs others : List (List RowOf)) → SameBags inputs others → name_written spec inputs ≡ name_written spec others

names_alike : (name : Expr) → NamesAlike (op.Write name)
names_alike name inputs others same =
    ap (λ (captures : Option (List Value)). option_and_then (λ captures. legal_in (value_in [] captures name)) captures) (same_captures (bag_inputs_of (op.Write name)) inputs others same)

-- in partition 0 it has the whole bag and its name
abbrev pub Gathers : OpSpec → (ℕ → ℕ) → ℕ → List (List (List RowOf)) → FileMap → Type 0
Gathers spec columns parts cuts files = let lists = routed_lists spec columns parts 0 cuts in
    (part_apply spec 0 parts lists files ≡ whole spec (map all_rows cuts) files) × (name_written spec lists ≡ name_written spec (map all_rows cuts))

write_by : PathLaws → OpLaws → (job : Job) (history : History) (place index : ℕ) (columns : ℕ → ℕ) (bags : List BagOf) → Explained job history → 0 < job.partitions → TakesBags job history place index columns bags
    → let op = op_of job.plan history.path place index in let spec = (op_at job.plan op).spec in
    NamesAlike spec → Gathers spec columns job.partitions (cuts_of job history op place) job.files
    → write_at job history (pair place index) ≡ write_of (name_written spec bags) (as_part (whole spec bags job.files))
write_by paths laws job history place index columns bags explained some takes names gathers =
    let op = op_of job.plan history.path place index in
    let spec = (op_at job.plan op).spec in
    let inputs = inputs_there paths job history op place columns bags takes.routed takes.takes in
    let cuts = cuts_of job history op place in
    let given = bags_are job history op place columns bags inputs takes.takes in
    let like = all_alike laws cuts in
    let name = names (lists_in job history op place 0 columns) (routed_lists spec columns job.partitions 0 cuts) (same_bags laws job history op place 0 columns)
    ∙ gathers.1 ∙ names (map all_rows cuts) (map bag_sum cuts) like ∙ ap (name_written spec) (sym given) in
    let part = held_in_row job history place index (λ partition. as_part (answer_of job history op place columns partition)) 0 (row_is paths laws job history place index columns bags explained takes) some
    ∙ ap as_part (gathers.0 ∙ laws.order spec (map all_rows cuts) (map bag_sum cuts) job.files like ∙ ap (λ (inputs : List BagOf). whole spec inputs job.files) (sym given)) in
    ap (λ (lists : Option (List BagOf)). write_of (option_and_then (name_written spec) lists) (held history place index 0)) (lists_are laws job history op place 0 columns bags some inputs)
    ∙ ap (λ (one : Option (List ℕ)). write_of one (held history place index 0)) name
    ∙ ap (write_of (name_written spec bags)) part

pub write_is : PathLaws → OpLaws → ((name : Expr) (columns : ℕ → ℕ) (parts : ℕ) (cuts : List (List (List RowOf))) (files : FileMap) → 0 < parts → CutInto parts cuts → Gathers (op.Write name) columns parts cuts files)
    → (job : Job) (history : History) (place index : ℕ) (columns : ℕ → ℕ) (bags : List BagOf) (name : Expr) → Explained job history → 0 < job.partitions → TakesBags job history place index columns bags
    → (op_at job.plan (op_of job.plan history.path place index)).spec ≡ op.Write name
    → write_at job history (pair place index) ≡ write_of (name_written (op.Write name) bags) (as_part (whole (op.Write name) bags job.files))
write_is paths laws gathers job history place index columns bags name explained some takes is =
    let op_here = op_of job.plan history.path place index in
    let inputs = inputs_there paths job history op_here place columns bags takes.routed takes.takes in
    let cuts = cuts_of job history op_here place in
    let fit = cuts_fit job history op_here place columns bags inputs in
    write_by paths laws job history place index columns bags explained some takes
    (subst NamesAlike (sym is) (names_alike name))
    (subst (λ (spec : OpSpec). Gathers spec columns job.partitions cuts job.files) (sym is) (gathers name columns job.partitions cuts job.files some fit))
    ∙ ap (λ (spec : OpSpec). write_of (name_written spec bags) (as_part (whole spec bags job.files))) is
