-- A longer run extends a shorter one, and each part is what the whole history makes of its pair.
use Rattle.std.proofs.Common.{◌≡◌, ◌∙◌, ◌<◌, ◌≤◌, ◌+◌, ℕ, zero, suc, List, [], ◌∷◌, ◌++◌, length, map, get_or, ap, sym, subst, refl, arith, Option, Some, None, inl, inr, append_assoc}
use Rattle.std.specs.Prelude.{◌⊎◌}
use Rattle.std.specs.List.{range_with_len}
use Rattle.std.proofs.lemmas.Bool.{cases_lt}
use Rattle.std.proofs.lemmas.List.{append-nil, get_or_append_left, get_or_push, length_push}
use Rattle.std.proofs.lemmas.List.FromFn.{get_or-map-range_with_len}
use Rattle.mit_plan.specs.Explained.{Explained, Extends}
use Rattle.mit_plan.specs.Held.{History, Job, Part, enters, grown_run, held, part, row_at, rows, run, void, with_place}
use Rattle.mit_plan.specs.Plans.{block_at}
use Rattle.mit_plan_laws.proofs.Choices.{PathLaws}
use Rattle.mit_plan_laws.proofs.Upward.{EdgesGoUp}
use Rattle.mit_plan_laws.proofs.SameParts.{SameBefore, map_same, same_part}

-- ---- longer histories

extends_itself : (one : History) → Extends one one
extends_itself one = record { more = []; made = []; path = sym (append-nil one.path); parts = sym (append-nil one.parts) }

extends_on : (one other last : History) → Extends one other → Extends other last → Extends one last
extends_on one other last first later = record {
  more = first.more ++ later.more;
  made = first.made ++ later.made;
  path = later.path ∙ ap (λ path. path ++ later.more) first.path ∙ append_assoc one.path first.more later.more;
  parts = later.parts ∙ ap (λ parts. parts ++ later.made) first.parts ∙ append_assoc one.parts first.made later.made;
}

-- what is on the path of the shorter one stays
pub path_stays : (one other : History) (place : ℕ) → Extends one other → place < length one.path → get_or one.path place 0 ≡ get_or other.path place 0
path_stays one other place longer below =
    sym (ap (λ path. get_or path place 0) longer.path ∙ get_or_append_left one.path longer.more 0 place below)

pub held_stays : (one other : History) (place index partition : ℕ) → Extends one other → place < length one.parts → held one place index partition ≡ held other place index partition
held_stays one other place index partition longer below =
    sym (ap (λ (parts : List (List (List Part))). get_or (get_or (get_or parts place []) index []) partition void) longer.parts
    ∙ ap (λ (row : List (List Part)). get_or (get_or row index []) partition void) (get_or_append_left one.parts longer.made [] place below))

-- ---- runs

-- there are as many rows of parts as places
goes_on_even : (job : Job) (history : History) (next : Option ℕ) → length history.parts ≡ length history.path → length (grown_run job history next).history.parts ≡ length (grown_run job history next).history.path
goes_on_even job history None even = even
goes_on_even job history (Some block) even =
    length_push history.parts (rows job history block (block_at job.plan block).count) ∙ ap (λ n. n + 1) even ∙ sym (length_push history.path block)

pub run_even : (job : Job) (places : ℕ) → length (run job places).history.parts ≡ length (run job places).history.path
unfolding run
run_even job zero = refl
run_even job (suc places) = goes_on_even job (run job places).history (run job places).next (run_even job places)

pub entered_extends : (history : History) (block : ℕ) (made : List (List Part)) → Extends history (with_place history block made)
entered_extends history block made = record { more = block ∷ []; made = made ∷ []; path = refl; parts = refl }

goes_on_extends : (job : Job) (history : History) (next : Option ℕ) → Extends history (grown_run job history next).history
goes_on_extends job history None = extends_itself history
goes_on_extends job history (Some block) = entered_extends history block (rows job history block (block_at job.plan block).count)

run_step : (job : Job) (places : ℕ) → Extends (run job places).history (run job (suc places)).history
unfolding run
run_step job places = goes_on_extends job (run job places).history (run job places).next

-- the history of more places extends that of fewer
pub run_extends : (job : Job) (places more : ℕ) → Extends (run job places).history (run job (more + places)).history
run_extends job places zero =
    let e : places ≡ 0 + places = omega arith in
    subst (λ (n : ℕ). Extends (run job places).history (run job n).history) e (extends_itself (run job places).history)
run_extends job places (suc more) =
    let e : suc (more + places) ≡ suc more + places = omega arith in
    subst (λ (n : ℕ). Extends (run job places).history (run job n).history) e
    (extends_on (run job places).history (run job (more + places)).history (run job (suc (more + places))).history (run_extends job places more) (run_step job (more + places)))

pub run_held : (job : Job) (places more place index partition : ℕ) → place < length (run job places).history.path
    → held (run job (more + places)).history place index partition ≡ held (run job places).history place index partition
run_held job places more place index partition below =
    sym (held_stays (run job places).history (run job (more + places)).history place index partition (run_extends job places more) (omega (arith, below, run_even job places)))

-- ---- the parts of the operators of a block

rows_size : (job : Job) (history : History) (block many : ℕ) → length (rows job history block many) ≡ many
unfolding rows
rows_size job history block zero = refl
rows_size job history block (suc many) =
    let before = rows job history block many in
    let size = rows_size job history block many in
    let pushed = length_push before (map (part job (with_place history block before) (length history.path) many) (range_with_len 0 job.partitions)) in
    omega (arith, size, pushed)

-- the parts of one operator, behind those before it
abbrev row_of : Job → History → ℕ → ℕ → List Part
row_of job history block index = map (part job (with_place history block (rows job history block index)) (length history.path) index) (range_with_len 0 job.partitions)

rows_at_by : (job : Job) (history : History) (block many index : ℕ) → (index < many → get_or (rows job history block many) index [] ≡ row_of job history block index) → index < suc many
    → (index < many) ⊎ (many ≤ index) → get_or (rows job history block many ++ row_of job history block many ∷ []) index [] ≡ row_of job history block index
rows_at_by job history block many index earlier below (inl before) =
    get_or_append_left (rows job history block many) (row_of job history block many ∷ []) [] index (omega (arith, before, rows_size job history block many))
    ∙ earlier before
rows_at_by job history block many index earlier below (inr after) =
    let e : many ≡ index = omega (arith, below, after) in
    get_or_push (rows job history block many) (row_of job history block many) [] index (rows_size job history block many ∙ e)
    ∙ ap (λ (k : ℕ). row_of job history block k) e

rows_at : (job : Job) (history : History) (block many index : ℕ) → index < many → get_or (rows job history block many) index [] ≡ row_of job history block index
unfolding rows
rows_at job history block zero index below = absurd (omega (arith, below))
rows_at job history block (suc many) index below = rows_at_by job history block many index (rows_at job history block many index) below (cases_lt index many)

-- ---- the equation of parts

-- the parts of the place that was entered last
held_last : (history : History) (block : ℕ) (made : List (List Part)) (place index partition : ℕ) → length history.parts ≡ place
    → held (with_place history block made) place index partition ≡ get_or (get_or made index []) partition void
held_last history block made place index partition size =
    ap (λ (one : List (List Part)). get_or (get_or one index []) partition void) (get_or_push history.parts made [] place size)

-- an operator that runs now sees what the whole place holds before it
before_last : (job : Job) (history : History) (block many index place : ℕ) → length history.parts ≡ length history.path → length history.path ≡ place → index < many
    → SameBefore (with_place history block (rows job history block index)) (with_place history block (rows job history block many)) place index
before_last job history block many index place even size below =
    let few = rows job history block index in
    let all = rows job history block many in
    record {
      path = λ at within. refl;
      choice = λ operands phi. refl;
      earlier = λ at x p less.
          let within : at < length history.parts = omega (arith, even, size, less) in
          sym (held_stays history (with_place history block few) at x p (entered_extends history block few) within)
          ∙ held_stays history (with_place history block all) at x p (entered_extends history block all) within;
      here = λ x p less.
          held_last history block few place x p (even ∙ size)
          ∙ ap (λ (cells : List Part). get_or cells p void) (rows_at job history block index x less ∙ sym (rows_at job history block many x (omega (arith, less, below))))
          ∙ sym (held_last history block all place x p (even ∙ size));
    }

pub row_stays : (one other : History) (place index : ℕ) → Extends one other → place < length one.parts → row_at one place index ≡ row_at other place index
row_stays one other place index longer below =
    sym (ap (λ (parts : List (List (List Part))). get_or (get_or parts place []) index []) longer.parts
    ∙ ap (λ (row : List (List Part)). get_or row index []) (get_or_append_left one.parts longer.made [] place below))

explained_here : PathLaws → (job : Job) (history : History) (block index : ℕ) → length history.parts ≡ length history.path → EdgesGoUp job.plan
    → index < (block_at job.plan block).count
    → row_at (enters job history block) (length history.path) index ≡ map (part job (enters job history block) (length history.path) index) (range_with_len 0 job.partitions)
explained_here laws job history block index even up stands =
    let place = length history.path in
    let few = rows job history block index in
    let all = rows job history block (block_at job.plan block).count in
    let own : get_or (history.path ++ block ∷ []) place 0 ≡ block = get_or_push history.path block 0 place refl in
    let goes_up = up (get_or (history.path ++ block ∷ []) place 0) index (subst (λ (b : ℕ). index < (block_at job.plan b).count) (sym own) stands) in
    ap (λ (one : List (List Part)). get_or one index []) (get_or_push history.parts all [] place even)
    ∙ rows_at job history block (block_at job.plan block).count index stands
    ∙ map_same (part job (with_place history block few) place index) (part job (with_place history block all) place index) (range_with_len 0 job.partitions)
    (λ p. same_part laws job (with_place history block few) (with_place history block all) place index p
    (before_last job history block (block_at job.plan block).count index place even refl stands) goes_up)

explained_enters : PathLaws → (job : Job) (history : History) (block : ℕ) → length history.parts ≡ length history.path → EdgesGoUp job.plan → Explained job history → Explained job (enters job history block)
explained_enters laws job history block even up explained place index below stands = by_order (cases_lt place (length history.path))
  where
    by_order : (place < length history.path) ⊎ (length history.path ≤ place) → row_at (enters job history block) place index ≡ map (part job (enters job history block) place index) (range_with_len 0 job.partitions)
    by_order (inl before) =
        let longer = entered_extends history block (rows job history block (block_at job.plan block).count) in
        let own = path_stays history (enters job history block) place longer before in
        let here : index < (block_at job.plan (get_or history.path place 0)).count = subst (λ (b : ℕ). index < (block_at job.plan b).count) (sym own) stands in
        let same : SameBefore history (enters job history block) place index = record {
          path = λ at less. path_stays history (enters job history block) at longer (omega (arith, less, before));
          choice = λ operands phi. sym (laws.longer history.path (block ∷ []) operands place phi before);
          earlier = λ at x p less. held_stays history (enters job history block) at x p longer (omega (arith, less, before, even));
          here = λ x p less. held_stays history (enters job history block) place x p longer (omega (arith, before, even));
        } in
        sym (row_stays history (enters job history block) place index longer (omega (arith, before, even)))
        ∙ explained place index before here
        ∙ map_same (part job history place index) (part job (enters job history block) place index) (range_with_len 0 job.partitions)
        (λ p. same_part laws job history (enters job history block) place index p same (up (get_or history.path place 0) index here))
    by_order (inr after) =
        let e : length history.path ≡ place = omega (arith, after, below, length_push history.path block) in
        let own : get_or (history.path ++ block ∷ []) place 0 ≡ block = get_or_push history.path block 0 place e in
        subst (λ (at : ℕ). row_at (enters job history block) at index ≡ map (part job (enters job history block) at index) (range_with_len 0 job.partitions)) e
        (explained_here laws job history block index even up (subst (λ (b : ℕ). index < (block_at job.plan b).count) own stands))

explained_goes_on : PathLaws → (job : Job) (history : History) (next : Option ℕ) → length history.parts ≡ length history.path → EdgesGoUp job.plan → Explained job history → Explained job (grown_run job history next).history
explained_goes_on laws job history None even up explained = explained
explained_goes_on laws job history (Some block) even up explained = explained_enters laws job history block even up explained

pub run_explained : PathLaws → (job : Job) (places : ℕ) → EdgesGoUp job.plan → Explained job (run job places).history
unfolding run
run_explained laws job zero up = λ place index below stands. absurd (omega (arith, below))
run_explained laws job (suc places) up = explained_goes_on laws job (run job places).history (run job places).next (run_even job places) up (run_explained laws job places up)

pub held_explained : (job : Job) (history : History) (place index partition : ℕ) → Explained job history → place < length history.path
    → index < (block_at job.plan (get_or history.path place 0)).count → partition < job.partitions → held history place index partition ≡ part job history place index partition
held_explained job history place index partition explained below stands within =
    ap (λ (cells : List Part). get_or cells partition void) (explained place index below stands)
    ∙ get_or-map-range_with_len (part job history place index) 0 job.partitions partition partition void within (omega arith)
