-- With one place more the faults and the writes stay, and those of that place come behind them.
use Rattle.std.proofs.Common.{◌≡◌, ◌∙◌, ◌<◌, ◌≤◌, ◌+◌, ℕ, zero, suc, List, [], ◌∷◌, ◌++◌, length, map, take, get_or, ap, sym, refl, arith, Bool, true, false, Option, Some, None, flat_map}
use Rattle.std.specs.Prelude.{filter_map, option_and_then, ⊤, count_by}
use Rattle.std.specs.List.{range_with_len}
use Rattle.std.proofs.lemmas.List.{flat_map_more, length_push, take-append-le}
use Rattle.std.proofs.lemmas.List.Elements.{filter_map-append}
use Rattle.mit_path.specs.Choice.{chosen_operand}
use Rattle.mit_ops.specs.Operators.{name_written}
use Rattle.mit_plan.specs.Chosen.{Choice, chosen, chosen_among, input_edges, input_numbers}
use Rattle.mit_plan.specs.Explained.{Extends}
use Rattle.mit_plan.specs.Held.{History, Job, all_there, decisions_before, enters, held, list_of, lists_of, op_of, rows}
use Rattle.mit_plan.specs.Meant.{Pair, fault_at, faults_of, pair, pairs_at, pairs_of, write_at, write_of, writes_of}
use Rattle.mit_plan.specs.Plans.{PlanOf, block_at, edge_at, is_phi, op_at, source_block}
use Rattle.mit_plan.specs.Valid.{is_branch}
use Rattle.mit_plan_laws.proofs.Choices.{PathLaws, is_chosen, longer_path}
use Rattle.mit_plan_laws.proofs.Collected.{range_push}
use Rattle.mit_plan_laws.proofs.Histories.{entered_extends, held_stays, path_stays, row_stays}
use Rattle.mit_plan_laws.proofs.SameParts.{map_same, same_received}

-- ---- pairs

kept_same : {X : Type 0} (f g : Pair → Option X) (place : ℕ) (indexes : List ℕ) → ((index : ℕ) → f (pair place index) ≡ g (pair place index))
    → filter_map f (map (pair place) indexes) ≡ filter_map g (map (pair place) indexes)
kept_same f g place [] same = refl
kept_same f g place (index ∷ indexes) same = let here = same index in let rest = kept_same f g place indexes same in cc

-- the same is found at the same places
pairs_same : {X : Type 0} (f g : Pair → Option X) (plan : PlanOf) (longer path : List ℕ) (from many : ℕ) → ((place : ℕ) → place < from + many → get_or longer place 0 ≡ get_or path place 0)
    → ((place index : ℕ) → place < from + many → f (pair place index) ≡ g (pair place index))
    → filter_map f (flat_map (pairs_at plan longer) (range_with_len from many)) ≡ filter_map g (flat_map (pairs_at plan path) (range_with_len from many))
pairs_same f g plan longer path from zero stays same = refl
pairs_same f g plan longer path from (suc many) stays same =
    filter_map-append f (pairs_at plan longer from) (flat_map (pairs_at plan longer) (range_with_len (from + 1) many))
    ∙ ap (λ (block : ℕ). filter_map f (map (pair from) (range_with_len 0 (block_at plan block).count)) ++ filter_map f (flat_map (pairs_at plan longer) (range_with_len (from + 1) many))) (stays from (omega arith))
    ∙ ap (λ found. found ++ filter_map f (flat_map (pairs_at plan longer) (range_with_len (from + 1) many)))
    (kept_same f g from (range_with_len 0 (block_at plan (get_or path from 0)).count) (λ index. same from index (omega arith)))
    ∙ ap (λ found. filter_map g (pairs_at plan path from) ++ found)
    (pairs_same f g plan longer path (from + 1) many (λ place below. stays place (omega (arith, below))) (λ place index below. same place index (omega (arith, below))))
    ∙ sym (filter_map-append g (pairs_at plan path from) (flat_map (pairs_at plan path) (range_with_len (from + 1) many)))

found_push : {X : Type 0} (f g : Pair → Option X) (plan : PlanOf) (path : List ℕ) (block : ℕ) → ((place : ℕ) → place < length path → get_or (path ++ block ∷ []) place 0 ≡ get_or path place 0)
    → ((place index : ℕ) → place < length path → f (pair place index) ≡ g (pair place index))
    → filter_map f (pairs_of plan (path ++ block ∷ [])) ≡ filter_map g (pairs_of plan path) ++ filter_map f (pairs_at plan (path ++ block ∷ []) (length path))
found_push f g plan path block stays same =
    let longer = path ++ block ∷ [] in
    let e : length longer ≡ suc (length path) = omega (arith, length_push path block) in
    let z : 0 + length path ≡ length path = omega arith in
    ap (λ (n : ℕ). filter_map f (flat_map (pairs_at plan longer) (range_with_len 0 n))) e
    ∙ ap (λ (places : List ℕ). filter_map f (flat_map (pairs_at plan longer) places)) (range_push 0 (length path))
    ∙ ap (filter_map f) (sym (flat_map_more (pairs_at plan longer) [] (range_with_len 0 (length path)) (0 + length path)))
    ∙ ap (λ (place : ℕ). filter_map f (flat_map (pairs_at plan longer) (range_with_len 0 (length path)) ++ pairs_at plan longer place)) z
    ∙ filter_map-append f (flat_map (pairs_at plan longer) (range_with_len 0 (length path))) (pairs_at plan longer (length path))
    ∙ ap (λ found. found ++ filter_map f (pairs_at plan longer (length path)))
    (pairs_same f g plan longer path 0 (length path) (λ place below. stays place (omega (arith, below))) (λ place index below. same place index (omega (arith, below))))

-- ---- faults

fault_stays : (plan : PlanOf) (one other : History) (place index : ℕ) → Extends one other → length one.parts ≡ length one.path → place < length one.path
    → fault_at plan other (pair place index) ≡ fault_at plan one (pair place index)
fault_stays plan one other place index longer even below =
    let row = row_stays one other place index longer (omega (arith, below, even)) in
    let at = path_stays one other place longer below in
    let front : take place other.path ≡ take place one.path = ap (take place) longer.path ∙ take-append-le place one.path longer.more (omega (arith, below)) in
    let decided : decisions_before plan other.path place ≡ decisions_before plan one.path place = ap (λ (path : List ℕ). count_by (λ block. is_branch (block_at plan block).leave) path) front in
    cc

pub faults_push : (job : Job) (history : History) (block : ℕ) → length history.parts ≡ length history.path
    → faults_of job (enters job history block) ≡ faults_of job history ++ filter_map (fault_at job.plan (enters job history block)) (pairs_at job.plan (enters job history block).path (length history.path))
faults_push job history block even =
    let longer = entered_extends history block (rows job history block (block_at job.plan block).count) in
    found_push (fault_at job.plan (enters job history block)) (fault_at job.plan history) job.plan history.path block
    (λ place below. sym (path_stays history (enters job history block) place longer below))
    (λ place index below. fault_stays job.plan history (enters job history block) place index longer even below)

-- ---- writes

-- a chosen place is no later
chosen_below : PathLaws → (plan : PlanOf) (path edges : List ℕ) (phi : Bool) (place : ℕ) (choice : Choice) → chosen_among plan path edges phi place ≡ Some choice → choice.place ≤ place
chosen_below laws plan path edges true place choice is =
    let blocks = map (λ edge. source_block plan (edge_at plan edge)) edges in
    let found = is_chosen plan path edges (λ edge. ⊤) place choice (chosen_operand path blocks place true) (laws.phi path blocks place) (λ k d below. tt) is in
    omega (arith, found.below)
chosen_below laws plan path edges false place choice is =
    let blocks = map (λ edge. source_block plan (edge_at plan edge)) edges in
    let found = is_chosen plan path edges (λ edge. ⊤) (suc place) choice (chosen_operand path blocks place false) (laws.input path blocks place) (λ k d below. tt) is in
    omega (arith, found.below)

list_stays : PathLaws → (job : Job) (one other : History) (edges : List ℕ) (phi : Bool) (place partition : ℕ) (found : Option Choice) → Extends one other → length one.parts ≡ length one.path → place < length one.path
    → chosen_among job.plan one.path edges phi place ≡ found → list_of job other partition found ≡ list_of job one partition found
list_stays laws job one other edges phi place partition None longer even below is = refl
list_stays laws job one other edges phi place partition (Some choice) longer even below is =
    let before = chosen_below laws job.plan one.path edges phi place choice is in
    sym (same_received job one other partition (edge_at job.plan choice.edge) choice.place
    (λ p. held_stays one other choice.place (op_at job.plan (edge_at job.plan choice.edge).from).index p longer (omega (arith, before, below, even))))

lists_stay : PathLaws → (job : Job) (one other : History) (op place partition : ℕ) → Extends one other → length one.parts ≡ length one.path → place < length one.path
    → lists_of job other op place partition ≡ lists_of job one op place partition
lists_stay laws job one other op place partition longer even below =
    ap all_there (map_same (λ input. list_of job other partition (chosen job.plan other.path op input place)) (λ input. list_of job one partition (chosen job.plan one.path op input place)) (input_numbers job.plan op) (λ input.
    ap (λ (path : List ℕ). list_of job other partition (chosen job.plan path op input place)) longer.path
    ∙ ap (list_of job other partition) (longer_path laws.longer job.plan one.path longer.more op input place below)
    ∙ list_stays laws job one other (get_or (input_edges job.plan op) input []) (is_phi (op_at job.plan op)) place partition (chosen job.plan one.path op input place) longer even below refl))

write_stays : PathLaws → (job : Job) (one other : History) (place index : ℕ) → Extends one other → length one.parts ≡ length one.path → place < length one.path
    → write_at job other (pair place index) ≡ write_at job one (pair place index)
write_stays laws job one other place index longer even below =
    let at = path_stays one other place longer below in
    let part = held_stays one other place index 0 longer (omega (arith, below, even)) in
    ap (λ (block : ℕ). let op = (block_at job.plan block).first + index in write_of (option_and_then (name_written (op_at job.plan op).spec) (lists_of job other op place 0)) (held other place index 0)) (sym at)
    ∙ ap (λ lists. write_of (option_and_then (name_written (op_at job.plan (op_of job.plan one.path place index)).spec) lists) (held other place index 0)) (lists_stay laws job one other (op_of job.plan one.path place index) place 0 longer even below)
    ∙ ap (write_of (option_and_then (name_written (op_at job.plan (op_of job.plan one.path place index)).spec) (lists_of job one (op_of job.plan one.path place index) place 0))) (sym part)

pub writes_push : PathLaws → (job : Job) (history : History) (block : ℕ) → length history.parts ≡ length history.path
    → writes_of job (enters job history block) ≡ writes_of job history ++ filter_map (write_at job (enters job history block)) (pairs_at job.plan (enters job history block).path (length history.path))
writes_push laws job history block even =
    let longer = entered_extends history block (rows job history block (block_at job.plan block).count) in
    found_push (write_at job (enters job history block)) (write_at job history) job.plan history.path block
    (λ place below. sym (path_stays history (enters job history block) place longer below))
    (λ place index below. write_stays laws job history (enters job history block) place index longer even below)
