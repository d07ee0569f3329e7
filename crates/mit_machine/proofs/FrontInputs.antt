-- What the front's operator takes is done.
use Rattle.std.proofs.Common.{◌≡◌, ◌∙◌, ◌<◌, ℕ, length, get_or, ap, arith, true, Some, inl, inr}
use Rattle.std.specs.Prelude.{◌⊎◌}
use Rattle.mit_plan.specs.Chosen.{Choice, chosen, input_edges}
use Rattle.mit_plan.specs.Held.{op_of}
use Rattle.mit_plan.specs.Paths.{IsPath}
use Rattle.mit_plan.specs.Plans.{edge_at, op_at}
use Rattle.mit_plan.specs.Valid.{IsValid}
use Rattle.mit_plan.specs.Standing.{Names}
use Rattle.mit_machine.specs.Places.{Reports, is_done}
use Rattle.mit_machine.specs.State.{Machine}
use Rattle.mit_machine.proofs.Choosing.{IsSource, PathLaws, chosen_source, chosen_there}
use Rattle.mit_machine.proofs.Fronts.{IsFront}
use Rattle.mit_machine.proofs.Standing.{names, stands_in}

-- the front's operator, by its number
pub front_names : (machine : Machine) (reports : Reports) (place index : ℕ) → IsValid machine.job.plan → IsFront machine reports place index
    → Names machine.job.plan (get_or machine.history.path place 0) index
front_names machine reports place index valid front = names machine.job.plan (get_or machine.history.path place 0) index valid.ranges front.stands

-- each of its inputs has something to choose
pub input_there : (machine : Machine) (reports : Reports) (place index input : ℕ) → IsValid machine.job.plan → IsPath machine.job.plan machine.history.path → IsFront machine reports place index
    → let op = op_of machine.job.plan machine.history.path place index in
    input < length (input_edges machine.job.plan op) → (choice : Choice) × (chosen machine.job.plan machine.history.path op input place ≡ Some choice)
input_there machine reports place index input valid is_path front below =
    let own = front_names machine reports place index valid front in
    let op = op_of machine.job.plan machine.history.path place index in
    chosen_there machine.job.plan machine.history.path op input place (valid.places machine.history.path is_path place front.entered op own.below own.block_is) below

pub input_source : PathLaws → (machine : Machine) (reports : Reports) (place index input : ℕ) (choice : Choice) → IsValid machine.job.plan → IsFront machine reports place index
    → let op = op_of machine.job.plan machine.history.path place index in
    chosen machine.job.plan machine.history.path op input place ≡ Some choice → IsSource machine.job.plan machine.history.path op place choice
input_source laws machine reports place index input choice valid front is =
    let own = front_names machine reports place index valid front in
    chosen_source laws machine.job.plan machine.history.path (op_of machine.job.plan machine.history.path place index) input place choice valid.inputs valid.upward own.block_is is

-- and what is chosen is done
pub source_done : (machine : Machine) (reports : Reports) (place index : ℕ) (choice : Choice) → IsValid machine.job.plan → IsFront machine reports place index
    → IsSource machine.job.plan machine.history.path (op_of machine.job.plan machine.history.path place index) place choice
    → is_done machine reports (edge_at machine.job.plan choice.edge).from choice.place ≡ true
source_done machine reports place index choice valid front source = by_place source.before
  where
    by_place : (choice.place < place)
        ⊎ ((choice.place ≡ place) × ((op_at machine.job.plan (edge_at machine.job.plan choice.edge).from).index < (op_at machine.job.plan (op_of machine.job.plan machine.history.path place index)).index))
        → is_done machine reports (edge_at machine.job.plan choice.edge).from choice.place ≡ true
    by_place (inl less) = front.earlier choice.place (edge_at machine.job.plan choice.edge).from less source.from source.block
    by_place (inr both) =
        let plan = machine.job.plan in
        let from : ℕ = (edge_at plan choice.edge).from in
        let own = front_names machine reports place index valid front in
        let stands = stands_in plan (get_or machine.history.path place 0) from valid.ranges source.from (source.block ∙ ap (λ (n : ℕ). get_or machine.history.path n 0) both.0) in
        ap (λ (op : ℕ). is_done machine reports op choice.place) stands.number
        ∙ ap (λ (n : ℕ). is_done machine reports (op_of plan machine.history.path place (op_at plan from).index) n) both.0
        ∙ front.lower (op_at plan from).index (omega (arith, both.1, own.index_is))
