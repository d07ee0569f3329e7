-- What held parts add up to over all partitions.
use Rattle.std.specs.Prelude.{◌≡◌, ◌<◌, ℕ, List, [], map, length, All, Option, Some, IsSome, option_map, option_and_then, slice_index, slice_index_or}
use Rattle.std.specs.List.{range_with_len}
use Rattle.mit_rows.specs.Bags.{BagOf, bag_sum}
use Rattle.mit_ops.specs.Routes.{route_to}
use Rattle.mit_ops.specs.declared.kinds.OpSpec.{OpSpec}
use Rattle.mit_plan.specs.Chosen.{Choice, chosen, input_edges, input_numbers}
use Rattle.mit_plan.specs.Held.{History, Job, all_there, bag_in, held, op_of}
use Rattle.mit_plan.specs.Plans.{PlanOf, block_at, edge_at, op_at}

-- the bag that an operator makes at a place, where it is ok in each partition: the sum of its parts
abbrev pub bag_at : Job → History → ℕ → ℕ → Option BagOf
bag_at job history place index =
    option_map bag_sum (all_there (map (λ partition. bag_in (held history place index partition)) (range_with_len 0 job.partitions)))

-- the bag that is chosen
abbrev pub bag_taken : Job → History → Option Choice → Option BagOf
bag_taken job history chosen =
    option_and_then (λ choice. bag_at job history choice.place (op_at job.plan (edge_at job.plan choice.edge).from).index) chosen

-- the bags of all inputs of an operator at a place
abbrev pub bags_of : Job → History → ℕ → ℕ → Option (List BagOf)
bags_of job history op place =
    all_there (map (λ input. bag_taken job history (chosen job.plan history.path op input place)) (input_numbers job.plan op))

-- each edge of an operator has the route of its input, where the inputs have so many columns
abbrev pub AreRouted : PlanOf → ℕ → (ℕ → ℕ) → Type 0
AreRouted plan op columns = (input : ℕ)
    → All (λ edge. (edge_at plan edge).route ≡ route_to (op_at plan op).spec input (columns input)) (slice_index_or (input_edges plan op) input [])

-- an operator of the block of a place takes these bags there, and was ok in each partition at the earlier places of the block
pub record TakesBags (job : Job) (history : History) (place index : ℕ) (columns : ℕ → ℕ) (bags : List BagOf) : Type 0 where
  pub below : place < length history.path
  pub stands : index < (block_at job.plan (slice_index history.path place)).count
  pub routed : AreRouted job.plan (op_of job.plan history.path place index) columns
  pub stood : (earlier : ℕ) → earlier < place → slice_index history.path earlier ≡ slice_index history.path place
      → IsSome (bag_at job history earlier index)
  pub takes : bags_of job history (op_of job.plan history.path place index) place ≡ Some bags

-- the operator of an index at a place
abbrev pub spec_at : Job → History → ℕ → ℕ → OpSpec
spec_at job history place index = (op_at job.plan (op_of job.plan history.path place index)).spec
