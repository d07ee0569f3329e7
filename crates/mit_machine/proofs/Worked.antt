-- Worked states, computed by the definitions over two partitions: of a plan that writes the union of a file with itself, and of a loop.
use Rattle.std.proofs.Common.{◌≡◌, ℕ, List, [], ◌∷◌, length, refl, Some, None}
use Rattle.std.specs.Prelude.{◌==◌, ◌&&◌, nat_lt, if◌then◌else◌, slice_get}
use Rattle.mit_rows.specs.Bags.{BagOf}
use Rattle.mit_files.specs.Files.{FileMap}
use Rattle.mit_path.specs.Choice.{last_below}
use Rattle.mit_path.specs.Fate.{first_decides}
use Rattle.mit_ops.specs.Endings.{finished}
use Rattle.mit_ops.specs.declared.kinds.OpSpec.{OpSpec}
use Rattle.mit_ops.specs.declared.kinds.OpSpec.TheVariants.{Copy}
use Rattle.mit_ops.specs.declared.leave.Leave.{Leave}
use Rattle.mit_ops.specs.declared.leave.Leave.TheVariants.{Branch, End, Jump}
use Rattle.mit_ops.specs.declared.routes.Route.{Route}
use Rattle.mit_ops.specs.declared.routes.Route.TheVariants.{Forward, Gather}
use Rattle.mit_plan.specs.Held.{Part, ok}
use Rattle.mit_plan.specs.Meant.{writes_of}
use Rattle.mit_plan.specs.Plans.{PlanOf, numbers_where}
use Rattle.mit_plan.specs.declared.plan.Edge.{Edge}
use Rattle.mit_plan.specs.declared.plan.PlanBlock.{PlanBlock}
use Rattle.mit_plan.specs.declared.plan.PlanOp.{PlanOp}
use Rattle.mit_machine.specs.Offers.{actions_of, number_of, offered, released_in}
use Rattle.mit_machine.specs.Places.{front_from, heard_by, known, known_from, open_from}
use Rattle.mit_machine.specs.Runs.{Pick, actions_so_far, after_picks, ended, picked_from}
use Rattle.mit_machine.specs.State.{Machine, State, after, first_state, hear, learn, poll, take_bag}

-- ---- plans

abbrev pub op : ℕ → ℕ → ℕ → OpSpec → ℕ → PlanOp
op block index statement spec phi = record { block = block; index = index; statement = statement; spec = spec; phi = phi }

abbrev pub edge : ℕ → ℕ → ℕ → Route → Edge
edge from to input route = record { from = from; to = to; input = input; route = route }

abbrev pub block_of : ℕ → ℕ → Leave → PlanBlock
block_of first count leave = record { first = first; count = count; leave = leave }

abbrev pub both : BagOf → BagOf → List Part
both first second = ok first ∷ ok second ∷ []

abbrev pub pick : ℕ → ℕ → Pick
pick offered chosen = record { offered = offered; chosen = chosen }

-- ---- a union

-- whatever the operators, the files and the rows are
module _ (read union write : OpSpec) (files : FileMap) (a b c d e f : BagOf) where
  abbrev pub machine : Machine
  machine = record {
    job = record {
      plan = record {
        blocks = block_of 0 3 End ∷ [];
        ops = op 0 0 1 read 0 ∷ op 0 1 1 union 0 ∷ op 0 2 2 write 0 ∷ [];
        edges = edge 0 1 0 Forward ∷ edge 0 1 1 Forward ∷ edge 1 2 0 Gather ∷ [];
      };
      files = files;
      decisions = 0;
      partitions = 2;
    };
    history = record { path = 0 ∷ []; parts = (both a b ∷ both c d ∷ both e f ∷ []) ∷ [] };
    window = 1;
  }

  -- the number of an action of each kind, and how many actions there are
  abbrev pub numbers : List ℕ
  numbers = number_of machine (learn 1) ∷ number_of machine (hear 2 1) ∷ number_of machine (take_bag 1 0 1) ∷ number_of machine (poll 2 1) ∷ length (actions_of machine) ∷ []

  pub numbers_are : numbers ≡ 1 ∷ 7 ∷ 13 ∷ 25 ∷ 26 ∷ []
  numbers_are = refl

  -- each stands at its number
  pub learn_stands : slice_get (actions_of machine) 1 ≡ Some (learn 1)
  learn_stands = refl

  pub hear_stands : slice_get (actions_of machine) 7 ≡ Some (hear 2 1)
  hear_stands = refl

  pub take_stands : slice_get (actions_of machine) 13 ≡ Some (take_bag 1 0 1)
  take_stands = refl

  pub poll_stands : slice_get (actions_of machine) 25 ≡ Some (poll 2 1)
  poll_stands = refl

  -- at first both partitions can learn the block
  pub first_offer : offered machine first_state ≡ learn 0 ∷ learn 1 ∷ []
  unfolding known_from front_from open_from numbers_where last_below first_decides
  first_offer = refl

  -- then the file can be read in both, and the write polled in partition 1, to which no rows go
  abbrev pub learned : State
  learned = after (learn 1) (after (learn 0) first_state)

  pub learned_offer : offered machine learned ≡ poll 0 0 ∷ poll 0 1 ∷ poll 2 1 ∷ []
  unfolding known_from front_from open_from numbers_where last_below first_decides
  learned_offer = refl

  -- after the read of partition 0 its report is under way, and a bag for each input of the union there
  abbrev pub read_once : State
  read_once = after (poll 0 0) learned

  pub read_offer : offered machine read_once ≡ hear 0 0 ∷ take_bag 0 0 0 ∷ take_bag 1 0 0 ∷ poll 0 1 ∷ poll 2 1 ∷ []
  unfolding known_from front_from open_from numbers_where last_below first_decides
  read_offer = refl

  pub read_total : actions_so_far machine read_once ≡ 3
  read_total = refl

  -- the union waits for both of its bags
  pub one_bag_offer : offered machine (after (take_bag 0 0 0) read_once) ≡ hear 0 0 ∷ take_bag 1 0 0 ∷ poll 0 1 ∷ poll 2 1 ∷ []
  unfolding known_from front_from open_from numbers_where last_below first_decides
  one_bag_offer = refl

  pub two_bags_offer : offered machine (after (take_bag 1 0 0) (after (take_bag 0 0 0) read_once)) ≡ hear 0 0 ∷ poll 0 1 ∷ poll 1 0 ∷ poll 2 1 ∷ []
  unfolding known_from front_from open_from numbers_where last_below first_decides
  two_bags_offer = refl

  -- picks say how many actions were offered, and which of them was taken
  pub picks_lead : after_picks machine (pick 2 0 ∷ pick 2 0 ∷ pick 3 0 ∷ []) ≡ Some read_once
  unfolding picked_from known_from front_from open_from numbers_where last_below first_decides
  picks_lead = refl

  pub other_offer : after_picks machine (pick 2 0 ∷ pick 3 0 ∷ []) ≡ None
  unfolding picked_from known_from front_from open_from numbers_where last_below first_decides
  other_offer = refl

  pub not_offered : after_picks machine (pick 2 2 ∷ []) ≡ None
  unfolding picked_from known_from front_from open_from numbers_where last_below first_decides
  not_offered = refl

  -- where everything is done nothing is offered and the run has ended
  abbrev pub done : State
  done = record {
    seen = λ part. 1;
    polls = λ op part. 1;
    heard = λ op part. 1;
    taken = λ edge from to. if edge == 2 then (if to == 0 then 1 else 0) else (if from == to then 1 else 0);
  }

  pub done_offer : offered machine done ≡ []
  unfolding known_from front_from open_from numbers_where last_below first_decides
  done_offer = refl

  pub done_total : actions_so_far machine done ≡ 20
  done_total = refl

  pub done_ends : ended machine done ≡ Some (finished (writes_of machine.job machine.history) 0)
  unfolding known_from front_from open_from numbers_where last_below first_decides
  done_ends = refl

  -- without one of the reports it goes on
  abbrev pub unheard : State
  unheard = record done { heard = λ op part. if op == 2 then part else 1 }

  pub unheard_offer : offered machine unheard ≡ hear 2 0 ∷ []
  unfolding known_from front_from open_from numbers_where last_below first_decides
  unheard_offer = refl

  pub unheard_goes_on : ended machine unheard ≡ None
  unfolding known_from front_from open_from numbers_where last_below first_decides
  unheard_goes_on = refl

-- ---- a loop

-- block 1 is the header, 2 the body and 3 the exit; the body runs once
module _ (start condition step row write : OpSpec) (files : FileMap) (a b c d e f g h : BagOf) where
  abbrev pub loop_plan : PlanOf
  loop_plan = record {
    blocks = block_of 0 1 (Jump 1) ∷ block_of 1 2 (Branch 2 3) ∷ block_of 3 1 (Jump 1) ∷ block_of 4 2 End ∷ [];
    ops = op 0 0 1 start 0 ∷ op 1 0 0 Copy 2 ∷ op 1 1 2 condition 0 ∷ op 2 0 3 step 0 ∷ op 3 0 4 row 0 ∷ op 3 1 5 write 0 ∷ [];
    edges =
        edge 0 1 0 Forward ∷ edge 3 1 1 Forward ∷ edge 1 2 0 Gather ∷ edge 1 3 0 Gather ∷ edge 1 4 0 Gather ∷ edge 4 5 0 Gather ∷ [];
  }

  abbrev pub loop : ℕ → Machine
  loop window = record {
    job = record { plan = loop_plan; files = files; decisions = 2; partitions = 2 };
    history = record {
      path = 0 ∷ 1 ∷ 2 ∷ 1 ∷ 3 ∷ [];
      parts =
          (both a b ∷ []) ∷ (both a b ∷ both c d ∷ []) ∷ (both e f ∷ []) ∷ (both e f ∷ both c d ∷ []) ∷ (both g h ∷ both g h ∷ []) ∷ [];
    };
    window = window;
  }

  -- all of block 0 is done; the condition was polled at the header's first place and is not heard of
  abbrev pub asked : State
  asked = record {
    seen = λ part. 2;
    polls = λ op part. if nat_lt op 3 then 1 else 0;
    heard = λ op part. if nat_lt op 2 then 1 else 0;
    taken = λ edge from to. if edge == 0 then (if from == to then 1 else 0) else (if (edge == 2) && (to == 0) then 1 else 0);
  }

  -- how much of the path is known and released
  abbrev pub reach : ℕ → State → ℕ × ℕ
  reach window state = (known (loop window) (heard_by (loop window) state.heard), released_in (loop window) state)

  -- at first block 0 and the header are known, and as much is released as the window lets through
  pub first_reach : reach 1 first_state ≡ (2, 1)
  unfolding known_from front_from open_from numbers_where last_below first_decides
  first_reach = refl

  pub first_reach_wide : reach 2 first_state ≡ (2, 2)
  unfolding known_from front_from open_from numbers_where last_below first_decides
  first_reach_wide = refl

  -- nothing is known behind the condition
  pub asked_reach : reach 1 asked ≡ (2, 2)
  unfolding known_from front_from open_from numbers_where last_below first_decides
  asked_reach = refl

  pub asked_reach_wide : reach 2 asked ≡ (2, 2)
  unfolding known_from front_from open_from numbers_where last_below first_decides
  asked_reach_wide = refl

  pub asked_offer : offered (loop 2) asked ≡ hear 2 0 ∷ hear 2 1 ∷ []
  unfolding known_from front_from open_from numbers_where last_below first_decides
  asked_offer = refl

  -- its report from partition 0 makes the body and the header's second place known; the front stays until partition 1 has reported too
  abbrev pub answered : State
  answered = after (hear 2 0) asked

  pub answered_reach : reach 1 answered ≡ (4, 2)
  unfolding known_from front_from open_from numbers_where last_below first_decides
  answered_reach = refl

  pub answered_reach_wide : reach 2 answered ≡ (4, 3)
  unfolding known_from front_from open_from numbers_where last_below first_decides
  answered_reach_wide = refl

  pub answered_offer : offered (loop 1) answered ≡ hear 2 1 ∷ []
  unfolding known_from front_from open_from numbers_where last_below first_decides
  answered_offer = refl

  pub answered_offer_wide : offered (loop 2) answered ≡ learn 0 ∷ learn 1 ∷ hear 2 1 ∷ []
  unfolding known_from front_from open_from numbers_where last_below first_decides
  answered_offer_wide = refl

  -- the report from partition 1 alone makes nothing known
  pub other_reach : reach 2 (after (hear 2 1) asked) ≡ (2, 2)
  unfolding known_from front_from open_from numbers_where last_below first_decides
  other_reach = refl

  -- with both the front is at the body
  abbrev pub both_heard : State
  both_heard = after (hear 2 1) answered

  pub both_heard_reach : reach 1 both_heard ≡ (4, 3)
  unfolding known_from front_from open_from numbers_where last_below first_decides
  both_heard_reach = refl

  pub both_heard_reach_wide : reach 2 both_heard ≡ (4, 4)
  unfolding known_from front_from open_from numbers_where last_below first_decides
  both_heard_reach_wide = refl

  -- a partition that learns of the body sends what the header made there; the step is gathered in partition 0, so partition 1 can do it at once
  pub body_offer : offered (loop 1) (after (learn 1) both_heard) ≡ learn 0 ∷ take_bag 3 1 0 ∷ poll 3 1 ∷ []
  unfolding known_from front_from open_from numbers_where last_below first_decides
  body_offer = refl
