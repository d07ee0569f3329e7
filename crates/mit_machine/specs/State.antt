-- The state of a running job: how often each thing was done, and no contents. All else follows from these counters and from what is held.
use Rattle.std.specs.Prelude.{◌==◌, ◌+◌, ℕ, if◌then◌else◌}
use Rattle.mit_plan.specs.Held.{History, Job}

-- a job, what it holds in the end, and how many places may be worked on at once
pub record Machine : Type 0 where
  pub job : Job
  pub history : History
  pub window : ℕ

pub record State : Type 0 where
  -- how many blocks each partition has learned
  pub seen : ℕ → ℕ
  -- how often each operator was polled in each partition
  pub polls : ℕ → ℕ → ℕ
  -- how many of its reports from each partition were heard
  pub heard : ℕ → ℕ → ℕ
  -- how many bags of each edge, sender and receiver were taken
  pub taken : ℕ → ℕ → ℕ → ℕ

abbrev pub first_state : State
first_state = record { seen = λ part. 0; polls = λ op part. 0; heard = λ op part. 0; taken = λ edge from to. 0 }

-- an action: a message is delivered, or an operator is polled in a partition
pub data Action : Type 0 where
  -- a partition learns a block
  learn : ℕ → Action
  -- the coordinator hears of an operator from a partition
  hear : ℕ → ℕ → Action
  -- a bag of an edge, from a sender, is taken by a receiver
  take_bag : ℕ → ℕ → ℕ → Action
  poll : ℕ → ℕ → Action

-- one counter is greater by one
abbrev pub raised : ℕ → (ℕ → ℕ) → ℕ → ℕ
raised at counts number = if number == at then counts number + 1 else counts number

abbrev pub raised_in : ℕ → ℕ → (ℕ → ℕ → ℕ) → ℕ → ℕ → ℕ
raised_in op part counts other = if other == op then raised part (counts other) else counts other

-- the state after an action
abbrev pub after : Action → State → State
after (learn part) state = record state { seen = raised part state.seen }
after (hear op part) state = record state { heard = raised_in op part state.heard }
after (take_bag edge from to) state = record state { taken = λ other. if other == edge then raised_in from to (state.taken other) else state.taken other }
after (poll op part) state = record state { polls = raised_in op part state.polls }
