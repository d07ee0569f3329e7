-- How the channels move with an action.
use Rattle.std.specs.Prelude.{◌≡◌, ◌==◌, ◌&&◌, ◌++◌, ℕ, List, Bool, false, drop, if◌then◌else◌}
use Rattle.mit_machine.specs.State.{Action, hear, learn, take_bag}

-- the first message is gone, where one was delivered, and further ones came behind the others
abbrev pub Moves : Bool → List ℕ → List ℕ → Type 0
Moves delivered before after = (more : List ℕ) × (after ≡ (if delivered then drop 1 before else before) ++ more)

-- an action delivers from this channel
abbrev pub is_learn : ℕ → Action → Bool
is_learn part (learn other) = other == part
is_learn part _ = false

abbrev pub is_hear : ℕ → ℕ → Action → Bool
is_hear op part (hear other from) = (other == op) && (from == part)
is_hear op part _ = false

abbrev pub is_take : ℕ → ℕ → ℕ → Action → Bool
is_take edge from to (take_bag other sender receiver) = (other == edge) && (sender == from) && (receiver == to)
is_take edge from to _ = false
