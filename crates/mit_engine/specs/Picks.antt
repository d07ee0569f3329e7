-- The log of a schedule, and the seeded schedule with its generator.
use Rattle.std.specs.Prelude.{◌≡◌, ◌<◌, ◌≤◌, ℕ, ◌%◌, List, [], ◌∷◌, ◌++◌, length}
use Rattle.std.specs.List.{All}
use Rattle.rand_core.specs.Pcg32Seed.{pcg32_seed}
use Rattle.rand_pcg.specs.Lcg.{Lcg}
use Rattle.rand_pcg.specs.Pcg.{pcg32, pcg32_of_seed}
use Rattle.mit_engine.specs.declared.schedule.Pick.{Pick}

-- a log has grown by so many picks, each below its offer
abbrev pub GrowsBy : ℕ → List Pick → List Pick → Type 0
GrowsBy count old new = (picks : List Pick) × (new ≡ old ++ picks) × (length picks ≡ count) × All (λ pick. pick.chosen < pick.offered) picks

-- the same by at most so many
abbrev pub GrowsWithin : ℕ → List Pick → List Pick → Type 0
GrowsWithin most old new = (count : ℕ) × (count ≤ most) × GrowsBy count old new

pub record SeededState : Type 0 where
  pub source : Lcg
  pub log : List Pick

-- the generator of a seed, with no pick so far
abbrev pub seeded : ℕ → SeededState
seeded seed = record { source = pcg32_of_seed (pcg32_seed 16 seed); log = [] }

-- the next pick takes the next word modulo the number of entries on offer
abbrev pub chosen_of : SeededState → ℕ → ℕ
chosen_of state offered = (pcg32 state.source).0 % offered

abbrev pub after_pick : SeededState → ℕ → SeededState
after_pick state offered = record {
  source = (pcg32 state.source).1;
  log = state.log ++ record { offered = offered; chosen = chosen_of state offered } ∷ [];
}
