pub mod DueLemmas
pub mod EndLemmas
pub mod CauseLemmas
pub mod TaskLemmas
pub mod PlanLemmas
