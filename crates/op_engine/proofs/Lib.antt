pub mod MapLaws
pub mod OutcomeLaws
pub mod OwnLaws
pub mod PlanLaws
pub mod SelectLaws
pub mod SmallLaws
pub mod StandardFacts
