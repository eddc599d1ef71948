-- The lemmas of this crate.
pub mod HeldLaws
pub mod RisingLaws
pub mod CommonLaws
pub mod LeavingLaws
pub mod OneForm
pub mod StandardFacts
