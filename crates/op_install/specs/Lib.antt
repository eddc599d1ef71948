-- The laws that the contracts of this crate state.
pub mod StayingLaws
