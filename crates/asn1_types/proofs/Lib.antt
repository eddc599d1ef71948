-- The lemmas of this crate.
pub mod BuildingLaws
pub mod ConstrainingLaws
pub mod CountingLaws
pub mod DefaultLaws
pub mod DefaultOnce
pub mod FollowLaws
pub mod MeasuredLaws
pub mod MemberLaws
pub mod NumberedLaws
pub mod PlainLaws
pub mod ReturningLaws
pub mod SaidLaws
pub mod SoughtLaws
pub mod StandardFacts
pub mod TypesLaws
pub mod WalkedLaws
