pub mod AnyLaws
pub mod BitLaws
pub mod FittingAny
pub mod FittingLeaves
pub mod NumberLaws
pub mod RowLaws
pub mod StringLaws
pub mod NameLaws
