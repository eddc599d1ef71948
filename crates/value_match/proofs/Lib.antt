pub mod ArcLaws
pub mod CommonLaws
pub mod KeyLaws
pub mod MemberLaws
pub mod OrderLaws
pub mod PieceLaws
pub mod SameIs
pub mod SetLaws
pub mod SizeLaws
mod StandardFacts
