pub mod CountLaws
pub mod GoodOpening
pub mod LogLaws
pub mod NameParts
pub mod RecordLaws
pub mod SizeLaws
pub mod WalkLaws
