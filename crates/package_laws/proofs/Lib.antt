pub mod Members
pub mod Records
pub mod Rounds
pub mod Closing
pub mod Above
pub mod Packages
pub mod Attributes
pub mod PackageFacts
