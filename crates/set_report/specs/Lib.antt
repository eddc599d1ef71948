-- The definitions that the contracts of set_report cite.
pub mod Orders
pub mod Labels
pub mod ClassLists
pub mod HasLists
pub mod DoneLists
pub mod NamesSchema
pub mod ReportLines
pub mod ReportText
