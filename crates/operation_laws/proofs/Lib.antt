pub mod KeptMaps
pub mod LinkedContents
