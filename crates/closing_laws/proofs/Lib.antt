pub mod TextLaws
pub mod FaultLaws
