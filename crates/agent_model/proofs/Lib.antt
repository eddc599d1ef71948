-- Laws of the one-manager agent's definitions, and their examples.
pub mod BeginningLaws
pub mod KeepingLaws
pub mod PlacingLaws
pub mod StandingLaws
pub mod StepLaws
pub mod HistoryLaws
pub mod RoomLaws
pub mod ScriptLaws
pub mod FrameLaws
pub mod TextLaws
mod LegalFacts
mod RoomFacts
mod StandardFacts
mod PlayingFacts
mod BindFacts
mod TextFacts
