-- Examples of events, discriminators and logs, computed.
pub mod ExampleEvents
mod EventFacts
mod LogFacts
mod StandardFacts
