mod ApduFacts
mod AssertionFacts
mod FilterReadingFacts
mod CreatingFacts
pub mod ExampleNetwork
pub mod FindingLaws
mod FollowingFacts
mod FurtherCreatingFacts
mod InheritanceFacts
mod ElementFacts
mod LicensingFacts
mod LogFacts
mod MapFacts
pub mod MapLaws
mod ObjectGetFacts
mod ObjectSetFacts
mod OperationFacts
pub mod PlaceLaws
mod ReplyFacts
mod RequestFacts
mod ScopeFacts
mod SelectionFacts
pub mod StoringLaws
mod ValueFacts
mod WholeFacts
mod WholeRecordFacts
mod WellFormedFacts
pub mod FollowingLaws
