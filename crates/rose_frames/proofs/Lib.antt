pub mod ApduDenoted
pub mod ApduDenoting
pub mod ApduStatements
pub mod ApduTold
mod ApduTrees
mod CuttingLaws
mod FramingLaws
mod LengthLaws
mod RowLaws
mod StandardFacts
mod StreamLaws
