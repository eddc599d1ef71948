-- The tests that the contracts of this crate cite compute what `Fits` of term_values says.
pub use Rattle.term_values.specs.FitTest
pub use Rattle.term_values.specs.KeptTest
pub use Rattle.term_values.specs.LeafTests
