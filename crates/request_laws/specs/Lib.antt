-- The laws that the contracts of this crate cite, and the relations beside the reading.
pub mod ArgumentLaws
pub mod ChangeDenoting
pub mod CreateDenoting
pub mod ObjectDenoting
pub mod OperationDenoting
pub mod RequestDenoting
