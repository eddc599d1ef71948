pub mod FailureForms
pub mod ResultForms
