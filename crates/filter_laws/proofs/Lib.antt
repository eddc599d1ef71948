pub mod GivenTold
pub mod FilterTold
pub mod FilterRead
pub mod IdTold
pub mod Options
