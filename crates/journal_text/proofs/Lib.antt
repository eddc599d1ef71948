pub mod OutLines
