pub mod Columns
pub mod Steps
pub mod Undoing
pub mod Weights
