pub mod Fits
pub mod Outcomes
pub mod Aggregates
pub mod Columns
