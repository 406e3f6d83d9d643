pub mod Found
pub mod Operators
