pub mod Rewritten
pub mod Marks
pub mod Replaced
pub mod Reached
