pub mod Marks
pub mod Scans
pub mod Refusals
pub mod Holding
pub mod Composed
