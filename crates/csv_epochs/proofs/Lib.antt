mod Beginnings
mod Endings
pub mod EpochByEpoch
mod Grouping
mod Heads
mod Joins
mod Marks
pub mod Readings
mod Taking
pub mod TakenOn
