pub mod GraphInputs
pub mod Graphs
pub mod Settled
pub mod Rows
pub mod Tallying
pub mod Sums
