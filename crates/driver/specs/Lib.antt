pub mod Ends
pub mod Inputs
pub mod Tallies
pub mod Received
