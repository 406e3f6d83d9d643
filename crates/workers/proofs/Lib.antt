pub mod Moves
pub mod Ones
pub mod Publishing
pub mod Crossing
pub mod Counting
mod Bits
mod Rest
