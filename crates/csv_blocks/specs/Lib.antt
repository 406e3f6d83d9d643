pub mod Texts
pub mod Blocks
pub mod Moves
