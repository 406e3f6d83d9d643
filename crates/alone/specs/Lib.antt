pub mod Moves
pub mod Parts
pub mod Rests
pub mod Scenes
