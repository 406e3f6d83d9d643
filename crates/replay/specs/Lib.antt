pub mod Replays
pub mod Waits
pub mod Hands
pub mod Steps
