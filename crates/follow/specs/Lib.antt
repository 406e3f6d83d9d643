pub mod Entries
pub mod Follows
pub mod Scenes
pub mod Slots
pub mod Steps
pub mod Working
