pub mod Wraps
pub mod Sizes
pub mod Copies
pub mod Seen
