pub mod Fed
pub mod Single
pub mod Told
