pub mod Hashes
pub mod Homes
pub mod Parts
pub mod Mail
