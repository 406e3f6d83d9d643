pub mod Followed
pub mod Ready
