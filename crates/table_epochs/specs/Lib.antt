pub mod Followed
pub mod Going
