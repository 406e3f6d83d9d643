pub mod Answered
pub mod Going
pub mod Kept
pub mod Results
