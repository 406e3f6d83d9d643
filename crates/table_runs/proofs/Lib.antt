pub mod Statuses
pub mod Answered
