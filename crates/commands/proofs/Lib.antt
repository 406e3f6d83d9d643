pub mod Answering
pub mod Fitting
pub mod RunEnds
pub mod Reporting
pub mod Noting
pub mod FollowedText
pub mod ReplayedText
pub mod Heeding
pub mod OneAnswer
pub mod HandedOver
mod AppendedAnswer
mod TakenLines
