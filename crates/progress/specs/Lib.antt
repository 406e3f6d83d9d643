pub mod Times
pub mod TimeCounts
pub mod NodeCounts
pub mod ForkSizes
pub mod Sifting
pub mod Content
pub mod Shown
pub mod Kept
