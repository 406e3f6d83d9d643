pub mod Holding
pub mod ReadNumbers
