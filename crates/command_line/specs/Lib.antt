pub mod Faults
pub mod Numbers
pub mod Counts
pub mod Line
pub mod Usages
