pub mod Faults
pub mod Explanations
