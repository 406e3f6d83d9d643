pub mod Scope
pub mod Columns
pub mod Fault
pub mod FirstFault
pub mod Verdict
pub mod Shown
