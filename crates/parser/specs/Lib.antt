pub mod Faults
pub mod Scanning
pub mod Scalars
pub mod Conditions
pub mod Forms
pub mod Items
pub mod Refusals
