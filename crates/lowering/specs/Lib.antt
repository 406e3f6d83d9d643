pub mod Faults
pub mod Scopes
pub mod Gathering
pub mod Steps
pub mod Computing
pub mod Sent
pub mod FormKinds
pub mod Loops
