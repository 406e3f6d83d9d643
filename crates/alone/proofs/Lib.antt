pub mod Free
pub mod Less
pub mod Moved
pub mod Resting
pub mod Stepping
