pub mod Pieces
pub mod Scalars
pub mod Conditions
pub mod Relations
pub mod Programs
pub mod Sources
