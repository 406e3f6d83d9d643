pub mod Kinds
pub mod Relations
pub mod Renaming
