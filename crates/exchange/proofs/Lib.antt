pub mod Folds
pub mod Gathering
