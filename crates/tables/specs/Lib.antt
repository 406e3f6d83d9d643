pub mod Tables
pub mod Dictionaries
pub mod Blocks
pub mod TextFiles
pub mod Inputs
pub use Rattle.csv_answers.specs.Answers
pub use Rattle.csv_answers.specs.Files
