mod ReadByGrammar
pub mod Rows
pub mod OneNumber
