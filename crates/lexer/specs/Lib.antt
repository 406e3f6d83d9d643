pub mod Marks
pub mod Lexemes
pub mod Tokens
pub mod Faults
