pub mod Marks
pub mod Lexemes
pub mod Spelled
pub mod Nexts
pub mod Unique
pub mod RefusalNumbers
