pub mod Tokens
pub mod Scalars
pub mod Conditions
pub mod Phrases
pub mod Relations
pub mod Programs
pub mod Texts
