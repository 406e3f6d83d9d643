pub mod Tokens
pub mod Phrases
pub mod Scalars
pub mod Conditions
pub mod Relations
pub mod Programs
pub mod Texts
