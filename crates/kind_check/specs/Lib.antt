pub mod Scopes
pub mod Steps
pub use Rattle.field_kinds.specs.Found
