pub mod Text
pub mod Schemas
pub mod Drafts
pub mod Steps
pub use Rattle.schema_lines.specs.Lines
pub use Rattle.schema_lines.specs.Words
