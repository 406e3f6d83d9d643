pub mod Relations
pub mod Standing
pub mod Scopes
pub mod Steps
pub use Rattle.field_origins.specs.Sources
pub use Rattle.field_origins.specs.Shown
pub use Rattle.field_origins.specs.Loops
