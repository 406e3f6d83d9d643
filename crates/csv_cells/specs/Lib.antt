pub use Rattle.scalar_texts.specs.Numbers
pub use Rattle.text_dictionary.specs.Texts
pub mod Cells
pub mod Rfc4180
pub mod Encoded
