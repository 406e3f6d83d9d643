pub use Rattle.table_faults.specs.Written
pub mod Read
