pub mod Waiting
pub mod Queued
pub mod WorkerViews
pub mod Stale
pub mod Opening
pub mod QueuedLists
pub use Rattle.progress.specs.Content
