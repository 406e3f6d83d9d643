pub mod Batches
pub mod EmittedOutputs
pub mod FedEpochs
pub mod WorkedOff
pub mod Tellings
pub use Rattle.workers.proofs.Crossing
