pub mod FirstEpochs
pub mod PossibleChanges
pub mod StillWorks
