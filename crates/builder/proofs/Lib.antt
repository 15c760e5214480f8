-- What the builder has written, step by step.
pub mod BuildRows
pub mod BuildWritten
pub mod BuildOrder
pub mod BuildBlocks
pub mod BuildTurns
pub mod BuildFilled
pub mod BuildPlaces
pub mod BuildTable
