pub mod NodeChange
pub mod Writing
pub mod Changed
