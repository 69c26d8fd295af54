pub mod Nets
pub mod NetTable
pub mod GatherRefusal
pub mod Gathered
pub mod NetRun
pub mod Shorts
pub mod NetLaws
