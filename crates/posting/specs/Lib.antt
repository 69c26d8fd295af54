pub mod Faults
pub mod Working
pub mod Changes
