pub mod Keep
pub mod Merges
pub mod Less
