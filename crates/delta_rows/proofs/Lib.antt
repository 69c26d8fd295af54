pub mod Kept
pub mod Turns
pub mod Merged
pub mod Merging
pub mod Sided
pub mod Sums
pub mod Surplus
