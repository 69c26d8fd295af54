pub mod Counts
pub mod Appended
pub mod Steps
pub mod Finished
pub mod Zeros
mod UpToOver
