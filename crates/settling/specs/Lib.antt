pub mod Keys
pub mod Leading
pub mod Steps
pub mod Boards
