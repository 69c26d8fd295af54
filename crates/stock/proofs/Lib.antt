pub mod Rows
pub mod SameLines
pub mod Accepted
pub mod Plays
pub mod Copies
pub mod StockLaws
