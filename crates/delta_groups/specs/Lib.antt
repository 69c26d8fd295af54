pub mod Nets
pub mod Groups
pub mod Totals
