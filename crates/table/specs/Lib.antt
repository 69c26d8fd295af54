pub mod Order
pub mod Entries
pub mod Laws
pub mod Runs
pub mod Refusals
pub mod Tables
pub mod Ordered
pub mod LineTables
