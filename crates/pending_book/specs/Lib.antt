pub mod Sums
pub mod PendingBook
pub mod PendingNext
