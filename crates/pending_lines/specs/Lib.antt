pub mod ChangeLists
pub mod PendingLines
