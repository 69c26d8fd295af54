pub mod PendingPlaces
pub mod KeySearch
pub mod PendingNext
pub mod PendingEdits
