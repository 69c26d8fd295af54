pub mod PendingSum
pub mod PendingLawful
pub mod PendingNoted
pub mod PendingCalls
pub mod PendingWalk
pub mod BelowAfter
