pub mod RowParts
pub mod RoundTripHolds
pub mod FollowLaws
pub mod WorkedInFullHold
