pub mod WriteLists
pub mod ZoneLaws
pub mod ListingLaws
pub mod Scores
pub mod ExistenceLaws
pub mod Ranks
pub mod FinishOrders
pub mod Slots
