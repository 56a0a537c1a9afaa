pub mod ShownTwos
-- Where the clusters of a clear key have a listing, and what is printed of them.
pub mod LeastListed
pub mod PrintedShown
mod Found
mod TestKeys
