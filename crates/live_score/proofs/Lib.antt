pub mod Answering
pub mod Counting
pub mod Existence
pub mod Greatest
pub mod Keeping
pub mod PlacesGrow
pub mod Raising
pub mod RowsGrow
pub mod Scores
pub mod Scoring
pub mod Stands
pub mod Starting
mod Parts
mod CountedParts
mod LastScores
