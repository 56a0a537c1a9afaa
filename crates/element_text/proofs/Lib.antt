pub mod Fronts
pub mod Follow
pub mod Plain
pub mod Marks
pub mod WordsRead
pub mod AttributesRead
pub mod TagsRead
pub mod ReadsBack
