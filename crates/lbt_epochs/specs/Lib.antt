pub mod Links
pub mod Lists
pub mod Keys
pub mod TwoLaws
pub mod Steps
