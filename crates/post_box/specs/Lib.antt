pub mod Boxes
pub mod Views
pub mod Rule
