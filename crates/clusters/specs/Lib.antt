pub mod Sorting
pub mod Laws
pub mod Tables
pub mod Gathering
