pub mod Conflicts
pub mod Sweeps
pub mod Laws
pub mod Standings
