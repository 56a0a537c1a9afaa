pub mod LeastTwos
pub mod Halving
