pub mod Grown
pub mod Latest
pub mod OwnTicks
pub mod MomentLaws
pub mod Rearranging
