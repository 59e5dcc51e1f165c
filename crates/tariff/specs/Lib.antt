pub mod Costs
pub mod Joinings
pub mod Rankings
pub mod Scarcities
pub mod ScarcityLaws
pub mod CostLaws
