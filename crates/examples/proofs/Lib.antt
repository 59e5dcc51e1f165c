pub mod ComputedTests
pub mod ExamplesSettled
pub mod ListsTried
pub mod PathPlans
pub mod SoundNets
