pub mod Memory
pub mod Meaning
pub mod SetUp
pub mod Outcomes
