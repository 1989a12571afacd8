pub mod Count
pub mod Rank
pub mod Basics
pub mod Conditions
pub mod Schedule
pub mod Runs
