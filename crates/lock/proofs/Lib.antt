pub mod Rows
pub mod Waiters
pub mod Waiting
pub mod RuleProofs
