pub mod Records
pub mod Onward
pub mod RoundTrip
