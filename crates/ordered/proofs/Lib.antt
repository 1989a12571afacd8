pub mod Shifts
pub mod Sortedness
pub mod Counts
pub mod Held
pub mod Fronts
