pub mod Numbered
pub mod Each
pub mod Kinds
pub mod Counts
pub mod Rising
pub mod Certifying
pub mod CheckFaults
pub mod Checks
