pub mod Common
pub mod Matching
pub mod Standing
pub mod Certain
pub mod Exactly
pub mod Checking
