pub mod Bad
pub mod Plain
pub mod Rings
pub mod Found
pub mod Gathered
pub mod Numbered
