pub mod ClassOf
pub mod Ascending
pub mod PassedClasses
pub mod Walks
pub mod Spreads
