pub mod Prefixes
pub mod Steps
pub mod Walks
