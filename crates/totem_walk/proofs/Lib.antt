pub mod Common
pub mod Finding
pub mod Noting
pub mod Pacing
pub mod Joining
