pub mod Between
pub mod Acts
pub mod Deliveries
pub mod Pace
pub mod Order
