pub mod Common
pub mod Placed
pub mod Quick
pub mod Origins
pub mod Sent
pub mod Knowing
pub mod Repeating
pub mod Forming
