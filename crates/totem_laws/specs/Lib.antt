pub mod Excuses
pub mod OneAnswer
pub mod Laws
