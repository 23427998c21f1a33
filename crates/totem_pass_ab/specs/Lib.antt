pub mod Listed
pub mod Met
pub mod Noted
