pub mod AllRings
pub mod Judging
