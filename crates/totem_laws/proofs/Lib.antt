pub mod Broken
pub mod Installed
pub mod Excused
pub mod RisingLists
pub mod OneList
pub mod OneBreak
pub mod OneCertificate
pub mod OneAnswer
