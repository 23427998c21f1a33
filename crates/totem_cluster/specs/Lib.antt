pub mod IoFaults
pub mod SimIo
pub mod RunIo
pub mod RunWords
pub mod WeaveIo
pub mod Endings
