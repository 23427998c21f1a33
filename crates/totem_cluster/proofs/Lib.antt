pub mod Lines
pub mod ScriptReading
