pub mod Report
pub mod VerdictFaults
pub mod AuditIo
pub mod ExplainIo
pub mod TraceIo
pub mod CheckIo
pub mod Endings
