-- Document 01's examples, computed.
pub mod Cases
