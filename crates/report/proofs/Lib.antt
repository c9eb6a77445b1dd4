pub mod FactsKept
pub mod ReportIs
pub mod Reported
pub mod Sectioning
pub mod Sectionwise
pub mod SoundRun
pub mod StateLists
