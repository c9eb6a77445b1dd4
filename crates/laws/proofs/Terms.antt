-- Terms: how often a half occurs, which pairs stand in a term, and what renaming apart does to both.
-- Nothing here knows of values; the circle test's laws and single occurrence count with it.
pub mod Occurrences
pub mod Renaming
pub mod Standing
pub use Occurrences.*
pub use Renaming.*
unfoldable pub use Standing.*
