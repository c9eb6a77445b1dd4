-- Trials and choices: what a result and a choice tell, what a comparison's places come to in any order, what it assigns, what guards wait on, and the
-- values after it. Both hard laws begin here: a goal that was reduced has a clause whose places all agreed, and its assignments are the only new values.
pub mod Results
pub mod Chosen
pub mod Table
pub mod Values
pub mod Places
pub mod Reached
pub mod Guards
pub mod Needed
pub mod InTurn
pub mod Later
pub mod AgreesLater
pub mod GuardsLater
pub mod Example
pub mod GuardsExample
pub use Results.*
pub use Chosen.*
unfoldable pub use Table.*
pub use Values.*
unfoldable pub use Places.*
unfoldable pub use Reached.*
unfoldable pub use Guards.*
unfoldable pub use Needed.*
unfoldable pub use InTurn.*
unfoldable pub use Later.*
pub use AgreesLater.*
pub use GuardsLater.*
