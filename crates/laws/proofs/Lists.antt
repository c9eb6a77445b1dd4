-- Lists, truth values and numbers: whatever the laws use of them that mentions nothing of the machine.
-- Each fact once; the laws take it from here.
pub mod Tests
pub mod Among
pub mod Filters
pub mod Sums
pub mod EachOf
pub mod OneByOne
pub mod Places
pub mod Pigeonhole
pub mod AnyOrder
pub mod OneTaken
pub use Tests.*
pub use Among.*
pub use Filters.*
pub use Sums.*
pub use EachOf.*
pub use OneByOne.*
pub use Places.*
unfoldable pub use Pigeonhole.*
pub use AnyOrder.*
pub use OneTaken.*
