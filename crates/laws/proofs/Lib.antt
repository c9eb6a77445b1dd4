-- The laws of document 01's meaning. Read Promise first: the laws joined, for every accepted text and every two calls that ran.
-- Each law has a file that states it, and a folder of the same name with its proof: Circle, Single, Elsewhere, Reading, Runs, Own, Report, Call.
-- AnyPlace joins what every step keeps, whichever goal of the queue it takes. OnRecord has document 02's "One writer, one reader, nothing dropped".
-- Lists, Terms and Trial hold what several laws cite. Example applies demand 3 over texts to two calls.
pub mod Lists
pub mod Terms
pub mod Trial
pub mod Runs
pub mod Circle
pub mod Single
pub mod Elsewhere
pub mod Reading
pub mod Own
pub mod Report
pub mod Call
pub mod AnyPlace
pub mod OnRecord
pub mod Promise
pub mod Example
