pub mod Alone
pub mod Alones
pub mod Answered
pub mod Applied
pub mod Begun
pub mod Blocks
pub mod BodyEnds
pub mod BoundBodies
pub mod BoundPlaces
pub mod BoundRuns
pub mod Calls
pub mod Carried
pub mod Changes
mod HelpAndOrderActing
pub mod HelpAndOrderIds
pub mod HelpAndOrderLaws
mod HelpAndOrderOthers
pub mod HelpAndOrderRows
pub mod HelpAndOrderRuns
pub mod HelpAndOrderSteps
pub mod Copied
pub mod Counted
pub mod Counts
pub mod EachCounts
pub mod Effects
mod Example
pub mod Exchange
mod Fetched
pub mod FewValues
pub mod Frame
mod HelpActing
pub mod HelpBodies
pub mod HelpIds
pub mod HelpLaws
pub mod HelpOrders
mod HelpOthers
mod HelpRows
pub mod HelpRuns
mod HelpSteps
pub mod Keeps
pub mod KeepsAnnouncements
mod KeepsBelow
mod KeepsBits
mod KeepsCopies
pub mod KeepsFetched
pub mod KeepsHelp
pub mod KeepsLinks
mod KeepsMarks
mod KeepsNumbers
pub mod KeepsOrder
mod KeepsRanges
mod KeepsReady
mod KeepsScripts
pub mod KeepsSound
mod KeepsTime
pub mod KeepsTurns
pub mod Legal
pub mod Limits
mod Looking
pub mod Lowers
mod Making
pub mod Moves
pub mod Numbers
mod Passed
pub mod Performed
pub mod Rounds
pub mod Seen
pub mod HelpedCalls
mod Serving
pub mod Since
pub mod StandingLaws
pub mod StandingOrders
pub mod StandingPlaces
pub mod StandingRows
pub mod StandingRuns
pub mod StartSound
pub mod Stuck
pub mod SubmitSound
pub mod SumBodies
pub mod Sums
pub mod TableBodies
pub mod TableRuns
pub mod Timed
pub mod Toggles
pub mod Unique
pub mod Words
