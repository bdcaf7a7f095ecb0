pub mod Actuals
pub mod Assignment
pub mod Bodies
mod CallLaw
pub mod Calling
pub mod Calls
mod Carried
pub mod CodeLaw
mod Declared
pub mod Decoded
pub mod Ends
pub mod Entries
pub mod Executions
pub mod ExportLaw
pub mod Expressions
pub mod ExpressionsGlue
pub mod Fitting
mod Formed
pub mod Found
pub mod Frames
pub mod Growth
mod Held
pub mod Initial
pub mod Instructions
pub mod KeptExpressions
pub mod KeptStatements
pub mod Law
pub mod Lengths
pub mod Located
pub mod Looking
pub mod Loops
pub mod Machine
pub mod Memory
pub mod Named
mod Names
pub mod OneEnd
pub mod OneWord
pub mod Opened
pub mod Operators
pub mod Outside
pub mod PartsLaw
pub mod Paths
pub mod Placed
pub mod Places
pub mod PlacingOwed
mod Plain
pub mod Positions
mod Programs
mod Ranges
pub mod Results
pub mod Room
pub mod Running
mod Shapes
pub mod Slots
pub mod Statements
pub mod StatementsGlue
pub mod StatementsOwed
mod StepLaw
pub mod Stepping
pub mod Steps
pub mod Typed
pub mod Values
mod WordLaw
