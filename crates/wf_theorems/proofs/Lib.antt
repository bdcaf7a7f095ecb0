pub mod Ends
mod FirstOnes
mod Halted
mod Present
mod PresentBodies
mod Scripts
mod Submitted
mod Touches
mod TouchesBody
