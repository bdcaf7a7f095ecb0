pub mod Layers
pub mod Graph
pub mod Leaves
pub mod Nodes
pub mod Tellings
pub mod View
pub mod OutcomeGraph
pub mod Wholes
