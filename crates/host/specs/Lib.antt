pub mod HostRefinement
pub mod Calls
pub mod TurnTables
pub mod PlayerRefinement
pub mod PlayedLists
