pub mod UnitNames
pub mod Joining
pub mod JoinerViews
pub mod LineReading
pub mod LineNames
