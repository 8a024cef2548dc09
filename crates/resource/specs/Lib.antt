pub mod Identifiers
pub mod ShortApdu
pub mod NumberTables
pub mod Meaning
pub mod Lawful
pub mod InterfaceViews
pub mod CallEffects
