pub mod OneSlotCalled
pub mod TurnHandedOut
pub mod SlotStaysSound
pub mod HeldTurns
pub mod ListsGrow
pub mod EntriesOfOneSlot
