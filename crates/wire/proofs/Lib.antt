pub mod WrittenBehind
pub mod LpduCuts
pub mod BodiesWithin
pub mod ReadingBackLemmas
pub mod WorkedLengths
pub mod JoinedPieces
