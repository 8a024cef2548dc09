pub mod PrintedAnswers
pub mod CallLines
pub mod PrintedCalls
pub mod LineWords
