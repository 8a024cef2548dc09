pub mod TableLemmas
pub mod TallyLemmas
