mod ProfileBytes
mod SessionSetLemmas
