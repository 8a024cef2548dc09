-- What a resource means: all that it keeps for a slot, and what each call answers and leaves.
use Rattle.std.specs.Prelude.{ℕ, Bool, List, Option, Result}
use Rattle.wire.specs.declared.apdu.Apdu.{Apdu}

-- what a resource answers to an object: a reply or none, or a refusal byte
abbrev pub Reaction : Type 0
Reaction = Result (Option (List ℕ)) ℕ

-- what an object comes to: the answer, and what is left
pub record Outcome (A : Type 0) : Type 0 where
  pub reaction : Reaction
  pub left : A

abbrev pub outcome : {A : Type 0} → Reaction → A → Outcome A
outcome r a = record { reaction = r; left = a }

-- a resource as functions of what it is made of, which never changes, and of its share of one slot: all that it keeps for the slot
pub record Meaning (S : Type 0) : Type 1 where
  pub Made : Type 0
  pub Share : Type 0
  pub made : S → Made
  pub share : S → ℕ → Share
  -- its identifiers, and whether a share holds the session of this number and identifier
  pub listed : Made → List ℕ
  pub holds : Made → Share → ℕ → ℕ → Bool
  -- a beginning: the share that holds no session, where this time was told last
  pub beginning : Made → Option (List ℕ) → Share
  -- what it answers: to a slot and an identifier, to an identifier, to a slot
  pub ready : Made → ℕ → ℕ → Share → ℕ
  pub greeting : Made → ℕ → Option (List ℕ)
  pub count : Made → ℕ → Share → ℕ
  -- what a slot, an identifier and a number leave, and what an object in that session comes to
  pub opened : Made → ℕ → ℕ → ℕ → Share → Share
  pub closed : Made → ℕ → ℕ → ℕ → Share → Share
  pub object : Made → ℕ → ℕ → ℕ → Apdu (List ℕ) → Share → Outcome Share
  -- what the end of a slot's module leaves, and what a time leaves
  pub gone : Made → ℕ → Share → Share
  pub told : Made → List ℕ → Share → Share
