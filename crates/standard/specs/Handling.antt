-- What a handler adds to a resource of one identifier that is always ready.
use Rattle.std.specs.Prelude.{◌≡◌, ℕ, ◌<◌, ◌≢◌}
use Rattle.standard.specs.SingleMeaning.{SingleRules, LawfulRules}

-- its rules, what it is made of, and what it notes for each slot
pub record Handling (S : Type 0) : Type 1 where
  pub rules : SingleRules
  pub lawful : LawfulRules rules
  pub made : S → rules.Made
  pub note : S → ℕ → rules.Note

module _ {S : Type 0} (N : Handling S) where
  -- a call on one slot keeps what the handler is made of, and what it notes for every other slot
  pub record OtherNotesStay (slot : ℕ) (before after : S) : Type 0 where
    pub made : N.made after ≡ N.made before
    pub others : (k : ℕ) → (k ≢ slot) → N.note after k ≡ N.note before k

  -- nothing was noted so far
  abbrev pub NothingNoted : S → Type 0
  NothingNoted k = (slot : ℕ) → slot < 4 → N.note k slot ≡ N.rules.start
