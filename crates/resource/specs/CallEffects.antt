-- What a resource as it stands answers, and what a call leaves of it.
use Rattle.std.specs.Prelude.{◌≡◌, ℕ, ◌<◌, List, None, Option, ◌≢◌}
use Rattle.wire.specs.declared.apdu.Apdu.{Apdu}
use Rattle.resource.specs.Identifiers.{first_match}
use Rattle.resource.specs.Meaning.{Meaning, Outcome}

module _ {S : Type 0} (M : Meaning S) where
  abbrev pub finds : S → ℕ → Option ℕ
  finds r i = first_match (M.listed (M.made r)) i

  abbrev pub greets : S → ℕ → Option (List ℕ)
  greets r i = M.greeting (M.made r) i

  abbrev pub readiness : S → ℕ → ℕ → ℕ
  readiness r slot i = M.ready (M.made r) slot i (M.share r slot)

  abbrev pub counts : S → ℕ → ℕ
  counts r slot = M.count (M.made r) slot (M.share r slot)

  -- the share of the slot after each call
  abbrev pub after_opened : S → ℕ → ℕ → ℕ → M.Share
  after_opened r slot i n = M.opened (M.made r) slot i n (M.share r slot)

  abbrev pub after_closed : S → ℕ → ℕ → ℕ → M.Share
  after_closed r slot i n = M.closed (M.made r) slot i n (M.share r slot)

  abbrev pub after_object : S → ℕ → ℕ → ℕ → Apdu (List ℕ) → Outcome M.Share
  after_object r slot i n a = M.object (M.made r) slot i n a (M.share r slot)

  abbrev pub after_gone : S → ℕ → M.Share
  after_gone r slot = M.gone (M.made r) slot (M.share r slot)

  abbrev pub after_clock : S → ℕ → List ℕ → M.Share
  after_clock r slot t = M.told (M.made r) t (M.share r slot)

  -- a call on one slot keeps what the resource is made of, and every other slot's share
  pub record OthersStay (slot : ℕ) (before after : S) : Type 0 where
    pub made : M.made after ≡ M.made before
    pub others : (k : ℕ) → (k ≢ slot) → M.share after k ≡ M.share before k

  -- a new resource stands at its beginning, with no time
  abbrev pub New : S → Type 0
  New r = (slot : ℕ) → slot < 4 → M.share r slot ≡ M.beginning (M.made r) None
