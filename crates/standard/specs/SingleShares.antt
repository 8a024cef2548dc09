-- What a resource of one identifier means, by its handler.
use Rattle.std.specs.Prelude.{Bool, if◌then◌else◌, Some, None, Option, [], ◌∷◌, ℕ, get_or}
use Rattle.resource.specs.Meaning.{Meaning}
use Rattle.resource.specs.Lawful.{Lawful, nameable}
use Rattle.standard.specs.SingleMeaning.{SingleShare, single_share, single_of}
use Rattle.standard.specs.SingleLaws.{single_lawful}
use Rattle.standard.specs.declared.session_set.SessionSet.{SessionSet}
use Rattle.standard.specs.SetContents.{contains_number}
use Rattle.standard.specs.declared.single.SingleResource.{SingleResource}
use Rattle.standard.specs.declared.single.SessionKey.{SessionKey}
use Rattle.standard.specs.Handling.{Handling}

abbrev pub empty_set : SessionSet
empty_set = record { flags = [] }

-- the slot and the number of a session's key
abbrev pub key_numbers : SessionKey → ℕ × ℕ
key_numbers p = (p.slot.number, p.number.number)

module _ {K : Type 0} (N : Handling K) where
  abbrev pub share : SingleResource K → ℕ → SingleShare N.rules.Note
  share u slot = single_share u.time (contains_number (get_or u.held slot empty_set)) (N.note u.handler slot)

  abbrev pub single_meaning : Meaning (SingleResource K)
  single_meaning = single_of N.rules (λ u. N.made u.handler) share

  pub single_meaning_lawful : Lawful single_meaning
  single_meaning_lawful = single_lawful N.rules (λ u. N.made u.handler) share N.lawful

  -- the key of a slot, an identifier and a number, where they may name a session
  abbrev pub key_if_nameable : ℕ → ℕ → ℕ → Option (ℕ × ℕ)
  key_if_nameable slot i n = if nameable (N.rules.identifier ∷ []) slot i n then Some (slot, n) else None

  -- whether the session of this key is held
  abbrev pub holds_key : SingleResource K → SessionKey → Bool
  holds_key u p = (share u p.slot.number).held p.number.number
