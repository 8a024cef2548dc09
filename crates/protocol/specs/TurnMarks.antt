-- When a turn goes out and comes in: the mark of a connection follows the calls and their answers.
use Rattle.std.specs.Prelude.{◌≡◌, ℕ, Bool, true, false, if◌then◌else◌, ◌&&◌, is_ok, Ok, Result, ◌==◌}
use Rattle.protocol.specs.declared.refusal.Refusal.{Refusal}
use Rattle.resource.specs.Meaning.{Meaning}
use Rattle.protocol.specs.SlotCalls.{SlotState, SlotCall, next, feed, expire, CallAnswer, done}
use Rattle.protocol.specs.Runs.{HostCall, clock, at, HostState, answer, step}
use Rattle.protocol.specs.HostLaws.{hands_turn}

-- whether a connection's turn is out
abbrev pub mark : {A : Type 0} → ℕ → SlotState A → Bool
mark k st = (st.slot.conn k).out

-- whether a feed spent its turn
abbrev pub spends : Result CallAnswer Refusal → Bool
spends (Ok done) = true
spends _ = false

-- the mark of connection k after a call that was answered so: a next may hand out a turn, a feed may spend it, and an expiry does
abbrev pub mark_after : SlotCall → Result CallAnswer Refusal → ℕ → Bool → Bool
mark_after (next c room) r k out = if hands_turn r && k == c then true else out
mark_after (feed c lpdu) r k out = if spends r && k == c then false else out
mark_after (expire c) r k out = if is_ok r && k == c then false else out
mark_after _ r k out = out

-- that of connection k of slot s: only a call of the slot may change it
abbrev pub mark_in : HostCall → Result CallAnswer Refusal → ℕ → ℕ → Bool → Bool
mark_in (clock t) r s k out = out
mark_in (at i a) r s k out = if s == i then mark_after a r k out else out

module _ {S : Type 0} (M : Meaning S) (made : M.Made) where
  -- after each call each mark is what the call and its answer make of it, whatever the records and shares are
  abbrev pub TurnsFollow : Type 0
  TurnsFollow = (c : HostCall) (h : HostState M made) (s k : ℕ) → mark k (step M made c h s) ≡ mark_in c (answer M made c h) s k (mark k (h s))
