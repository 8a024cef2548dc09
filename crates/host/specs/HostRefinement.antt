-- The code's host as the definitions have it, and what a call does to it.
use Rattle.std.specs.Prelude.{◌≡◌, ℕ, ◌<◌, if◌then◌else◌, ◌&&◌, List, [], ◌∷◌, ◌++◌, map, take, is_some, Some, None, Ok, Err, Option, Result, nat_le, slice_index_or}
use Rattle.protocol.specs.declared.refusal.Refusal.{Refusal}
use Rattle.resource.specs.Meaning.{Meaning}
use Rattle.resource.specs.CallEffects.{New}
use Rattle.protocol.specs.declared.state.SessionRow.{SessionRow}
use Rattle.protocol.specs.SlotRecord as def
use Rattle.protocol.specs.SlotCalls.{SlotState, CallAnswer, done, turn_back, wrote}
use Rattle.protocol.specs.Runs.{HostCall, answer, step}
use Rattle.protocol.specs.HostLaws.{ReachedBy}
use Rattle.slot.specs.RecordViews.{slot_of}
use Rattle.host.specs.declared.sound_slot.Slot.{Slot}
use Rattle.host.specs.declared.turn.Turn.{Turn}
use Rattle.host.specs.declared.turn.NextCommand.{NextCommand}
use Rattle.host.specs.declared.turn.FeedOutcome.{FeedOutcome}
use Rattle.host.specs.declared.turn.FeedOutcome.TheVariants.{More, Done, Refused}
use Rattle.host.specs.declared.turn.ConnectionStatus.{ConnectionStatus}
use Rattle.host.specs.declared.turn.host.Host.{Host}

abbrev pub slot_record : Slot → def.SlotRecord
slot_record s = slot_of s.contents

-- a slot's record by the slot's number; there is nothing in a slot above 3
abbrev pub record_at : {S : Type 0} → Host S → ℕ → def.SlotRecord
record_at h s = slice_index_or (map slot_record h.slots) s def.new_slot

module _ {S : Type 0} (M : Meaning S) where
  -- each slot's record beside the resource's share
  abbrev pub host_state : Host S → ℕ → SlotState M.Share
  host_state h s = record { slot = record_at h s; share = M.share h.resource s }

  -- a call to the host: the answer and each slot are the definition's, what the resource is made of stays, and what a list of calls reached, the list with this call reaches
  pub record HostRefinesCall (c : HostCall) (r : Result CallAnswer Refusal) (h h' : Host S) : Type 0 where
    pub answers : r ≡ answer M (M.made h.resource) c (host_state h)
    pub after : (s : ℕ) → s < 4 → host_state h' s ≡ step M (M.made h.resource) c (host_state h) s
    pub made : M.made h'.resource ≡ M.made h.resource
    pub reached_by : (calls : List HostCall) → ReachedBy M (M.made h.resource) calls (host_state h) → ReachedBy M (M.made h.resource) (calls ++ c ∷ []) (host_state h')

  -- a new host: all slots are those of a new host, over this resource; where that is new, the host is reached by no calls
  pub record IsNewHost (r : S) (h : Host S) : Type 0 where
    pub slots : (s : ℕ) → record_at h s ≡ def.new_slot
    pub resource : h.resource ≡ r
    pub reached_by : New M r → ReachedBy M (M.made r) [] (host_state h)

-- what a feed answers, and that the turn that comes back is the one that was fed
abbrev pub fed_answer : FeedOutcome → Result CallAnswer Refusal
fed_answer (More t) = Ok turn_back
fed_answer Done = Ok done
fed_answer (Refused t e) = Err e

abbrev pub HandsTurnBack : Turn → FeedOutcome → Type 0
HandsTurnBack t (More u) = u ≡ t
HandsTurnBack t Done = Unit {0}
HandsTurnBack t (Refused u e) = u ≡ t

-- what a next answers, and whose turn it hands out
abbrev pub next_answer : Result NextCommand Refusal → List ℕ → Result CallAnswer Refusal
next_answer (Ok n) out = Ok (wrote (take n.length out) (is_some n.turn))
next_answer (Err e) out = Err e

abbrev pub TurnNames : ℕ → ℕ → Option Turn → Type 0
TurnNames slot c None = Unit {0}
TurnNames slot c (Some t) = (t.slot.number ≡ slot) × (t.connection.number ≡ c)

abbrev pub HandedTurnNames : ℕ → ℕ → Result NextCommand Refusal → Type 0
HandedTurnNames slot c (Ok n) = TurnNames slot c n.turn
HandedTurnNames slot c (Err e) = Unit {0}

-- what is read of a slot: its agreed size where it has a module, the state of a connection and whether its turn is out, and the session with a number
module _ {S : Type 0} (h : Host S) (slot : ℕ) where
  abbrev pub size_at : Option ℕ
  size_at = if nat_le slot 3 && (record_at h slot).present then Some (record_at h slot).size else None

  abbrev pub connection_at : ℕ → Option ConnectionStatus
  connection_at c =
      let x = (record_at h slot).conn c in
      if nat_le slot 3 && def.valid_connection c then Some (record { state = x.state; out = x.out }) else None

  abbrev pub session_at : ℕ → Option SessionRow
  session_at n = if nat_le slot 3 then (record_at h slot).rows n else None
