-- What a player answers, and what it leaves of its host.
use Rattle.std.specs.Prelude.{◌≡◌, ℕ, ◌<◌, Bool, true, if◌then◌else◌, not, ◌&&◌, List, [], ◌∷◌, ◌++◌, length, Some, None, Ok, Err, Option, Result, ◌==◌, nat_le, nat_lt}
use Rattle.protocol.specs.declared.refusal.Refusal.{Refusal}
use Rattle.protocol.specs.declared.refusal.Refusal.TheVariants as no
use Rattle.resource.specs.Meaning.{Meaning}
use Rattle.protocol.specs.Results.{refuse_if}
use Rattle.protocol.specs.SlotRecord.{SlotRecord, valid_connection}
use Rattle.protocol.specs.SlotCalls.{SlotCall, plug, pull, end, next, feed, expire, done, turn_back, wrote}
use Rattle.protocol.specs.SlotCalls as def
use Rattle.protocol.specs.Runs.{clock, at, HostState, step}
use Rattle.protocol.specs.Runs as runs
use Rattle.protocol.specs.HostLaws.{ReachedBy}
use Rattle.slot.specs.WrittenCommands.{buffer_after}
use Rattle.host.specs.declared.turn.Turn.{Turn}
use Rattle.host.specs.declared.turn.host.Host.{Host}
use Rattle.host.specs.HostRefinement.{host_state, record_at}
use Rattle.host.specs.declared.call.Call.{Call}
use Rattle.host.specs.declared.call.Call.TheVariants.{Clock, Plug, Pull, End, Next, Feed, Expire}
use Rattle.host.specs.declared.call.Answer.{Answer}
use Rattle.host.specs.declared.call.Answer.TheVariants.{Done, More, Sent}
use Rattle.host.specs.declared.state.PlayerState.{PlayerState}
use Rattle.host.specs.TurnTables.{turn_at}

-- a call to a player is one to its host, with the room of the out buffer that lies beside it
abbrev pub call_of : Call (List ℕ) → ℕ → runs.HostCall
call_of (Clock t) room = clock t
call_of (Plug s size) room = at s (plug size)
call_of (Pull s) room = at s pull
call_of (End s c) room = at s (end c)
call_of (Next s c) room = at s (next c room)
call_of (Feed s c lpdu) room = at s (feed c lpdu)
call_of (Expire s c) room = at s (expire c)

-- an answer as a player gives it: how many bytes were written, in place of the bytes
abbrev pub player_answer : Result def.CallAnswer Refusal → Result Answer Refusal
player_answer (Ok done) = Ok Done
player_answer (Ok turn_back) = Ok More
player_answer (Ok (wrote bs turn)) = Ok (Sent (length bs) turn)
player_answer (Err e) = Err e

-- feed and expire are refused where the turn is not out
abbrev pub refuse_without_turn : ℕ → ℕ → SlotRecord → Result def.CallAnswer Refusal → Result def.CallAnswer Refusal
refuse_without_turn s c x r = refuse_if (nat_lt 3 s) no.Slot (refuse_if (not (valid_connection c)) no.Connection (refuse_if (not (x.conn c).out) no.Turn r))

abbrev pub refuse_call_without_turn : ℕ → SlotCall → SlotRecord → Result def.CallAnswer Refusal → Result def.CallAnswer Refusal
refuse_call_without_turn s (plug size) x r = r
refuse_call_without_turn s pull x r = r
refuse_call_without_turn s (end c) x r = r
refuse_call_without_turn s (next c room) x r = r
refuse_call_without_turn s (feed c lpdu) x r = refuse_without_turn s c x r
refuse_call_without_turn s (expire c) x r = refuse_without_turn s c x r

-- a turn that is held where one is out, and names the slot and the connection
abbrev pub turn_matches : ℕ → ℕ → Option Turn → Bool → Bool
turn_matches s c None out = not out
turn_matches s c (Some t) out = out && (t.slot.number == s && t.connection.number == c)

-- the turns that are held are just those that are out
abbrev pub TurnsMatch : {S : Type 0} → PlayerState S → Type 0
TurnsMatch d =
    (s c : ℕ) → (if nat_le s 3 && valid_connection c then turn_matches s c (turn_at d.held.turns s c) ((record_at d.host s).conn c).out else true) ≡ true

module _ {S : Type 0} (M : Meaning S) where
  -- what a player answers: as its host does, but for turns that are not out
  abbrev pub player_reply : (made : M.Made) → runs.HostCall → HostState M made → Result def.CallAnswer Refusal
  player_reply made (clock t) h = runs.answer M made (clock t) h
  player_reply made (at s a) h = refuse_call_without_turn s a (h s).slot (runs.answer M made (at s a) h)

  -- a call to a player: what it answers and leaves in the out buffer are the reply's, each slot is the definition's, what the resource is made of stays, and what a list of calls reached, the list with this call reaches
  pub record PlayerRefinesCall (c : runs.HostCall) (r : Result Answer Refusal) (out out' : List ℕ) (h h' : Host S) : Type 0 where
    pub answer : r ≡ player_answer (player_reply (M.made h.resource) c (host_state M h))
    pub bytes : out' ≡ buffer_after (player_reply (M.made h.resource) c (host_state M h)) out
    pub after : (s : ℕ) → s < 4 → host_state M h' s ≡ step M (M.made h.resource) c (host_state M h) s
    pub made : M.made h'.resource ≡ M.made h.resource
    pub reached_by : (calls : List runs.HostCall) → ReachedBy M (M.made h.resource) calls (host_state M h) → ReachedBy M (M.made h.resource) (calls ++ c ∷ []) (host_state M h')
