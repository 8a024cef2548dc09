-- The turns that a player holds.
use Rattle.std.specs.Prelude.{ℕ, ◌+◌, ◌-◌, ◌*◌, if◌then◌else◌, not, List, Some, None, Ok, Err, Option, Result, nat_lt, slice_index_or, slice_set}
use Rattle.protocol.specs.declared.refusal.Refusal.{Refusal}
use Rattle.protocol.specs.declared.refusal.Refusal.TheVariants as no
use Rattle.protocol.specs.SlotRecord.{valid_connection}
use Rattle.host.specs.declared.turn.Turn.{Turn}

abbrev pub turn_index : ℕ → ℕ → ℕ
turn_index s c = s * 2 + c - 1

-- the turn of a slot and a connection
abbrev pub turn_at : List (Option Turn) → ℕ → ℕ → Option Turn
turn_at ts s c = slice_index_or ts (turn_index s c) None

abbrev pub turn_or_refusal : Option Turn → Result Turn Refusal
turn_or_refusal None = Err no.Turn
turn_or_refusal (Some t) = Ok t

-- the turn is taken, if the slot and the connection exist
abbrev pub take_turn : ℕ → ℕ → List (Option Turn) → Result Turn Refusal × List (Option Turn)
take_turn s c ts =
    if nat_lt 3 s then (Err no.Slot, ts)
    else if not (valid_connection c) then (Err no.Connection, ts)
    else (turn_or_refusal (turn_at ts s c), slice_set ts (turn_index s c) None)

-- a turn is put where it belongs, and what was there comes back
abbrev pub put_turn : Turn → List (Option Turn) → Option Turn × List (Option Turn)
put_turn t ts = let p = turn_index t.slot.number t.connection.number in (slice_index_or ts p None, slice_set ts p (Some t))
