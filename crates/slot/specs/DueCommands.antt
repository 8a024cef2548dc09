-- The command that is due.
use Rattle.std.specs.Prelude.{ℕ, Bool, true, false, List, [], Some, None, Option, Ok, Err, Result}
use Rattle.wire.specs.LpduWriting.{lpdus_bytes}
use Rattle.wire.specs.declared.tpdu.Command.{Command}
use Rattle.wire.specs.TpduWriting.{command_bytes}
use Rattle.wire.specs.TpduViews.{map_command}
use Rattle.wire.specs.declared.spdu.SessionReply.{SessionReply}
use Rattle.wire.specs.SpduWriting.{reply_bytes}
use Rattle.wire.specs.SpduViews.{map_reply}
use Rattle.resource.specs.declared.apdu_buf.ApduBuf.{ApduBuf}
use Rattle.protocol.specs.declared.refusal.Refusal.{Refusal}
use Rattle.resource.specs.Meaning.{Meaning}
use Rattle.resource.specs.InterfaceViews.{buffer_bytes}
use Rattle.protocol.specs.declared.state.State.TheVariants.{Idle, CreateDue, Active}
use Rattle.protocol.specs.SlotRecord.{after_greeting, other, cleared_connection}
use Rattle.protocol.specs.SlotRecord as rec
use Rattle.protocol.specs.SlotCalls.{SlotState, DueOutcome, set_connection, set_row}
use Rattle.slot.specs.Refinement.{state_at}
use Rattle.slot.specs.declared.transmit.Sender.{Sender}
use Rattle.slot.specs.declared.transmit.DueCommand.{DueCommand}
use Rattle.slot.specs.declared.transmit.Effect.{Effect}
use Rattle.slot.specs.declared.transmit.Effect.TheVariants.{Enter, Leave, Announce, Greet}

-- the record of a sender's slot, beside the resource's share of it
abbrev pub sender_state : {S : Type 0} (M : Meaning S) → Sender S → SlotState M.Share
sender_state M p = state_at M p.at p.record.now p.resource.now

-- the data of a command: what is said in a session, or nothing
abbrev pub said : Option (SessionReply ApduBuf) → List ℕ
said None = []
said (Some r) = reply_bytes (map_reply buffer_bytes r)

-- whether the turn is handed out
abbrev pub hands_out : Effect → Bool
hands_out Leave = false
hands_out _ = true

-- what is left of a slot when the command is written
abbrev pub left_by : {A : Type 0} → ℕ → Effect → SlotState A → SlotState A
left_by c (Enter s) st = set_connection c (rec.after_command s (st.slot.conn c)) st
left_by c Leave st = set_connection c (cleared_connection Idle false) st
left_by c Announce st = let out = set_connection c (rec.after_command Active (st.slot.conn c)) st in set_connection (other c) (cleared_connection CreateDue (out.slot.conn (other c)).out) out
left_by c (Greet n r) st = set_connection c (rec.after_command Active (st.slot.conn c)) (set_row n.number (Some (after_greeting r)) st.share st)

-- the code's due command, as the definitions have it
abbrev pub due_of : {A : Type 0} → ℕ → DueCommand → SlotState A → DueOutcome A
due_of c d st = record { command = map_command said d.command; turn = hands_out d.effect; left = left_by c d.effect st }

-- or why none is due
abbrev pub due_or : {A : Type 0} → ℕ → Result DueCommand Refusal → SlotState A → Result (DueOutcome A) Refusal
due_or c (Ok d) st = Ok (due_of c d st)
due_or c (Err e) st = Err e

-- the link units of a command
abbrev pub lpdus : ℕ → ℕ → Command (Option (SessionReply ApduBuf)) → List ℕ
lpdus c size o = lpdus_bytes c size (command_bytes c (map_command said o))
