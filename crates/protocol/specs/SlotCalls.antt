-- What each call answers, and what it leaves of the slot that it names.
use Rattle.std.specs.Prelude.{ℕ, Bool, true, false, if◌then◌else◌, not, List, [], ◌∷◌, ◌++◌, length, is_some, Some, None, Ok, Err, Option, Result, ◌==◌, nat_lt}
use Rattle.wire.specs.declared.fault.Fault.{Fault}
use Rattle.wire.specs.Reading.{Located}
use Rattle.wire.specs.LpduReading.{read_fragment}
use Rattle.wire.specs.LpduWriting.{lpdus_bytes}
use Rattle.wire.specs.declared.tpdu.Command.{Command}
use Rattle.wire.specs.declared.tpdu.Command.TheVariants as cmd
use Rattle.wire.specs.declared.tpdu.ResponseObject.{ResponseObject}
use Rattle.wire.specs.declared.tpdu.ResponseObject.TheVariants as obj
use Rattle.wire.specs.TpduWriting.{command_bytes}
use Rattle.wire.specs.TpduReading.{read_response}
use Rattle.wire.specs.declared.spdu.SessionRequest.{SessionRequest}
use Rattle.wire.specs.declared.spdu.SessionRequest.TheVariants as ask
use Rattle.wire.specs.declared.spdu.SessionReply.TheVariants as say
use Rattle.wire.specs.SpduWriting.{reply_bytes}
use Rattle.wire.specs.SpduReading.{read_request}
use Rattle.wire.specs.declared.apdu.Apdu.{Apdu}
use Rattle.wire.specs.ApduReading.{read_apdu}
use Rattle.protocol.specs.declared.refusal.Refusal.{Refusal}
use Rattle.protocol.specs.declared.refusal.Refusal.TheVariants as no
use Rattle.resource.specs.NumberTables.{session_numbers, first}
use Rattle.resource.specs.Identifiers.{first_match, older}
use Rattle.resource.specs.Meaning.{Meaning, Reaction, Outcome}
use Rattle.protocol.specs.declared.state.State.{State}
use Rattle.protocol.specs.declared.state.State.TheVariants.{Idle, CreateDue, Creating, Active, DeleteDue, Deleting, ReplyDue}
use Rattle.protocol.specs.declared.state.SessionRow.{SessionRow}
use Rattle.protocol.specs.declared.state.OwedCommand.{OwedCommand}
use Rattle.protocol.specs.declared.state.OwedCommand.TheVariants.{NewConnection, NoConnection, SessionUnit}
use Rattle.protocol.specs.Limits.{fragment_limit, data_limit, least_size}
use Rattle.protocol.specs.Results.{and_then, refuse_if, fault_as_refusal}
use Rattle.protocol.specs.SlotRecord.{SlotRecord, ConnectionRecord, valid_connection, other, is_idle, is_active, module_may_speak, cleared_connection, after_command, with_owed, without_turn, append_fragment, after_unit, with_conn, with_row, with_module, without_module, first_free_number, is_open_on, has_greeting_due, after_greeting}

-- a call that names a slot
pub data SlotCall : Type 0 where
  plug : ℕ → SlotCall
  pull : SlotCall
  end : ℕ → SlotCall
  next : ℕ → ℕ → SlotCall
  feed : ℕ → List ℕ → SlotCall
  expire : ℕ → SlotCall

-- the answer to a call that is served: a feed may hand its turn back, and a next tells what it wrote and whether it hands out a turn
pub data CallAnswer : Type 0 where
  done : CallAnswer
  turn_back : CallAnswer
  wrote : List ℕ → Bool → CallAnswer

-- a slot's record beside the resource's share of the slot
pub record SlotState (A : Type 0) : Type 0 where
  pub slot : SlotRecord
  pub share : A

pub record ServedCall (A : Type 0) : Type 0 where
  pub answer : CallAnswer
  pub left : SlotState A

-- what is due to be written, whether it hands out a turn, and what is left when it is written
pub record DueOutcome (A : Type 0) : Type 0 where
  pub command : Command (List ℕ)
  pub turn : Bool
  pub left : SlotState A

-- what a served call answers and leaves
abbrev pub serve : {A : Type 0} → CallAnswer → SlotState A → Result (ServedCall A) Refusal
serve a st = Ok (record { answer = a; left = st })

-- a unit's fault as the refusal that carries it
abbrev pub transport_fault : Fault → Refusal
transport_fault e = no.Transport (record { 0 = e })

abbrev pub session_fault : Fault → Refusal
session_fault e = no.Session (record { 0 = e })

abbrev pub object_fault : Fault → Refusal
object_fault e = no.Apdu (record { 0 = e })

-- one connection changed
abbrev pub set_connection : {A : Type 0} → ℕ → ConnectionRecord → SlotState A → SlotState A
set_connection c x st = record st { slot = with_conn c x st.slot }

abbrev pub owe : {A : Type 0} → ℕ → OwedCommand (List ℕ) → SlotState A → SlotState A
owe c o st = set_connection c (with_owed o (st.slot.conn c)) st

-- one row changed, and the share with it
abbrev pub set_row : {A : Type 0} → ℕ → Option SessionRow → A → SlotState A → SlotState A
set_row n r a st = record { slot = with_row n r st.slot; share = a }

abbrev pub set_share : {A : Type 0} → A → SlotState A → SlotState A
set_share a st = record st { share = a }

-- a connection hears a whole unit and is Active after it
abbrev pub hear : {A : Type 0} → ℕ → Bool → List ℕ → SlotState A → SlotState A
hear c v bs st = set_connection c (after_unit v bs (st.slot.conn c)) st

-- what is owed, as a command: 87 names the other connection, 88 says that there is none, and a session unit goes in one A0
abbrev pub command_of_owed : ℕ → OwedCommand (List ℕ) → Command (List ℕ)
command_of_owed c NewConnection = cmd.NewConnection (other c)
command_of_owed c NoConnection = cmd.Error 1
command_of_owed c (SessionUnit x) = cmd.Data (reply_bytes x)

-- what an object says, wherever it stands
abbrev pub apdu_of : Apdu Located → Apdu (List ℕ)
apdu_of a = record { tag = a.tag; body = a.body.bytes }

module _ {S : Type 0} (M : Meaning S) (made : M.Made) (at : ℕ) where
  -- a session of the connection ends, and the resource is told
  abbrev pub close_session : ℕ → Option SessionRow → ℕ → SlotState M.Share → SlotState M.Share
  close_session c None n st = st
  close_session c (Some r) n st = if r.connection == c then set_row n None (M.closed made at r.identifier n st.share) st else st

  -- those of these numbers do, in this order
  abbrev pub close_sessions : ℕ → List ℕ → SlotState M.Share → SlotState M.Share
  close_sessions c [] st = st
  close_sessions c (n ∷ ns) st = close_sessions c ns (close_session c (st.slot.rows n) n st)

  -- a connection leaves Active or becomes Idle: its sessions end in rising order, and it loses all but the mark
  abbrev pub leave : ℕ → State → Bool → SlotState M.Share → SlotState M.Share
  leave c s o st = set_connection c (cleared_connection s o) (close_sessions c session_numbers st)

  abbrev pub plug_outcome : ℕ → SlotState M.Share → Result (ServedCall M.Share) Refusal
  plug_outcome size st =
      refuse_if (nat_lt size least_size) no.Size
      (refuse_if st.slot.present no.Presence
      (serve done (record st { slot = with_module size st.slot })))

  abbrev pub pull_outcome : SlotState M.Share → Result (ServedCall M.Share) Refusal
  pull_outcome st =
      refuse_if (not st.slot.present) no.Presence
      (serve done (record { slot = without_module st.slot; share = M.gone made at st.share }))

  abbrev pub end_outcome : ℕ → SlotState M.Share → Result (ServedCall M.Share) Refusal
  end_outcome c st =
      refuse_if (not (valid_connection c)) no.Connection
      (refuse_if (not st.slot.present) no.Presence
      (refuse_if (st.slot.conn c).out no.Turn
      (refuse_if (not (is_active (st.slot.conn c).state)) no.State
      (serve done (leave c DeleteDue false st)))))

  -- a marked connection where a module may speak becomes Idle, and the mark goes
  abbrev pub expire_turn : ℕ → SlotState M.Share → SlotState M.Share
  expire_turn c st = if module_may_speak (st.slot.conn c).state then leave c Idle false st else set_connection c (without_turn (st.slot.conn c)) st

  -- a turn names one of the two connections, so an expiry is always served
  abbrev pub expire_outcome : ℕ → SlotState M.Share → Result (ServedCall M.Share) Refusal
  expire_outcome c st =
      refuse_if (not (valid_connection c)) no.Connection
      (serve done (if (st.slot.conn c).out then expire_turn c st else st))

  -- a command that hands out a turn
  abbrev pub command_with_turn : ℕ → State → Command (List ℕ) → SlotState M.Share → DueOutcome M.Share
  command_with_turn c s o st = record { command = o; turn = true; left = set_connection c (after_command s (st.slot.conn c)) st }

  -- 81 where the module has data to send, or else an empty A0
  abbrev pub poll : ℕ → SlotState M.Share → DueOutcome M.Share
  poll c st = command_with_turn c Active (if (st.slot.conn c).available then cmd.Receive else cmd.Data []) st

  abbrev pub greet_with : ℕ → ℕ → SessionRow → Option (List ℕ) → SlotState M.Share → DueOutcome M.Share
  greet_with c n r None st = poll c st
  greet_with c n r (Some apdu) st =
      command_with_turn c Active (cmd.Data (reply_bytes (say.Data n apdu))) (set_row n (Some (after_greeting r)) st.share st)

  abbrev pub greet_row : ℕ → ℕ → Option SessionRow → SlotState M.Share → DueOutcome M.Share
  greet_row c n None st = poll c st
  greet_row c n (Some r) st = greet_with c n r (M.greeting made r.identifier) st

  -- the greeting of a session, where there is one
  abbrev pub greet : ℕ → Option ℕ → SlotState M.Share → DueOutcome M.Share
  greet c None st = poll c st
  greet c (Some n) st = greet_row c n (st.slot.rows n) st

  -- 87 makes the other connection Create due
  abbrev pub announce : ℕ → OwedCommand (List ℕ) → DueOutcome M.Share → DueOutcome M.Share
  announce c NewConnection d = record d { left = set_connection (other c) (cleared_connection CreateDue (d.left.slot.conn (other c)).out) d.left }
  announce c _ d = d

  -- on an Active connection: what is owed, or else the due greeting of the lowest number, or else a poll
  abbrev pub active_due : ℕ → Option (OwedCommand (List ℕ)) → SlotState M.Share → DueOutcome M.Share
  active_due c (Some o) st = announce c o (command_with_turn c Active (command_of_owed c o) st)
  active_due c None st = greet c (first (λ n. has_greeting_due c (st.slot.rows n)) session_numbers) st

  -- by the connection's state; every command but 85 hands out a turn
  abbrev pub due_command : ℕ → State → SlotState M.Share → Result (DueOutcome M.Share) Refusal
  due_command c CreateDue st = Ok (command_with_turn c Creating cmd.Create st)
  due_command c Active st = Ok (active_due c (st.slot.conn c).owed st)
  due_command c DeleteDue st = Ok (command_with_turn c Deleting cmd.Delete st)
  due_command c ReplyDue st = Ok (record { command = cmd.DeleteReply; turn = false; left = set_connection c (cleared_connection Idle false) st })
  due_command c _ st = Err no.State

  abbrev pub write_in : ℕ → List ℕ → DueOutcome M.Share → Result (ServedCall M.Share) Refusal
  write_in room lpdus d = refuse_if (nat_lt room (length lpdus)) no.Room (serve (wrote lpdus d.turn) d.left)

  abbrev pub next_outcome : ℕ → ℕ → SlotState M.Share → Result (ServedCall M.Share) Refusal
  next_outcome c room st =
      refuse_if (not (valid_connection c)) no.Connection
      (refuse_if (not st.slot.present) no.Presence
      (refuse_if (st.slot.conn c).out no.Turn
      (and_then (due_command c (st.slot.conn c).state st) (λ d.
      write_in room (lpdus_bytes c st.slot.size (command_bytes c d.command)) d))))

  -- the session opens with the number that is free, if one is
  abbrev pub open_if_free : ℕ → ℕ → Option ℕ → SlotState M.Share → SlotState M.Share
  open_if_free c j None st = owe c (SessionUnit (say.OpenResponse 0xf3 j 0)) st
  open_if_free c j (Some n) st =
      owe c (SessionUnit (say.OpenResponse 0 j n))
      (set_row n (Some (record { connection = c; identifier = j; greeting_due = is_some (M.greeting made j) }))
      (M.opened made at j n st.share) st)

  -- the resource is ready with this status
  abbrev pub open_if_ready : ℕ → ℕ → ℕ → SlotState M.Share → SlotState M.Share
  open_if_ready c j status st = if status == 0 then open_if_free c j (first_free_number st.slot.rows) st else owe c (SessionUnit (say.OpenResponse status j 0)) st

  -- 91: nothing matches, or this listed identifier does
  abbrev pub take_open_request : ℕ → ℕ → Option ℕ → SlotState M.Share → SlotState M.Share
  take_open_request c i None st = owe c (SessionUnit (say.OpenResponse 0xf0 i 0)) st
  take_open_request c i (Some j) st =
      if older j i then owe c (SessionUnit (say.OpenResponse 0xf2 j 0)) st else open_if_ready c j (M.ready made at j st.share) st

  -- 95: the session ends if it is open on this connection
  abbrev pub take_close_request : ℕ → ℕ → SlotState M.Share → SlotState M.Share
  take_close_request c n st = owe c (SessionUnit (say.CloseResponse (if is_open_on c (st.slot.rows n) then 0 else 0xf0) n)) (close_session c (st.slot.rows n) n st)

  -- what the resource makes of an object: a refusal, or a share with a reply that is owed, if any
  abbrev pub apply_reaction : ℕ → ℕ → Reaction → M.Share → SlotState M.Share → Result (SlotState M.Share) Refusal
  apply_reaction c n (Err e) a st = Err (no.Resource e)
  apply_reaction c n (Ok None) a st = Ok (set_share a st)
  apply_reaction c n (Ok (Some bs)) a st = Ok (owe c (SessionUnit (say.Data n bs)) (set_share a st))

  abbrev pub react_to : ℕ → ℕ → Outcome M.Share → SlotState M.Share → Result (SlotState M.Share) Refusal
  react_to c n o st = apply_reaction c n o.reaction o.left st

  -- 90: an object for a session that is open on this connection
  abbrev pub take_session_object : ℕ → ℕ → List ℕ → Option SessionRow → SlotState M.Share → Result (SlotState M.Share) Refusal
  take_session_object c n body None st = Err no.NotOpen
  take_session_object c n body (Some r) st =
      refuse_if (not (r.connection == c)) no.NotOpen
      (and_then (fault_as_refusal object_fault (read_apdu body)) (λ a.
      react_to c n (M.object made at r.identifier n (apdu_of a) st.share) st))

  abbrev pub take_request : ℕ → SessionRequest Located → SlotState M.Share → Result (SlotState M.Share) Refusal
  take_request c (ask.Open i) st = Ok (take_open_request c i (first_match (M.listed made) i) st)
  take_request c (ask.Close n) st = Ok (take_close_request c n st)
  take_request c (ask.Data n body) st = take_session_object c n body.bytes (st.slot.rows n) st

  -- all data of a connection, if any, as a session unit
  abbrev pub take_session_unit : ℕ → List ℕ → SlotState M.Share → Result (SlotState M.Share) Refusal
  take_session_unit c [] st = Ok st
  take_session_unit c (b ∷ bs) st = and_then (fault_as_refusal session_fault (read_request (b ∷ bs))) (λ q. take_request c q st)

  abbrev pub refuse_long_data : List ℕ → Result (SlotState M.Share) Refusal → Result (SlotState M.Share) Refusal
  refuse_long_data bs r = refuse_if (nat_lt data_limit (length bs)) no.Data r

  -- a whole transport unit, by the connection's state and the unit's object
  abbrev pub take_object : ℕ → State → ResponseObject Located → Bool → SlotState M.Share → Result (SlotState M.Share) Refusal
  take_object c Creating obj.CreateReply v st = Ok (hear c v (st.slot.conn c).session_data st)
  take_object c Active obj.Nothing v st = Ok (hear c v (st.slot.conn c).session_data st)
  take_object c Active obj.Delete v st = Ok (leave c ReplyDue false st)
  take_object c Active obj.RequestConnection v st =
      Ok (owe c (if is_idle (st.slot.conn (other c)).state then NewConnection else NoConnection)
      (hear c v (st.slot.conn c).session_data st))
  take_object c Active (obj.DataLast p) v st =
      let all = (st.slot.conn c).session_data ++ p.bytes in refuse_long_data all (take_session_unit c all (hear c v [] st))
  take_object c Active (obj.DataMore p) v st =
      let all = (st.slot.conn c).session_data ++ p.bytes in refuse_long_data all (Ok (hear c v all st))
  take_object c Deleting obj.DeleteReply v st = Ok (leave c Idle false st)
  take_object c _ _ v st = Err no.Object

  -- the fragments that the connection has are a whole transport unit: it is read, then taken
  abbrev pub take_transport_unit : ℕ → SlotState M.Share → Result (SlotState M.Share) Refusal
  take_transport_unit c st =
      and_then (fault_as_refusal transport_fault (read_response c (st.slot.conn c).fragments)) (λ r.
      take_object c (st.slot.conn c).state r.object r.available st)

  -- a fragment has joined those before it: more are to come, or it was the last
  abbrev pub after_fragment : ℕ → Bool → SlotState M.Share → Result (ServedCall M.Share) Refusal
  after_fragment c true st = serve turn_back st
  after_fragment c false st = and_then (take_transport_unit c st) (serve done)

  abbrev pub feed_outcome : ℕ → List ℕ → SlotState M.Share → Result (ServedCall M.Share) Refusal
  feed_outcome c lpdu st =
      refuse_if (not (valid_connection c)) no.Connection
      (refuse_if (not st.slot.present) no.Presence
      (refuse_if (not (st.slot.conn c).out) no.Turn
      (refuse_if (not (module_may_speak (st.slot.conn c).state)) no.State
      (and_then (fault_as_refusal no.Link (read_fragment st.slot.size c lpdu)) (λ f.
      refuse_if (nat_lt fragment_limit (length ((st.slot.conn c).fragments ++ f.bytes.bytes))) no.Fragments
      (after_fragment c f.more (set_connection c (append_fragment f.bytes.bytes (st.slot.conn c)) st)))))))

  abbrev pub call_outcome : SlotCall → SlotState M.Share → Result (ServedCall M.Share) Refusal
  call_outcome (plug n) st = plug_outcome n st
  call_outcome pull st = pull_outcome st
  call_outcome (end c) st = end_outcome c st
  call_outcome (next c room) st = next_outcome c room st
  call_outcome (feed c bs) st = feed_outcome c bs st
  call_outcome (expire c) st = expire_outcome c st
