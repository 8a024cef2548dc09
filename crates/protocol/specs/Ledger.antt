-- The ledger: which sessions are open, kept from the calls alone and knowing nothing of the host.
use Rattle.std.specs.Prelude.{ℕ, Bool, true, false, if◌then◌else◌, List, [], ◌∷◌, ◌++◌, length, Some, None, Ok, Err, Option, Result, ◌==◌}
use Rattle.wire.specs.declared.fault.Fault.{Fault}
use Rattle.wire.specs.declared.fault.LinkFault.{LinkFault}
use Rattle.wire.specs.Reading.{Located}
use Rattle.wire.specs.declared.lpdu.Fragment.{Fragment}
use Rattle.wire.specs.LpduReading.{read_fragment}
use Rattle.wire.specs.declared.tpdu.ResponseObject.{ResponseObject}
use Rattle.wire.specs.declared.tpdu.ResponseObject.TheVariants as obj
use Rattle.wire.specs.declared.tpdu.Response.{Response}
use Rattle.wire.specs.TpduReading.{read_response}
use Rattle.wire.specs.declared.spdu.SessionRequest.{SessionRequest}
use Rattle.wire.specs.declared.spdu.SessionRequest.TheVariants as ask
use Rattle.wire.specs.SpduReading.{read_request}
use Rattle.resource.specs.NumberTables.{put}
use Rattle.resource.specs.Identifiers.{older}
use Rattle.protocol.specs.SlotRecord.{first_free_number}
use Rattle.protocol.specs.SlotCalls.{SlotCall, plug, pull, end, next, feed, expire}

-- an open session, found by its number
pub record LedgerSession : Type 0 where
  pub connection : ℕ
  pub identifier : ℕ

-- what is kept of a connection
pub record ConnectionLedger : Type 0 where
  pub active : Bool
  pub out : Bool
  pub fragments : List ℕ
  pub session_data : List ℕ

-- what is kept of a slot
pub record SlotLedger : Type 0 where
  pub present : Bool
  pub sessions : ℕ → Option LedgerSession
  pub connections : ℕ → ConnectionLedger

-- what the ledger is told beside a call: whether it was served, whether it handed out a turn,
-- and what the resource finds and how ready it is, of which it asks at a 91 alone
pub record LedgerInput : Type 0 where
  pub served : Bool
  pub handed : Bool
  pub finds : ℕ → Option ℕ
  pub ready : ℕ → ℕ

-- at first
abbrev pub new_ledger : SlotLedger
new_ledger = record {
  present = false;
  sessions = λ _. None;
  connections = λ _. record { active = false; out = false; fragments = []; session_data = [] };
}

abbrev pub cleared_ledger : ConnectionLedger → ConnectionLedger
cleared_ledger l = record l { active = false; fragments = []; session_data = [] }

abbrev pub set_turn_out : Bool → ConnectionLedger → ConnectionLedger
set_turn_out o l = record l { out = o }

abbrev pub set_active : ConnectionLedger → ConnectionLedger
set_active l = record l { active = true }

abbrev pub fragments_to : List ℕ → ConnectionLedger → ConnectionLedger
fragments_to bs l = record l { fragments = bs }

abbrev pub set_session_data : List ℕ → ConnectionLedger → ConnectionLedger
set_session_data bs l = record l { session_data = bs }

-- one connection's ledger changed
abbrev pub amend : ℕ → (ConnectionLedger → ConnectionLedger) → SlotLedger → SlotLedger
amend c g p = record p { connections = put c (g (p.connections c)) p.connections }

-- other sessions
abbrev pub set_sessions : (ℕ → Option LedgerSession) → SlotLedger → SlotLedger
set_sessions f p = record p { sessions = f }

abbrev pub session_is_on : ℕ → Option LedgerSession → Bool
session_is_on c None = false
session_is_on c (Some x) = x.connection == c

-- a session ends if it is on the connection
abbrev pub strike : ℕ → Option LedgerSession → Option LedgerSession
strike c x = if session_is_on c x then None else x

-- a connection is not Active, and has no fragments, data or sessions
abbrev pub wipe : ℕ → SlotLedger → SlotLedger
wipe c p = amend c cleared_ledger (set_sessions (λ n. strike c (p.sessions n)) p)

abbrev pub enter_open_if_free : ℕ → ℕ → Option ℕ → SlotLedger → SlotLedger
enter_open_if_free c j None p = p
enter_open_if_free c j (Some n) p = set_sessions (put n (Some (record { connection = c; identifier = j })) p.sessions) p

-- 91: it opens where an identifier matches whose version is not lower, the resource is ready, and a number is free
abbrev pub enter_open : ℕ → ℕ → Option ℕ → LedgerInput → SlotLedger → SlotLedger
enter_open c i None t p = p
enter_open c i (Some j) t p = if older j i then p else (if t.ready j == 0 then enter_open_if_free c j (first_free_number p.sessions) p else p)

-- 95
abbrev pub enter_close : ℕ → ℕ → SlotLedger → SlotLedger
enter_close c n p = set_sessions (put n (strike c (p.sessions n)) p.sessions) p

abbrev pub enter_request : ℕ → LedgerInput → Result (SessionRequest Located) Fault → SlotLedger → SlotLedger
enter_request c t (Err e) p = p
enter_request c t (Ok (ask.Open i)) p = enter_open c i (t.finds i) t p
enter_request c t (Ok (ask.Close n)) p = enter_close c n p
enter_request c t (Ok (ask.Data n body)) p = p

-- all data of a connection, if any, as a session unit
abbrev pub enter_session_unit : ℕ → LedgerInput → List ℕ → SlotLedger → SlotLedger
enter_session_unit c t [] p = p
enter_session_unit c t (b ∷ bs) p = enter_request c t (read_request (b ∷ bs)) p

abbrev pub enter_object : ℕ → LedgerInput → ResponseObject Located → SlotLedger → SlotLedger
enter_object c t obj.CreateReply p = amend c set_active p
enter_object c t obj.Delete p = wipe c p
enter_object c t (obj.DataLast d) p = enter_session_unit c t ((p.connections c).session_data ++ d.bytes) (amend c (set_session_data []) p)
enter_object c t (obj.DataMore d) p = amend c (set_session_data ((p.connections c).session_data ++ d.bytes)) p
enter_object c t _ p = p

abbrev pub enter_transport_unit : ℕ → LedgerInput → Result (Response Located) Fault → SlotLedger → SlotLedger
enter_transport_unit c t (Err e) p = p
enter_transport_unit c t (Ok r) p = enter_object c t r.object p

-- the fragments so far, with more to come or as a whole transport unit
abbrev pub enter_fragments : ℕ → LedgerInput → Bool → List ℕ → SlotLedger → SlotLedger
enter_fragments c t true bs p = amend c (fragments_to bs) p
enter_fragments c t false bs p = enter_transport_unit c t (read_response c bs) (amend c (set_turn_out false) (amend c (fragments_to []) p))

abbrev pub enter_link_unit : ℕ → LedgerInput → Result (Fragment Located) LinkFault → SlotLedger → SlotLedger
enter_link_unit c t (Err e) p = p
enter_link_unit c t (Ok f) p = enter_fragments c t f.more ((p.connections c).fragments ++ f.bytes.bytes) p

abbrev pub enter_plug : SlotLedger → SlotLedger
enter_plug p = record p { present = true }

-- the slot is absent, and both its connections are wiped
abbrev pub enter_pull : SlotLedger → SlotLedger
enter_pull p = record { present = false; sessions = λ _. None; connections = λ c. cleared_ledger (p.connections c) }

-- a call that was served; a link unit that was served has no more bytes than the agreed size, which the ledger does not know
abbrev pub enter_served : SlotCall → LedgerInput → SlotLedger → SlotLedger
enter_served (plug n) t p = enter_plug p
enter_served pull t p = enter_pull p
enter_served (end c) t p = wipe c p
enter_served (next c room) t p = if t.handed then amend c (set_turn_out true) p else p
enter_served (feed c lpdu) t p = enter_link_unit c t (read_fragment (length lpdu) c lpdu) p
enter_served (expire c) t p = if (p.connections c).out then wipe c (amend c (set_turn_out false) p) else p

-- a refused call changes nothing
abbrev pub enter_call : SlotCall → LedgerInput → SlotLedger → SlotLedger
enter_call a t p = if t.served then enter_served a t p else p
