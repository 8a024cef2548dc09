-- What a slot keeps.
use Rattle.std.specs.Prelude.{ℕ, ◌-◌, Bool, true, false, not, ◌&&◌, ◌||◌, List, [], ◌++◌, is_some, Some, None, Option, ◌==◌}
use Rattle.resource.specs.NumberTables.{put, session_numbers, first}
use Rattle.protocol.specs.declared.state.State.{State}
use Rattle.protocol.specs.declared.state.State.TheVariants.{Idle, CreateDue, Creating, Active, Deleting}
use Rattle.protocol.specs.declared.state.SessionRow.{SessionRow}
use Rattle.protocol.specs.declared.state.OwedCommand.{OwedCommand}

pub record ConnectionRecord : Type 0 where
  pub state : State
  -- its turn is out: a command was written, and the module's answer or an expiry has not come in yet
  pub out : Bool
  -- the module has data to send (DA)
  pub available : Bool
  pub owed : Option (OwedCommand (List ℕ))
  -- the fragments of a transport unit, and the data of a session unit, of which the rest is to come
  pub fragments : List ℕ
  pub session_data : List ℕ

-- connections and sessions are found by their number
pub record SlotRecord : Type 0 where
  pub present : Bool
  pub size : ℕ
  pub conn : ℕ → ConnectionRecord
  pub rows : ℕ → Option SessionRow

-- the two connections
abbrev pub valid_connection : ℕ → Bool
valid_connection c = c == 1 || c == 2

abbrev pub other : ℕ → ℕ
other c = 3 - c

abbrev pub is_idle : State → Bool
is_idle Idle = true
is_idle _ = false

abbrev pub is_active : State → Bool
is_active Active = true
is_active _ = false

-- the states in which a module may speak
abbrev pub module_may_speak : State → Bool
module_may_speak Creating = true
module_may_speak Active = true
module_may_speak Deleting = true
module_may_speak _ = false

-- a connection that lost all but the mark of its turn
abbrev pub cleared_connection : State → Bool → ConnectionRecord
cleared_connection s o = record { state = s; out = o; available = false; owed = None; fragments = []; session_data = [] }

-- a command is written: nothing is owed, and the turn is out
abbrev pub after_command : State → ConnectionRecord → ConnectionRecord
after_command s x = record x { state = s; out = true; owed = None }

abbrev pub with_owed : OwedCommand (List ℕ) → ConnectionRecord → ConnectionRecord
with_owed o x = record x { owed = Some o }

-- the mark of the turn goes
abbrev pub without_turn : ConnectionRecord → ConnectionRecord
without_turn x = record x { out = false }

-- a fragment joins those before it
abbrev pub append_fragment : List ℕ → ConnectionRecord → ConnectionRecord
append_fragment bs x = record x { fragments = x.fragments ++ bs }

-- a whole unit is heard, and the connection is Active after it: the turn is spent, no fragments are left, and these are DA and the data
abbrev pub after_unit : Bool → List ℕ → ConnectionRecord → ConnectionRecord
after_unit v bs x = record x { state = Active; out = false; available = v; fragments = []; session_data = bs }

-- a slot of a new host
abbrev pub new_slot : SlotRecord
new_slot = record { present = false; size = 0; conn = λ _. cleared_connection Idle false; rows = λ _. None }

abbrev pub with_conn : ℕ → ConnectionRecord → SlotRecord → SlotRecord
with_conn c x s = record s { conn = put c x s.conn }

abbrev pub with_row : ℕ → Option SessionRow → SlotRecord → SlotRecord
with_row n r s = record s { rows = put n r s.rows }

-- a module is there: connection 1 is Create due, 2 is Idle
abbrev pub with_module : ℕ → SlotRecord → SlotRecord
with_module size s = record s {
  present = true;
  size = size;
  conn = put 1 (cleared_connection CreateDue (s.conn 1).out) (put 2 (cleared_connection Idle (s.conn 2).out) s.conn);
}

-- no module is there; the marks of the turns remain
abbrev pub without_module : SlotRecord → SlotRecord
without_module s = record { present = false; size = 0; conn = λ c. cleared_connection Idle (s.conn c).out; rows = λ _. None }

-- the least number from 1 to 16 that is not open
abbrev pub first_free_number : {A : Type 0} → (ℕ → Option A) → Option ℕ
first_free_number rows = first (λ n. not (is_some (rows n))) session_numbers

-- whether a session is open on a connection
abbrev pub is_open_on : ℕ → Option SessionRow → Bool
is_open_on c None = false
is_open_on c (Some r) = r.connection == c

-- whether it is, and its greeting is due
abbrev pub has_greeting_due : ℕ → Option SessionRow → Bool
has_greeting_due c None = false
has_greeting_due c (Some r) = r.greeting_due && r.connection == c

abbrev pub after_greeting : SessionRow → SessionRow
after_greeting r = record r { greeting_due = false }
