-- What holds of every slot's record.
use Rattle.std.specs.Prelude.{◌≡◌, ℕ, ◌≤◌, true, false, List, [], length, Some, None}
use Rattle.wire.specs.declared.spdu.SessionReply.TheVariants as say
use Rattle.resource.specs.NumberTables.{session_numbers}
use Rattle.resource.specs.Identifiers.{is_listed}
use Rattle.resource.specs.ShortApdu.{object_limit}
use Rattle.protocol.specs.declared.state.State.TheVariants.{Idle}
use Rattle.protocol.specs.declared.state.SessionRow.{SessionRow}
use Rattle.protocol.specs.declared.state.OwedCommand.{OwedCommand}
use Rattle.protocol.specs.declared.state.OwedCommand.TheVariants.{NewConnection, SessionUnit}
use Rattle.protocol.specs.Limits.{least_size}
use Rattle.protocol.specs.SlotRecord.{SlotRecord, ConnectionRecord, valid_connection, other, is_active, module_may_speak, cleared_connection}

-- an owed object is as short as one that a resource sends
abbrev pub OwedIsShort : OwedCommand (List ℕ) → Type 0
OwedIsShort (SessionUnit (say.Data n bs)) = length bs ≤ object_limit
OwedIsShort _ = Unit {0}

pub record ConnectionSound (x : ConnectionRecord) : Type 0 where
  -- where no module speaks there is nothing but the mark of the turn
  pub quiet : module_may_speak x.state ≡ false → x ≡ cleared_connection x.state x.out
  -- only an Active connection has data
  pub empty : is_active x.state ≡ false → x.session_data ≡ []
  -- nothing is owed where the turn is out
  pub paid : x.out ≡ true → x.owed ≡ None
  pub brief : (o : OwedCommand (List ℕ)) → x.owed ≡ Some o → OwedIsShort o

pub record Absent (s : SlotRecord) : Type 0 where
  pub size : s.size ≡ 0
  pub idle : (c : ℕ) → (s.conn c).state ≡ Idle
  pub rows : (n : ℕ) → s.rows n ≡ None

pub record Sound (s : SlotRecord) : Type 0 where
  pub orderly : (c : ℕ) → ConnectionSound (s.conn c)
  -- where a new connection is to be announced, the other one is Idle
  pub waits : (c : ℕ) → (s.conn c).owed ≡ Some NewConnection → (s.conn (other c)).state ≡ Idle
  -- there are two connections
  pub beyond : (c : ℕ) → valid_connection c ≡ false → s.conn c ≡ cleared_connection Idle false
  -- a session has a number from 1 to 16, and its connection is Active
  pub numbered : (n : ℕ) (r : SessionRow) → s.rows n ≡ Some r → is_listed session_numbers n ≡ true
  pub on_active : (n : ℕ) (r : SessionRow) → s.rows n ≡ Some r → is_active (s.conn r.connection).state ≡ true
  -- an absent slot has size 0, no connection but Idle ones and no session; a present one has a size that may be agreed
  pub absent : s.present ≡ false → Absent s
  pub roomy : s.present ≡ true → least_size ≤ s.size
