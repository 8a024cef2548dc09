-- What the code's record says, as the definitions have it.
use Rattle.std.specs.Prelude.{ℕ, List, ◌++◌, take, drop}
use Rattle.resource.specs.declared.apdu_buf.ApduBuf.{ApduBuf}
use Rattle.std.specs.Option.{option_map}
use Rattle.wire.specs.SpduViews.{map_reply}
use Rattle.resource.specs.InterfaceViews.{buffer_bytes}
use Rattle.protocol.specs.declared.state.OwedCommand.{OwedCommand}
use Rattle.protocol.specs.declared.state.OwedCommand.TheVariants.{NewConnection, NoConnection, SessionUnit}
use Rattle.protocol.specs.SlotRecord.{ConnectionRecord}
use Rattle.slot.specs.BufferViews.{items}
use Rattle.slot.specs.declared.connection.Connection.{Connection}

-- with another way to hold an object
abbrev pub map_owed : {A B : Type 0} → (A → B) → OwedCommand A → OwedCommand B
map_owed f NewConnection = NewConnection
map_owed f NoConnection = NoConnection
map_owed f (SessionUnit r) = SessionUnit (map_reply f r)

abbrev pub owed_of : OwedCommand ApduBuf → OwedCommand (List ℕ)
owed_of o = map_owed buffer_bytes o

abbrev pub conn_of : Connection → ConnectionRecord
conn_of x = record {
  state = x.state;
  out = x.out;
  available = x.available;
  owed = option_map owed_of x.owed;
  fragments = items x.fragments;
  session_data = items x.session_data;
}

-- other fragments, and other data
abbrev pub with_fragments : List ℕ → ConnectionRecord → ConnectionRecord
with_fragments bs x = record x { fragments = bs }

abbrev pub with_session_data : List ℕ → ConnectionRecord → ConnectionRecord
with_session_data bs x = record x { session_data = bs }

-- a part of the fragments, and the data with it after them
abbrev pub part_of : ℕ → ℕ → ConnectionRecord → List ℕ
part_of start n x = take n (drop start x.fragments)

abbrev pub append_data : ℕ → ℕ → ConnectionRecord → ConnectionRecord
append_data start n x = with_session_data (x.session_data ++ part_of start n x) x
