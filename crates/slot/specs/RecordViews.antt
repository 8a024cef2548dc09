-- A slot's record in the code, as the definitions have it.
use Rattle.std.specs.Prelude.{ℕ, zero, suc, false, List, [], ◌∷◌, is_some, Some, None, Option, slice_index_or}
use Rattle.std.specs.Option.{option_map}
use Rattle.protocol.specs.declared.state.State.TheVariants.{Idle}
use Rattle.protocol.specs.declared.state.SessionRow.{SessionRow}
use Rattle.protocol.specs.SlotRecord.{SlotRecord, ConnectionRecord, cleared_connection, with_conn}
use Rattle.slot.specs.declared.agreed_size.AgreedSize.{AgreedSize}
use Rattle.slot.specs.declared.record.Record.{Record}
use Rattle.slot.specs.declared.record.NumberedRow.{NumberedRow}
use Rattle.slot.specs.ConnectionViews.{conn_of}

-- the elements of a list by their numbers from 1, and one value for every other number
abbrev pub table : {A : Type 0} → A → List A → ℕ → A
table d xs zero = d
table d xs (suc k) = slice_index_or xs k d

-- the size of an absent slot is 0
abbrev pub size_of : Option AgreedSize → ℕ
size_of None = 0
size_of (Some s) = s.bytes

unfoldable pub slot_of : Record → SlotRecord
slot_of b = record {
  present = is_some b.agreed;
  size = size_of b.agreed;
  conn = table (cleared_connection Idle false) (conn_of b.one ∷ conn_of b.two ∷ []);
  rows = table None b.rows;
}

-- one connection changed by a function
abbrev pub alter : ℕ → (ConnectionRecord → ConnectionRecord) → SlotRecord → SlotRecord
alter c f s = with_conn c (f (s.conn c)) s

-- a session with its number
abbrev pub numbered : ℕ → Option SessionRow → Option (ℕ × SessionRow)
numbered n row = option_map (λ r. (n, r)) row

abbrev pub numbered_row : Option NumberedRow → Option (ℕ × SessionRow)
numbered_row s = option_map (λ x. (x.number.number, x.row)) s
