-- What becomes of a connection.
use Rattle.std.specs.Prelude.{[], take}
use Rattle.protocol.specs.SlotRecord.{ConnectionRecord, cleared_connection, after_command, with_owed, without_turn, after_unit}
use Rattle.slot.specs.declared.connection.Change.{Change}
use Rattle.slot.specs.declared.connection.Change.TheVariants.{Clear, Send, Owe, Unmark, Cut, CutData, Hear, HearAndReadData}
use Rattle.slot.specs.ConnectionViews.{owed_of, with_fragments, with_session_data}

abbrev pub apply_change : Change → ConnectionRecord → ConnectionRecord
apply_change (Clear s o) = λ _. cleared_connection s o
apply_change (Send s) = after_command s
apply_change (Owe o) = with_owed (owed_of o)
apply_change Unmark = without_turn
apply_change (Cut n) = λ x. with_fragments (take n x.fragments) x
apply_change (CutData n) = λ x. with_session_data (take n x.session_data) x
apply_change (Hear v) = λ x. after_unit v x.session_data x
apply_change (HearAndReadData v) = after_unit v []
