-- What the readers' values say, with what their references point to.
use Rattle.std.specs.Prelude.{Ok, Err, Result}
use Rattle.wire.specs.declared.fault.Fault.{Fault}
use Rattle.wire.specs.declared.fault.Fault.TheVariants.{Length}
use Rattle.wire.specs.declared.fault.LengthFault.{LengthFault}
use Rattle.wire.specs.declared.cursor.Part.{Part}
use Rattle.wire.specs.declared.cursor.Cursor.{Cursor}
use Rattle.wire.specs.Reading.{Position, Located}

-- where a cursor stands
abbrev pub position_of : Cursor → Position
position_of c = record { left = c.left.now; end = c.end }

abbrev pub located : Part → Located
located p = record { offset = p.offset; bytes = p.bytes.now }

-- what was read
abbrev pub length_result : {A : Type 0} → Result A LengthFault → Result A Fault
length_result (Ok a) = Ok a
length_result (Err e) = Err Length

abbrev pub position_result : Result Cursor LengthFault → Result Position Fault
position_result (Ok c) = Ok (position_of c)
position_result (Err e) = Err Length
