-- What the readers' values say, with what their references point to.
use Rattle.std.specs.Prelude.{Ok, Err, Result}
use Rattle.wire.specs.declared.fault.Fault.{Fault}
use Rattle.wire.specs.declared.cursor.Part.{Part}
use Rattle.wire.specs.declared.fault.ApplicationFault.{ApplicationFault}
use Rattle.wire.specs.declared.apdu.Apdu.{Apdu}
use Rattle.wire.specs.Reading.{Located}
use Rattle.wire.specs.CursorViews.{located}

abbrev pub application_result : {A : Type 0} → Result A ApplicationFault → Result A Fault
application_result (Ok a) = Ok a
application_result (Err e) = Err e.0

abbrev pub application_object : Result (Apdu Part) ApplicationFault → Result (Apdu Located) Fault
application_object (Ok a) = Ok (record { tag = a.tag; body = located a.body })
application_object (Err e) = Err e.0
