-- What the readers' values say, with what their references point to.
use Rattle.std.specs.Prelude.{Ok, Err, Result}
use Rattle.wire.specs.declared.cursor.Part.{Part}
use Rattle.wire.specs.declared.fault.LinkFault.{LinkFault}
use Rattle.wire.specs.declared.lpdu.Fragment.{Fragment}
use Rattle.wire.specs.Reading.{Located}
use Rattle.wire.specs.CursorViews.{located}

abbrev pub link_fragment : Result (Fragment Part) LinkFault → Result (Fragment Located) LinkFault
link_fragment (Ok f) = Ok (record { more = f.more; bytes = located f.bytes })
link_fragment (Err e) = Err e
