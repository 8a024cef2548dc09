-- How link units are read.
use Rattle.std.specs.Prelude.{ℕ, Bool, true, false, if◌then◌else◌, List, length, Ok, Err, Result, ◌==◌, nat_lt}
use Rattle.wire.specs.declared.fault.Fault.{Fault}
use Rattle.wire.specs.declared.fault.LinkFault.{LinkFault}
use Rattle.wire.specs.declared.fault.LinkFault.TheVariants.{Short, Long, Connection, Mark}
use Rattle.wire.specs.declared.lpdu.Fragment.{Fragment}
use Rattle.wire.specs.Reading.{Position, Located, start, read_byte, read_rest}
use Rattle.wire.specs.LpduTags.{last, more}

-- whether more follows
abbrev pub more_follows : ℕ → Result Bool LinkFault
more_follows m =
    if m == last then Ok false
    else if m == more then Ok true
    else Err Mark

abbrev pub fragment_with : Result Bool LinkFault → Position → Result (Fragment Located) LinkFault
fragment_with (Ok goes_on) p = Ok (record { more = goes_on; bytes = read_rest p })
fragment_with (Err e) p = Err e

abbrev pub after_mark : Result ℕ Fault → Position → Result (Fragment Located) LinkFault
after_mark (Ok m) p = fragment_with (more_follows m) p
after_mark (Err e) p = Err Short

abbrev pub after_connection : ℕ → Result ℕ Fault → Position → Result (Fragment Located) LinkFault
after_connection id (Ok c) p = if c == id then after_mark (read_byte p).0 (read_byte p).1 else Err Connection
after_connection id (Err e) p = Err Short

-- the connection, 80 or 00, and at least one byte, in no more than the agreed size
abbrev pub fragment : ℕ → ℕ → Position → Result (Fragment Located) LinkFault
fragment size id p =
    if nat_lt (length p.left) 3 then Err Short
    else if nat_lt size (length p.left) then Err Long
    else after_connection id (read_byte p).0 (read_byte p).1

abbrev pub read_fragment : ℕ → ℕ → List ℕ → Result (Fragment Located) LinkFault
read_fragment size id bs = fragment size id (start bs)
