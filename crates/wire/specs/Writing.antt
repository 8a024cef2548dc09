-- How units are written.
use Rattle.std.specs.Prelude.{ℕ, ◌/◌, ◌%◌, if◌then◌else◌, List, [], ◌∷◌, ◌++◌, length, drop, Some, None, Ok, Err, Option, Result, nat_le, nat_lt}
use Rattle.wire.specs.declared.writer.WriteFault.{WriteFault}
use Rattle.wire.specs.declared.writer.WriteFault.TheVariants.{Length, Room}

-- a length in its shortest form
abbrev pub length_bytes : ℕ → List ℕ
length_bytes n =
    if nat_lt n 0x80 then n ∷ []
    else if nat_lt n 0x100 then 0x81 ∷ n ∷ []
    else 0x82 ∷ n / 256 ∷ n % 256 ∷ []

-- a tag, a length and that many bytes
abbrev pub object_bytes : ℕ → List ℕ → List ℕ
object_bytes tag body = tag ∷ length_bytes (length body) ++ body

-- a number in two bytes, the high one first
abbrev pub two_bytes : ℕ → List ℕ
two_bytes n = n / 256 ∷ n % 256 ∷ []

-- a number in four bytes, the highest first
abbrev pub four_bytes : ℕ → List ℕ
four_bytes n = two_bytes (n / 65536) ++ two_bytes (n % 65536)

-- bytes written to the front of a slice, and how many; or, where they do not fit, the slice as it was
abbrev pub write_front : List ℕ → List ℕ → Result ℕ WriteFault × List ℕ
write_front bs out =
    if nat_le (length bs) (length out) then (Ok (length bs), bs ++ drop (length bs) out)
    else (Err Room, out)

-- a length, where two bytes can tell it
abbrev pub two_byte_length : ℕ → Option ℕ
two_byte_length n = if nat_lt 0xffff n then None else Some n

-- the object with this length field, or none, written to the front of a slice
abbrev pub write_front_with : Option ℕ → ℕ → List ℕ → List ℕ → Result ℕ WriteFault × List ℕ
write_front_with None tag body out = (Err Length, out)
write_front_with (Some n) tag body out = write_front (tag ∷ length_bytes n ++ body) out

-- an object written so, where two bytes can tell its length
abbrev pub write_object_front : ℕ → List ℕ → List ℕ → Result ℕ WriteFault × List ℕ
write_object_front tag body out = write_front_with (two_byte_length (length body)) tag body out
