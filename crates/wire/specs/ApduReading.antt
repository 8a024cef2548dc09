-- How application objects are read.
use Rattle.std.specs.Prelude.{ℕ, ◌+◌, ◌*◌, if◌then◌else◌, List, [], ◌∷◌, Ok, Err, Result, ◌==◌, nat_le, nat_lt}
use Rattle.wire.specs.declared.fault.Fault.{Fault}
use Rattle.wire.specs.declared.fault.Fault.TheVariants.{Tag, Length}
use Rattle.wire.specs.declared.cursor.FieldLength.TheVariants.{AtLeast}
use Rattle.wire.specs.declared.apdu.Apdu.{Apdu}
use Rattle.wire.specs.Reading.{Position, Located, start, and_then, with_left, read_field, read_rest, read_end}
use Rattle.wire.specs.ApduTags.{first_tag_byte}

abbrev pub third : ℕ → List ℕ → Position → Result ℕ Fault × Position
third b [] p = (Err Length, p)
third b (c ∷ bs) p = if nat_lt c 0x80 then (Ok (0x9f0000 + b * 256 + c), with_left bs p) else (Err Tag, p)

abbrev pub second : List ℕ → Position → Result ℕ Fault × Position
second [] p = (Err Length, p)
second (b ∷ bs) p = if nat_le 0x80 b then third b bs p else (Err Tag, p)

abbrev pub first : List ℕ → Position → Result ℕ Fault × Position
first [] p = (Err Length, p)
first (a ∷ bs) p = if a == first_tag_byte then second bs p else (Err Tag, p)

-- the tag: 9F, a byte with its top bit set and one with it clear, as one number
abbrev pub tag : Position → Result ℕ Fault × Position
tag p = first p.left p

-- a tag, a length and exactly that many bytes
abbrev pub object : Position → Result (Apdu Located) Fault × Position
object p =
    and_then (tag p) λ t q.
    and_then (read_field (AtLeast 0) q) λ body r.
    and_then (read_end r, r) λ _ s.
    (Ok (record { tag = t; body = read_rest body }), s)

abbrev pub read_apdu : List ℕ → Result (Apdu Located) Fault
read_apdu bs = (object (start bs)).0
