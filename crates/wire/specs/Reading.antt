-- Reading forward: a position in a unit, and what is read from there on.
use Rattle.std.specs.Prelude.{ℕ, ◌+◌, ◌-◌, ◌*◌, Bool, if◌then◌else◌, ◌&&◌, List, [], ◌∷◌, length, take, drop, Some, None, Ok, Err, Option, Result, ◌==◌, nat_le, nat_lt}
use Rattle.wire.specs.declared.fault.Fault.{Fault}
use Rattle.wire.specs.declared.fault.Fault.TheVariants.{Length}
use Rattle.wire.specs.declared.cursor.FieldLength.{FieldLength}
use Rattle.wire.specs.declared.cursor.FieldLength.TheVariants.{Exactly, AtLeast}

-- a position in a unit: the bytes from there on, and how many bytes of the unit there are up to their end
pub record Position : Type 0 where
  pub left : List ℕ
  pub end : ℕ

abbrev pub start : List ℕ → Position
start bs = record { left = bs; end = length bs }

-- the same bytes end there, but fewer are left
abbrev pub with_left : List ℕ → Position → Position
with_left bs p = record { left = bs; end = p.end }

-- go on with what was read, from the position after it, or end at the fault
abbrev pub go_on : {A B : Type 0} → Result A Fault → Position → (A → Position → Result B Fault × Position) → Result B Fault × Position
go_on (Ok a) p f = f a p
go_on (Err e) p f = (Err e, p)

abbrev pub and_then : {A B : Type 0} → Result A Fault × Position → (A → Position → Result B Fault × Position) → Result B Fault × Position
and_then s f = go_on s.0 s.1 f

-- the first byte and those after it
abbrev pub split_first : List ℕ → Option (ℕ × List ℕ)
split_first [] = None
split_first (b ∷ bs) = Some (b, bs)

abbrev pub byte_of_split : Option (ℕ × List ℕ) → Position → Result ℕ Fault × Position
byte_of_split None p = (Err Length, p)
byte_of_split (Some x) p = (Ok x.0, with_left x.1 p)

-- the next byte
abbrev pub read_byte : Position → Result ℕ Fault × Position
read_byte p = byte_of_split (split_first p.left) p

-- two bytes, the high one first
abbrev pub read_two_bytes : Position → Result ℕ Fault × Position
read_two_bytes p = and_then (read_byte p) λ high q. and_then (read_byte q) λ low r. (Ok (high * 256 + low), r)

-- four bytes, the highest first
abbrev pub read_four_bytes : Position → Result ℕ Fault × Position
read_four_bytes p = and_then (read_two_bytes p) λ high q. and_then (read_two_bytes q) λ low r. (Ok (high * 65536 + low), r)

-- a length: one byte below 80, or 81 and one byte, or 82 and two
abbrev pub read_length : Position → Result ℕ Fault × Position
read_length p =
    and_then (read_byte p) λ b q.
    if nat_lt b 0x80 then (Ok b, q)
    else if b == 0x81 then read_byte q
    else if b == 0x82 then read_two_bytes q
    else (Err Length, q)

abbrev pub allows_length : FieldLength → ℕ → Bool
allows_length (Exactly size) n = n == size
allows_length (AtLeast least) n = nat_le least n

-- a position of which the next n bytes are all that is left
abbrev pub next_bytes : ℕ → Position → Position
next_bytes n p = record { left = take n p.left; end = p.end - (length p.left - n) }

-- a length that is allowed, and that many bytes
abbrev pub read_field : FieldLength → Position → Result Position Fault × Position
read_field size p =
    and_then (read_length p) λ n q.
    if allows_length size n && nat_le n (length q.left) then (Ok (next_bytes n q), with_left (drop n q.left) q)
    else (Err Length, q)

-- what stands in a field that is allowed
abbrev pub in_field : {A : Type 0} → FieldLength → Position → (Position → Result A Fault × Position) → Result A Fault × Position
in_field size p f = and_then (read_field size p) λ body q. ((f body).0, q)

-- bytes of a unit, and how many bytes lie before them
pub record Located : Type 0 where
  pub offset : ℕ
  pub bytes : List ℕ

-- all that is left
abbrev pub read_rest : Position → Located
read_rest p = record { offset = p.end - length p.left; bytes = p.left }

abbrev pub nothing : List ℕ → Result (Unit {0}) Fault
nothing [] = Ok tt
nothing (b ∷ bs) = Err Length

-- nothing may be left
abbrev pub read_end : Position → Result (Unit {0}) Fault
read_end p = nothing p.left
