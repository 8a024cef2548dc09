-- The words of a line, and what each is read as.
use Rattle.std.specs.Prelude.{ℕ, if◌then◌else◌, List, [], ◌∷◌, length, Result, Ok, Err, nat_lt}
use Rattle.std.specs.Char.{is_ascii_digit}
use Rattle.std.specs.List.{list_all}
use Rattle.std.specs.Option.{ok_or}
use Rattle.std.specs.Result.{result_map_both}
use Rattle.std.specs.Str.Parse.{digits_value}
use Rattle.protocol.specs.Limits.{command_limit}
pub use Rattle.text.specs.Words.{words}
use Rattle.text.specs.Words.{byte as byte_of, bytes as bytes_of}
use Rattle.console.specs.declared.request.LineFault.{LineFault}
use Rattle.console.specs.declared.request.LineFault.TheVariants.{MissingWord, NotDecimal, TooLarge, NotHex, ExtraWord}

abbrev pub result_map : {X Y E : Type 0} → (X → Y) → Result X E → Result Y E
result_map f = result_map_both f (λ e. e)

-- what is read next, unless there is a fault
abbrev pub onward : {X Y : Type 0} → (X → Result Y LineFault) → Result X LineFault → Result Y LineFault
onward f (Ok x) = f x
onward f (Err why) = Err why

abbrev pub within : ℕ → ℕ → Result ℕ LineFault
within limit n = if nat_lt n limit then Ok n else Err TooLarge

-- a size or a room: decimal digits; an empty word, which a line has none of, counts as too large
abbrev pub decimal_number : List ℕ → Result ℕ LineFault
decimal_number word =
    if list_all is_ascii_digit word then (if nat_lt 0 (length word) then within 65536 (digits_value 10 word) else Err TooLarge)
    else Err NotDecimal

-- a slot or a connection
abbrev pub small_number : List ℕ → Result ℕ LineFault
small_number word = onward (within 256) (decimal_number word)

-- two hexadecimal digits, in either case
abbrev pub byte : List ℕ → Result ℕ LineFault
byte word = ok_or (byte_of word) NotHex

-- all words as bytes
abbrev pub bytes : List (List ℕ) → Result (List ℕ) LineFault
bytes ws = ok_or (bytes_of ws) NotHex

-- what is read from the front of some words, and the words that are left
abbrev pub Reading : Type 0 → Type 0
Reading X = List (List ℕ) → Result (X × List (List ℕ)) LineFault

-- something that is read, and then what comes of it
abbrev pub reading_then : {X Y : Type 0} → Reading X → (X → Reading Y) → Reading Y
reading_then read f ws = onward (λ p. f p.0 p.1) (read ws)

-- this, with no word read
abbrev pub always : {X : Type 0} → X → Reading X
always x ws = Ok (x, ws)

-- the first word, read so
abbrev pub read_first : {X : Type 0} → (List ℕ → Result X LineFault) → Reading X
read_first read [] = Err MissingWord
read_first read (w ∷ ws) = result_map (λ x. (x, ws)) (read w)

-- a slot and a connection
abbrev pub slot_and_connection : Reading (ℕ × ℕ)
slot_and_connection = reading_then (read_first small_number) λ slot. reading_then (read_first small_number) λ connection. always (slot, connection)

-- the room that the first word tells, or room for every command
abbrev pub first_room : Reading ℕ
first_room [] = Ok (command_limit, [])
first_room (w ∷ ws) = read_first decimal_number (w ∷ ws)

-- no word is left
abbrev pub ended : List (List ℕ) → Result (Unit {0}) LineFault
ended [] = Ok tt
ended (w ∷ ws) = Err ExtraWord
