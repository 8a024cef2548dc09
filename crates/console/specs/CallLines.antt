-- What a line asks for.
use Rattle.std.specs.Prelude.{ℕ, Bool, false, if◌then◌else◌, ◌&&◌, List, [], ◌∷◌, length, Some, None, Option, Ok, Err, Result, is_ok, ◌==◌, nat_le, nat_lt, codes}
use Rattle.std.specs.Str.{bytes_eq}
use Rattle.std.specs.Str.Lines.{strip_carriage_return}
use Rattle.std.specs.Result.{result_map_both}
use Rattle.text.specs.declared.error.LineError.{LineError}
use Rattle.text.specs.declared.error.LineError.TheVariants.{Bad, Memory}
use Rattle.host.specs.declared.call.Call.{Call}
use Rattle.host.specs.declared.call.Call.TheVariants as calls
use Rattle.host.specs.Calls.{owned}
use Rattle.console.specs.declared.request.LineFault.{LineFault}
use Rattle.console.specs.declared.request.LineFault.TheVariants.{TooLong, NoSuchCall}
use Rattle.console.specs.declared.request.Request.{Request}
use Rattle.console.specs.LineWords.{words, result_map, onward, Reading, reading_then, always, read_first, decimal_number, small_number, byte, slot_and_connection, bytes, first_room, ended}

-- day number (two bytes), hour, minute and second
abbrev pub clock : Reading (Call (List ℕ))
clock =
    reading_then (read_first byte) λ a.
    reading_then (read_first byte) λ b.
    reading_then (read_first byte) λ c.
    reading_then (read_first byte) λ d.
    reading_then (read_first byte) λ e.
    always (calls.Clock (a ∷ b ∷ c ∷ d ∷ e ∷ []))

abbrev pub plug : Reading (Call (List ℕ))
plug = reading_then (read_first small_number) λ slot. reading_then (read_first decimal_number) λ size. always (calls.Plug slot size)

abbrev pull : Reading (Call (List ℕ))
pull = reading_then (read_first small_number) λ slot. always (calls.Pull slot)

-- a call that has a slot and a connection
abbrev of_connection : (ℕ → ℕ → Call (List ℕ)) → Reading (Call (List ℕ))
of_connection make = reading_then slot_and_connection λ p. always (make p.0 p.1)

-- all words after the connection are bytes
abbrev pub feed : Reading (Call (List ℕ))
feed = reading_then slot_and_connection λ p ws. result_map (λ lpdu. (calls.Feed p.0 p.1 lpdu, [])) (bytes ws)

abbrev pub is_feed : List ℕ → Bool
is_feed name = bytes_eq name (codes "feed")

-- the call of a name, as the words after it tell it
abbrev pub by_name : List ℕ → Reading (Call (List ℕ))
by_name name ws =
    if bytes_eq name (codes "clock") then clock ws
    else if bytes_eq name (codes "plug") then plug ws
    else if bytes_eq name (codes "pull") then pull ws
    else if bytes_eq name (codes "end") then of_connection calls.End ws
    else if bytes_eq name (codes "next") then of_connection calls.Next ws
    else if is_feed name then feed ws
    else if bytes_eq name (codes "expire") then of_connection calls.Expire ws
    else Err NoSuchCall

-- the room that a next's words may still tell
abbrev pub room : Call (List ℕ) → Reading ℕ
room (calls.Next slot connection) = first_room
room call = always 0

-- what a name and the words after it ask for: a call and a room
abbrev pub request : List ℕ → List (List ℕ) → Result (Call (List ℕ) × ℕ) LineFault
request name ws = onward (λ c. onward (λ r. onward (λ _. Ok (c.0, r.0)) (ended r.1)) (room c.0 c.1)) (by_name name ws)

-- a word that begins with #
abbrev pub comment : List ℕ → Bool
comment [] = false
comment (c ∷ cs) = c == 35

-- no words and comments ask for nothing
abbrev pub by_words : List (List ℕ) → Result (Option (Call (List ℕ) × ℕ)) LineFault
by_words [] = Ok None
by_words (name ∷ ws) = if comment name then Ok None else result_map Some (request name ws)

-- a carriage return at the end of a line is dropped
abbrev pub line_words : List ℕ → List (List ℕ)
line_words line = words (strip_carriage_return line)

-- what a line of at most 200,000 bytes asks for
abbrev pub call_in_line : List ℕ → Result (Option (Call (List ℕ) × ℕ)) LineFault
call_in_line line = if nat_lt 200000 (length line) then Err TooLong else by_words (line_words line)

-- the words after a feed's name tell a slot and a connection, so that its bytes are read
abbrev pub names_connection : List (List ℕ) → Bool
names_connection ws = is_ok (slot_and_connection ws)

abbrev feeds : List (List ℕ) → Bool
feeds [] = false
feeds (name ∷ ws) = is_feed name && names_connection ws

-- whether a line puts bytes into memory
abbrev pub fills : List ℕ → Bool
fills line = nat_le (length line) 200000 && feeds (line_words line)

-- a request over lists
abbrev pub asked : Request → Call (List ℕ) × ℕ
asked r = (owned r.call, r.room)

-- what is answered, whether memory ran out or not
abbrev pub parse_answer : Bool → List ℕ → Result (Option (Call (List ℕ) × ℕ)) (LineError LineFault)
parse_answer no_memory line =
    if no_memory && fills line then Err Memory
    else result_map_both (λ a. a) Bad (call_in_line line)
