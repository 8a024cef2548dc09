-- What a line of a recording says.
use Rattle.std.specs.Prelude.{ℕ, ◌-◌, Bool, ◌&&◌, List, [], ◌∷◌, length, Some, None, Option, Ok, Err, Result, ◌==◌, nat_le, nat_lt, codes, if◌then◌else◌}
use Rattle.std.specs.List.{list_all}
use Rattle.std.specs.Option.{option_map, option_map_or, option_and_then, ok_or}
use Rattle.text.specs.declared.error.LineError.{LineError}
use Rattle.text.specs.declared.error.LineError.TheVariants.{Bad, Memory}
use Rattle.text.specs.Words.{is_blank, words, bytes}
use Rattle.recording.specs.declared.line.Direction.{Direction}
use Rattle.recording.specs.declared.line.Direction.TheVariants.{FromHost, FromModule}
use Rattle.recording.specs.declared.line.BadLine.{BadLine}
use Rattle.recording.specs.declared.line.BadLine.TheVariants.{Long, Word, Slot, Hex}
use Rattle.recording.specs.declared.line.RecordingLine.{RecordingLine}
use Rattle.recording.specs.declared.line.RecordingLine.TheVariants as says

-- a line, and the bytes of its LPDU where it has one
pub record LineAndBytes : Type 0 where
  pub line : RecordingLine
  pub bytes : List ℕ

abbrev pub without_bytes : RecordingLine → LineAndBytes
without_bytes l = record { line = l; bytes = [] }

-- spaces and tabs alone
abbrev pub all_blank : List ℕ → Bool
all_blank text = list_all is_blank text

-- the words that follow a line's first one, after which a blank has to stand
abbrev pub words_after : List ℕ → Option (List (List ℕ))
words_after [] = Some []
words_after (c ∷ text) = if is_blank c then Some (words text) else None

-- one word that is a digit from 0 to 3
abbrev pub slot_digit : List (List ℕ) → Option ℕ
slot_digit ((c ∷ []) ∷ []) = if nat_le 48 c && nat_le c 51 then Some (c - 48) else None
slot_digit _ = None

abbrev pub slot_number : List ℕ → Option ℕ
slot_number text = option_and_then slot_digit (words_after text)

-- what follows the word `slot`
abbrev pub slot_line : List ℕ → Result LineAndBytes BadLine
slot_line text = ok_or (option_map (λ n. without_bytes (says.Slot n)) (slot_number text)) Slot

-- what follows the sign of a direction
abbrev pub lpdu_line : Direction → List ℕ → Result LineAndBytes BadLine
lpdu_line d text =
    ok_or (option_map (λ bs. record { line = says.Lpdu d; bytes = bs }) (option_and_then bytes (words_after text))) Hex

-- what follows a word that a text begins with
abbrev pub behind : List ℕ → List ℕ → Option (List ℕ)
behind [] text = Some text
behind (w ∷ word) [] = None
behind (w ∷ word) (c ∷ text) = if c == w then behind word text else None

-- # and anything, > or < and bytes, or `slot` and a number
abbrev pub word_line : List ℕ → Result LineAndBytes BadLine
word_line text =
    option_map_or (λ rest. Ok (without_bytes says.Blank)) (behind (codes "#") text)
    (option_map_or (lpdu_line FromHost) (behind (codes ">") text)
    (option_map_or (lpdu_line FromModule) (behind (codes "<") text)
    (option_map_or slot_line (behind (codes "slot") text)
    (Err Word))))

-- what a line of at most 8,192 bytes says
abbrev pub line_says : List ℕ → Result LineAndBytes BadLine
line_says text =
    if nat_lt 8192 (length text) then Err Long
    else if all_blank text then Ok (without_bytes says.Blank)
    else word_line text

abbrev answer : Result LineAndBytes BadLine → Result RecordingLine (LineError BadLine) × List ℕ
answer (Ok s) = (Ok s.line, s.bytes)
answer (Err why) = (Err (Bad why), [])

-- what is answered, and the bytes that are left: none but those of an LPDU
abbrev pub given : Bool → Result LineAndBytes BadLine → Result RecordingLine (LineError BadLine) × List ℕ
given no_memory said = if no_memory then (Err Memory, []) else answer said

abbrev pub answer_and_bytes : Bool → List ℕ → Result RecordingLine (LineError BadLine) × List ℕ
answer_and_bytes no_memory text = given no_memory (line_says text)
