-- How senders and reasons print.
use Rattle.std.specs.Prelude.{ℕ, List, codes}
use Rattle.recording.specs.declared.line.Direction.{Direction}
use Rattle.recording.specs.declared.line.Direction.TheVariants.{FromHost, FromModule}
use Rattle.recording.specs.declared.line.BadLine.{BadLine}
use Rattle.recording.specs.declared.line.BadLine.TheVariants.{Long, Word, Slot, Hex}

-- who sent an LPDU
abbrev pub direction_name : Direction → List ℕ
direction_name FromHost = codes "host"
direction_name FromModule = codes "module"

-- why a line is none of a recording
abbrev pub bad_line_text : BadLine → List ℕ
bad_line_text Long = codes "longer than 8192 bytes"
bad_line_text Word = codes "begins with none of >, <, slot and #"
bad_line_text Slot = codes "the slot is not a digit from 0 to 3"
bad_line_text Hex = codes "bytes are two hexadecimal digits each, with blanks between them"
