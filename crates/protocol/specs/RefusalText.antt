-- How refusals print.
use Rattle.std.specs.Prelude.{ℕ, ◌/◌, ◌%◌, true, List, [], ◌∷◌, ◌++◌, codes, decimal}
use Rattle.std.specs.Fmt.{digit_glyph}
use Rattle.wire.specs.FaultNames.{fault_name, link_fault_name}
use Rattle.protocol.specs.declared.refusal.Refusal.{Refusal}
use Rattle.protocol.specs.declared.refusal.Refusal.TheVariants as no
use Rattle.protocol.specs.RefusalNumbers.{refusal_number}

-- a byte in two hexadecimal digits, in capitals
abbrev byte_digits : ℕ → List ℕ
byte_digits byte = digit_glyph true (byte / 16) ∷ digit_glyph true (byte % 16) ∷ []

-- a word, after a space
abbrev spaced : List ℕ → List ℕ
spaced word = codes " " ++ word

-- a byte as a word, after a space
abbrev pub byte_word : ℕ → List ℕ
byte_word byte = spaced (byte_digits byte)

-- what comes after a refusal's number: the fault of a unit by its name, or the byte of the resource
abbrev kind : Refusal → List ℕ
kind (no.Link e) = spaced (link_fault_name e)
kind (no.Transport e) = spaced (fault_name e.0)
kind (no.Session e) = spaced (fault_name e.0)
kind (no.Apdu e) = spaced (fault_name e.0)
kind (no.Resource byte) = byte_word byte
kind _ = []

-- a refusal by its number and kind
abbrev pub refusal_text : Refusal → List ℕ
refusal_text r = codes "refused " ++ decimal (refusal_number r) ++ kind r
