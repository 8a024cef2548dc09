-- Application objects that a resource sends.
use Rattle.std.specs.Prelude.{◌≡◌, ℕ, Bool, true, ◌&&◌, List, length, take, is_ok, nat_le}
use Rattle.wire.specs.ApduReading.{read_apdu}
use Rattle.resource.specs.declared.apdu_buf.ApduBytes.{ApduBytes}

-- the most bytes of an application object that a resource sends
abbrev pub object_limit : ℕ
object_limit = 124

-- so many bytes at most that read as an application object
abbrev pub is_short_apdu : List ℕ → Bool
is_short_apdu bs = nat_le (length bs) object_limit && is_ok (read_apdu bs)

abbrev pub IsShortApdu : List ℕ → Type 0
IsShortApdu bs = is_short_apdu bs ≡ true

-- the bytes that are used
abbrev pub used_bytes : ApduBytes → List ℕ
used_bytes b = take b.length b.bytes
