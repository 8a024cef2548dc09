-- The first byte of the tags of application objects.
use Rattle.std.specs.Prelude.{ℕ}

abbrev pub first_tag_byte : ℕ
first_tag_byte = 0x9f
