-- The marks of link units.
use Rattle.std.specs.Prelude.{ℕ}

abbrev pub last : ℕ
last = 0x00

abbrev pub more : ℕ
more = 0x80
