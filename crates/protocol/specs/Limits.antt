-- The limits of a slot, in bytes.
use Rattle.std.specs.Prelude.{ℕ}

-- the most that is kept of a transport unit in fragments, headers not counted
abbrev pub fragment_limit : ℕ
fragment_limit = 1024

-- the most that is kept of a session unit in several transport units
abbrev pub data_limit : ℕ
data_limit = 2048

-- the least size that may be agreed
abbrev pub least_size : ℕ
least_size = 16

-- the most that a command has in link units of any agreed size
abbrev pub command_limit : ℕ
command_limit = 152
