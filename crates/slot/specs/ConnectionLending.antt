-- The two connections of a record in the code.
use Rattle.std.specs.Prelude.{ℕ, if◌then◌else◌, ◌==◌}
use Rattle.std.specs.Borrow.{Lends, MutBor, Fml}
use Rattle.slot.specs.declared.connection.Connection.{Connection}
use Rattle.slot.specs.declared.record.Record.{Record}
use Rattle.slot.specs.contracts.connection.Connection.{the_row as connection_row}
use Rattle.slot.specs.contracts.record.Record.{the_row}

-- a record with this value as connection 1, or as connection 2
abbrev pub replace_connection : ℕ → Record → Connection → Record
replace_connection c b x = record b { one = if c == 1 then x else b.one; two = if c == 1 then b.two else x }

-- the record ends with the last value behind the reference as that connection
abbrev pub LendsConnection : MutBor Record → ℕ → MutBor Connection → Fml
LendsConnection b c r = Lends the_row connection_row b r (replace_connection c b.now)
