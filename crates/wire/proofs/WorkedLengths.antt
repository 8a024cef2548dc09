-- The worked lengths, computed.
use Rattle.std.proofs.Common.{refl}
use Rattle.wire.specs.UnitLaws.{WorkedLengths}

pub worked : WorkedLengths
worked = record { one_byte = refl; two_bytes = refl; no_size = refl; three_size_bytes = refl; written = refl }
