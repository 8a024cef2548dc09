-- The table of bytes, by computation.
use Rattle.std.proofs.Common.{refl}
use Rattle.resource.specs.NumberTables.{session_numbers}
use Rattle.wire.proofs.WorkedLengths.{worked}
use Rattle.host_tests.specs.WireExamples.{WireExamples}

pub wire : WireExamples
unfolding session_numbers
wire = record { lengths = worked; private = refl; spoken = refl; beside = refl }
