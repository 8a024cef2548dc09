use Rattle.host_tests.proofs.WireByComputation as law
use Rattle.host_tests.proofs.worked.bytes_on_the_wire.Goals as goal

pub returns : goal.returns
returns c = law.wire
