use Rattle.std.proofs.Common.{◌≡◌}
use Rattle.standard.proofs.ProfileBytes.{begun}
use Rattle.standard.proofs.manager.profile.Given as goal

abbrev pub invariant-loop-identifier : goal.invariant-loop-identifier
invariant-loop-identifier l = l.bytes.items ≡ begun l.identifier-items l.identifier-index
