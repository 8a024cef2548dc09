use Rattle.std.proofs.Common.{◌≤◌, length}
use Rattle.wire.proofs.WrittenBehind.{Goes_on}
use Rattle.wire.specs.LpduWriting.{cut_bytes}
use Rattle.wire.proofs.lpdu.put_lpdus.Given as goal

abbrev pub invariant-loop-left : goal.invariant-loop-left
invariant-loop-left l = (1 ≤ length l.left) × Goes_on (cut_bytes l.id l.most l.left) (cut_bytes l.id l.most l.tpdu) l.out l.initial.out l.at

abbrev pub decreases-loop-left : goal.decreases-loop-left
decreases-loop-left l = length l.left
