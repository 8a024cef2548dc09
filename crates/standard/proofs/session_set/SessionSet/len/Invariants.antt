use Rattle.std.proofs.Common.{◌≡◌, take}
use Rattle.std.specs.List.{count_by}
use Rattle.standard.proofs.session_set.SessionSet.len.Given as goal

abbrev pub invariant-loop-mark : goal.invariant-loop-mark
invariant-loop-mark l = l.total ≡ count_by (λ b. b) (take l.mark-index l.mark-items)
