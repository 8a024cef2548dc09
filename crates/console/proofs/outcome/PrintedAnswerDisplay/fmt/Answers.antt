use Rattle.std.proofs.Common.{arith, append_assoc, add-one}
use Rattle.std.proofs.lemmas.Grind.{common_steps}
use Rattle.std.proofs.lemmas.List.{map_push}
use Rattle.console.proofs.outcome.PrintedAnswerDisplay.fmt.Goals as goal

pub loop-byte-preserved : goal.loop-byte-preserved
loop-byte-preserved g c =
    let turn = c.in-Some.ensures.steps in
    (grind (arith, common_steps, map_push), rw (map_push, append_assoc) (rw (turn.0, ← turn.1, add-one) at c.loop-byte.invariant.1))
