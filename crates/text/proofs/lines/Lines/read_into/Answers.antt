use Rattle.std.proofs.Common.{◌-◌, arith}
use Rattle.text.proofs.Reading.{more, at_feed, one_fewer, left_open}
use Rattle.text.proofs.lines.Lines.read_into.Goals as goal

pub loop-self-preserved-in-Part : goal.loop-self-preserved-in-Part
loop-self-preserved-in-Part g c =
    let lines = c.loop-self.self in
    let held = c.loop-self.invariant in
    let before = left_open g.R.Read.remaining lines (λ z. omega (arith, z, c.loop-self-test.true)) in
    let after = left_open g.R.Read.remaining (record { heap = lines.heap; limit = lines.limit; input = c.add_piece.new.input; turns = lines.turns - 1; ended = lines.ended }) c.if-self-eq0.false in
    let added = rw (c.in-Part.is, held.1) at c.in_ok-add_piece.ensures in (
      rw after (more _ _ _ _ _ _ added.0 added.1 added.2 (rw before at held.0) added.3),
      held.1,
      one_fewer _ _ _ _ held.2 c.loop-self-test.true,
    )

pub returns-in-Whole-clause-read : goal.returns-in-Whole-clause-read
returns-in-Whole-clause-read g c =
    let lines = c.loop-self.self in
    let held = c.loop-self.invariant in
    let before = left_open g.R.Read.remaining lines (λ z. omega (arith, z, c.loop-self-test.true)) in
    let after = left_open g.R.Read.remaining (record { heap = lines.heap; limit = lines.limit; input = c.add_piece.new.input; turns = lines.turns - 1; ended = lines.ended }) c.if-self-eq0.false in
    let added = rw (c.in-Whole.is, held.1) at c.in_ok-add_piece.ensures in
    rw after (at_feed _ _ _ _ _ _ added.0 added.1 added.2 (rw before at held.0) added.3)
