use Rattle.std.proofs.Common.{◌≡◌, ◌-◌}
use Rattle.resource.specs.NumberTables.{numbers_from, session_numbers}
use Rattle.resource.specs.CallEffects.{OthersStay}
use Rattle.protocol.specs.SlotCalls.{close_sessions}
use Rattle.slot.specs.Refinement.{state_at}
use Rattle.slot.specs.ContextRefinement.{SameContext}
use Rattle.slot.proofs.context.SlotContext.close_sessions.Given as goal

-- closing the rest gives what closing all gives
abbrev pub invariant-loop-number : goal.invariant-loop-number
invariant-loop-number g l =
    let M = g.R.Resource.meaning in
    let p = l.initial.self in
    let q = l.self in
    let made = M.made p.resource.now in
    record {
      rest : close_sessions M made p.at l.c.number (numbers_from l.number (17 - l.number)) (state_at M p.at q.slot.now q.resource.now) ≡ close_sessions M made p.at l.c.number session_numbers (state_at M p.at p.slot.now p.resource.now);
      kept : OthersStay M p.at p.resource.now q.resource.now;
      same : SameContext p q;
    }
