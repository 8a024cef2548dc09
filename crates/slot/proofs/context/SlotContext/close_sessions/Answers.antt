use Rattle.std.proofs.Common.{◌+◌, ◌-◌, sym, ap, ◌∙◌, arith}
use Rattle.resource.specs.NumberTables.{numbers_from}
use Rattle.protocol.specs.SlotCalls.{close_session, close_sessions}
use Rattle.slot.proofs.RecordChanges.{numbered, from_more, from_none}
use Rattle.slot.specs.Refinement.{state_at}
use Rattle.slot.proofs.StepsKeep.{kept_same, kept_then, same_context, same_then, step_on}
use Rattle.slot.proofs.context.SlotContext.close_sessions.Goals as goal

pub loop-number-init : goal.loop-number-init
loop-number-init g c =
    let M = g.R.Resource.meaning in
    let p = c.args.self.now in
    let made = M.made p.resource.now in
    record {
      rest = numbered (λ ns. close_sessions M made p.at c.args.c.number ns (state_at M p.at p.slot.now p.resource.now));
      kept = kept_same M p.at p.resource.now;
      same = same_context p;
    }

pub loop-number-preserved : goal.loop-number-preserved
loop-number-preserved g c =
    let M = g.R.Resource.meaning in
    let p = c.args.self.now in
    let q = c.loop-number.self in
    let r = c.close_session.new.self in
    let made = M.made p.resource.now in
    let k = c.args.c.number in
    let n = c.loop-number.number in
    let st = state_at M p.at q.slot.now q.resource.now in
    let inv = c.loop-number.invariant in
    let step = step_on M _ p q r inv.same c.close_session.ensures in
    let here = step.after ∙ ap (λ m. close_session M m p.at k (st.slot.rows n) n st) inv.kept.made in
    record {
      rest = ap (close_sessions M made p.at k (numbers_from (n + 1) (17 - (n + 1)))) here ∙ sym (from_more (λ ns. close_sessions M made p.at k ns st) n (omega arith)) ∙ inv.rest;
      kept = kept_then M p.at p.resource.now q.resource.now r.resource.now inv.kept step.kept;
      same = same_then p q r inv.same c.close_session.ensures.same;
    }

pub returns : goal.returns
returns g c =
    let M = g.R.Resource.meaning in
    let p = c.args.self.now in
    let q = c.loop-number.self in
    let made = M.made p.resource.now in
    let n = c.loop-number.number in
    let inv = c.loop-number.invariant in
    record {
      same = inv.same;
      step = record {
        after = sym (from_none (λ ns. close_sessions M made p.at c.args.c.number ns (state_at M p.at q.slot.now q.resource.now)) n (omega arith)) ∙ inv.rest;
        kept = inv.kept;
      };
    }
