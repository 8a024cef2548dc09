use Rattle.std.proofs.Common.{length, take, is_some, Ok, Err, ap, arith, rules}
use Rattle.std.proofs.lemmas.Result.{err_from_is_err_and}
use Rattle.protocol.specs.SlotCalls.{next, wrote}
use Rattle.protocol.specs.Runs.{at}
use Rattle.host.proofs.OneSlotCalled.{called_named, called_as}
use Rattle.host.proofs.TurnHandedOut.{handed}
use Rattle.host.proofs.turn.host.Host.next.Goals as goal

pub returns-in_err-at-clause-called : goal.returns-in_err-at-clause-called
returns-in_err-at-clause-called g c = (let p = err_from_is_err_and c.from_residual.result c.from_residual.ensures.1 in rw (p.1, p.2) (c.in_err-at.ensures.refused (next c.args.connection (length c.args.out.now))))

pub returns-in_err-sent-clause-called : goal.returns-in_err-sent-clause-called
returns-in_err-sent-clause-called g c =
    let a = next c.args.connection (length c.args.out.now) in
    let p = err_from_is_err_and c.from_residual-in_err-sent.result c.from_residual-in_err-sent.ensures.1 in
    rw (p.1, p.2) (called_named g.R.Resource.meaning g.R.Resource.laws c.args.self.now c.args.slot c.in_ok-at.at.number c.get.result a (Err c.in_err-sent.field-0.0) c.index-self-get.result c.next.new.self c.args.self.now.resource c.in_ok-at.ensures.named c.get.ensures (omega arith) (search rules) c.in_err-sent.ensures.did)

pub returns-clause-called : goal.returns-clause-called
returns-clause-called g c =
    let M = g.R.Resource.meaning in
    let a = next c.args.connection (length c.args.out.now) in
    let front = take c.in_ok-sent.sent.length c.next.new.out in
    let sent = c.in_ok-sent.sent.turn in
    called_as M g.R.Resource.laws (at c.args.slot a) (Ok (wrote front (is_some sent))) (Ok (wrote front (is_some c.hand_out.result))) _ _
    (ap (λ t. Ok (wrote front t)) (handed c.in_ok-at.at sent c.hand_out.result c.hand_out.ensures))
    (called_named M g.R.Resource.laws c.args.self.now c.args.slot c.in_ok-at.at.number c.get.result a (Ok (wrote front (is_some sent))) c.index-self-get.result c.next.new.self c.args.self.now.resource c.in_ok-at.ensures.named c.get.ensures (omega arith) (search rules) c.in_ok-sent.ensures.did)
