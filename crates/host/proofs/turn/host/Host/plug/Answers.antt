use Rattle.std.proofs.Common.{arith, rules}
use Rattle.std.proofs.lemmas.Result.{err_from_is_err_and}
use Rattle.protocol.specs.SlotCalls.{plug}
use Rattle.host.proofs.OneSlotCalled.{called_named}
use Rattle.host.proofs.turn.host.Host.plug.Goals as goal

pub returns-in_err-at : goal.returns-in_err-at
returns-in_err-at g c = (let p = err_from_is_err_and c.from_residual.result c.from_residual.ensures.1 in rw (p.1, p.2) (c.in_err-at.ensures.refused (plug c.args.size)))

pub returns : goal.returns
returns g c = called_named g.R.Resource.meaning g.R.Resource.laws c.args.self.now c.args.slot c.in_ok-at.at.number _ (plug c.args.size) _ c.index-self-get.result _ _ c.in_ok-at.ensures.named c.get.ensures (omega arith) (search rules) (search rules)
