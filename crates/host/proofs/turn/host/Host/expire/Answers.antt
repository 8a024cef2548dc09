use Rattle.std.proofs.Common.{Ok, arith, rules}
use Rattle.protocol.specs.SlotCalls.{expire, done}
use Rattle.host.proofs.OneSlotCalled.{called_at}
use Rattle.host.proofs.turn.host.Host.expire.Goals as goal

pub returns : goal.returns
returns g c =
    called_at g.R.Resource.meaning g.R.Resource.laws c.args.self.now c.args.turn.slot.number c.get.result (expire c.args.turn.connection.number) (Ok done) c.index-self-get.result c.expire.new.self c.expire.new.resource c.get.ensures (omega arith) (search rules) c.expire.ensures
