use Rattle.std.proofs.Common.{arith, rules}
use Rattle.protocol.specs.SlotCalls.{feed}
use Rattle.slot.specs.FeedAnswers.{feed_answer}
use Rattle.host.proofs.OneSlotCalled.{called_at}
use Rattle.host.proofs.turn.host.Host.feed_at.Goals as goal

pub returns : goal.returns
returns g c =
    called_at g.R.Resource.meaning g.R.Resource.laws c.args.self.now c.args.slot.number c.get.result (feed c.args.connection.number c.args.lpdu.now) (feed_answer c.feed.result) c.index-self-get.result c.feed.new.self c.feed.new.resource c.get.ensures (omega arith) (search rules) c.feed.ensures
