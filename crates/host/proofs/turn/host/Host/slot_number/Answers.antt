use Rattle.host.proofs.OneSlotCalled.{refused_off}
use Rattle.host.proofs.turn.host.Host.slot_number.Goals as goal

pub returns-clause-refused : goal.returns-clause-refused
returns-clause-refused g c = refused_off g.R.Resource.meaning g.R.Resource.laws (λ s. s.number) c.args.self.now c.args.slot c.new.result c.ok_or.result c.new.ensures c.ok_or.ensures.value
