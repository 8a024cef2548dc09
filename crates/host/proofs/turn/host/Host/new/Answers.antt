use Rattle.std.proofs.Common.{sym, rules}
use Rattle.host.proofs.OneSlotCalled.{begins}
use Rattle.host.proofs.turn.host.Host.new.Goals as goal

pub returns : goal.returns
returns g c = begins g.R.Resource.meaning g.R.Resource.laws c.args.resource c.from_fn.result (λ s x lt. let k = c.from_fn.ensures.items.at s x (rw (sym c.from_fn.ensures.items.long) lt) in search rules)
