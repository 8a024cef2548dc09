use Rattle.std.proofs.Common.{rules}
use Rattle.host.proofs.OneSlotCalled.{clock_told, clock_off}
use Rattle.host.proofs.turn.host.Host.clock.Goals as goal

pub returns-then-not-time_fits : goal.returns-then-not-time_fits
returns-then-not-time_fits g c = clock_off g.R.Resource.meaning g.R.Resource.laws c.args.time c.args.self.now (search rules)

pub returns : goal.returns
returns g c = clock_told g.R.Resource.meaning g.R.Resource.laws c.args.time c.args.self.now _ (search rules) (search rules) (search rules)
