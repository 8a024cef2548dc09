use Rattle.protocol.proofs.OneCallMore.{stands_new, stands_step}
use Rattle.protocol.proofs.laws.reached_by_calls.Goals as goal

pub returns : goal.returns
returns g c = record { new = λ made. stands_new g.R.Resource.meaning made g.R.Resource.laws; on = λ made. stands_step g.R.Resource.meaning made g.R.Resource.laws }
