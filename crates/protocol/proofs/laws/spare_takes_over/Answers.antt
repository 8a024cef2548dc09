use Rattle.protocol.proofs.OneCallMore.{spare_takes_over}
use Rattle.protocol.proofs.laws.spare_takes_over.Goals as goal

pub returns : goal.returns
returns g c = λ made. spare_takes_over g.R.Resource.meaning made g.R.Resource.laws
