use Rattle.protocol.proofs.LedgerAgrees.{absent_as_new}
use Rattle.protocol.proofs.laws.absent_as_new.Goals as goal

pub returns : goal.returns
returns g c = λ made. absent_as_new g.R.Resource.meaning made g.R.Resource.laws
