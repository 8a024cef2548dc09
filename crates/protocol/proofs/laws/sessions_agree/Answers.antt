use Rattle.protocol.proofs.LedgerAgrees.{sessions_agree}
use Rattle.protocol.proofs.laws.sessions_agree.Goals as goal

pub returns : goal.returns
returns g c = λ made. sessions_agree g.R.Resource.meaning made g.R.Resource.laws
