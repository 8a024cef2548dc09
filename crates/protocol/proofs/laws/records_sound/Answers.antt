use Rattle.protocol.proofs.LedgerAgrees.{records_sound}
use Rattle.protocol.proofs.laws.records_sound.Goals as goal

pub returns : goal.returns
returns g c = λ made. records_sound g.R.Resource.meaning made g.R.Resource.laws
