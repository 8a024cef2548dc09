use Rattle.protocol.proofs.OneSlotAlone.{slots_apart}
use Rattle.protocol.proofs.laws.slots_apart.Goals as goal

pub returns : goal.returns
returns g c = λ made. slots_apart g.R.Resource.meaning made
