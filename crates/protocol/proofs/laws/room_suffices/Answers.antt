use Rattle.std.proofs.Common.{refl}
use Rattle.protocol.proofs.RoomForCommands as law
use Rattle.protocol.proofs.laws.room_suffices.Goals as goal

pub returns : goal.returns
returns g c = record { suffices = λ made. law.room g.R.Resource.meaning made g.R.Resource.laws; constant = refl }
