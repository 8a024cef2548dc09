use Rattle.std.proofs.Common.{arith}
use Rattle.protocol.specs.SlotCalls.{plug}
use Rattle.host.proofs.SlotStaysSound.{stays}
use Rattle.host.proofs.sound_slot.Slot.plug.Goals as goal

pub invariant_of-self : goal.invariant_of-self
invariant_of-self g c = record { sound = stays g.R.Resource.laws _ (plug _) (rw c.new.ensures at c.plug.ensures.serves) (omega arith) c.args.self.now.sound }
