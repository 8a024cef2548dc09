use Rattle.std.proofs.Common.{arith}
use Rattle.protocol.specs.SlotCalls.{end}
use Rattle.host.proofs.SlotStaysSound.{stays}
use Rattle.host.proofs.sound_slot.Slot.end.Goals as goal

pub invariant_of-self : goal.invariant_of-self
invariant_of-self g c = record { sound = stays g.R.Resource.laws _ (end c.args.connection) (rw c.new.ensures at c.end.ensures.serves) (omega arith) c.args.self.now.sound }
