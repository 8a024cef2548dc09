use Rattle.std.proofs.Common.{arith}
use Rattle.protocol.specs.SlotCalls.{pull}
use Rattle.host.proofs.SlotStaysSound.{stays}
use Rattle.host.proofs.sound_slot.Slot.pull.Goals as goal

pub invariant_of-self : goal.invariant_of-self
invariant_of-self g c = record { sound = stays g.R.Resource.laws _ pull (rw c.new.ensures at c.pull.ensures.serves) (omega arith) c.args.self.now.sound }
