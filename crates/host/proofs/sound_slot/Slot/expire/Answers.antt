use Rattle.std.proofs.Common.{arith}
use Rattle.protocol.specs.SlotCalls.{expire}
use Rattle.host.proofs.SlotStaysSound.{stays}
use Rattle.host.proofs.sound_slot.Slot.expire.Goals as goal

pub invariant_of-self : goal.invariant_of-self
invariant_of-self g c = record { sound = stays g.R.Resource.laws _ (expire c.args.c.number) (rw c.new.ensures at c.expire.ensures.serves) (omega arith) c.args.self.now.sound }
