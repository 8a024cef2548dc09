use Rattle.std.proofs.Common.{arith}
use Rattle.protocol.specs.SlotCalls.{feed}
use Rattle.host.proofs.SlotStaysSound.{stays}
use Rattle.host.proofs.sound_slot.Slot.feed.Goals as goal

pub invariant_of-self : goal.invariant_of-self
invariant_of-self g c = record { sound = stays g.R.Resource.laws _ (feed c.args.c.number c.args.lpdu.now) (rw c.new-context.ensures at c.feed.ensures.serves) (omega arith) c.args.self.now.sound }
