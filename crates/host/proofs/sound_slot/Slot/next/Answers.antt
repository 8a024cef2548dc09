use Rattle.std.proofs.Common.{length, arith}
use Rattle.protocol.specs.SlotCalls.{next}
use Rattle.host.proofs.SlotStaysSound.{stays}
use Rattle.host.proofs.sound_slot.Slot.next.Goals as goal

pub invariant_of-self : goal.invariant_of-self
invariant_of-self g c = record { sound = stays g.R.Resource.laws _ (next c.args.connection (length c.args.out.now)) c.next.ensures.did (omega arith) c.args.self.now.sound }
