use Rattle.std.proofs.Common.{sym, subst}
use Rattle.protocol.specs.Sound.{Sound}
use Rattle.protocol.proofs.RecordStaysSound.{fresh_sound}
use Rattle.host.proofs.sound_slot.Slot.new.Goals as goal

pub invariant_of-result : goal.invariant_of-result
invariant_of-result c = record { sound = ∣ subst Sound (sym c.new.ensures) fresh_sound ∣₁ }
