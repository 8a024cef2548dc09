-- What an object for a session leaves of a slot, or why it is refused.
use Rattle.std.specs.Prelude.{◌≡◌, ℕ, Some, None, Ok, Err, Option, Result}
use Rattle.protocol.specs.declared.refusal.Refusal.{Refusal}
use Rattle.resource.specs.declared.apdu_buf.ApduBuf.{ApduBuf}
use Rattle.resource.specs.Meaning.{Meaning}
use Rattle.protocol.specs.declared.state.OwedCommand.{OwedCommand}
use Rattle.protocol.specs.SlotRecord.{SlotRecord}
use Rattle.protocol.specs.SlotCalls.{SlotState, owe, set_share}
use Rattle.slot.specs.ConnectionViews.{owed_of}

-- the resource's share is this, and this is owed, if anything is
abbrev pub settle : {A : Type 0} → ℕ → Result (Option (OwedCommand ApduBuf)) Refusal → A → SlotState A → Result (SlotState A) Refusal
settle c (Ok None) x st = Ok (set_share x st)
settle c (Ok (Some o)) x st = Ok (owe c (owed_of o) (set_share x st))
settle c (Err e) x st = Err e

-- beside whatever record, a step with the share comes to this
abbrev pub Settles : {S : Type 0} (M : Meaning S) (at : ℕ) → (SlotState M.Share → Result (SlotState M.Share) Refusal) → ℕ → Result (Option (OwedCommand ApduBuf)) Refusal → S → S → Type 0
Settles M at f c r s s' = (b : SlotRecord) → settle c r (M.share s' at) (record { slot = b; share = M.share s at }) ≡ f (record { slot = b; share = M.share s at })
