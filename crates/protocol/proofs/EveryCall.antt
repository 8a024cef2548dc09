-- Every call keeps a slot's record sound, whether it is served or refused.
use Rattle.std.proofs.Common.{◌≡◌, ℕ, true, leb, Ok, Err, Result}
use Rattle.protocol.specs.declared.refusal.Refusal.{Refusal}
use Rattle.resource.specs.Meaning.{Meaning}
use Rattle.resource.specs.Lawful.{Lawful}
use Rattle.protocol.specs.Sound.{Sound}
use Rattle.protocol.specs.SlotCalls.{SlotCall, plug, pull, end, next, feed, expire, ServedCall, SlotState, call_outcome}
use Rattle.protocol.specs.Runs.{state_after}
use Rattle.protocol.proofs.ServedAnswers.{Each, each_weaker}
use Rattle.protocol.proofs.CallsFollow.{Kept, plug_kept, pull_kept, end_kept, expire_kept, next_kept}
use Rattle.protocol.proofs.FeedFollows.{feed_kept}

module _ {S : Type 0} (M : Meaning S) (made : M.Made) (at : ℕ) (law : Lawful M) where
  pub act_kept : (a : SlotCall) (st : SlotState M.Share) → leb at 3 ≡ true → Sound st.slot → Kept M made at a st
  act_kept (plug n) st h k = plug_kept M made at law st n k
  act_kept pull st h k = pull_kept M made at law h st k
  act_kept (end c) st h k = end_kept M made at law st c k
  act_kept (next c room) st h k = next_kept M made at st c room k
  act_kept (feed c bs) st h k = feed_kept M made at law h st c bs k
  act_kept (expire c) st h k = expire_kept M made at law st c k

  -- for the type of a slot, whose invariant this is
  pub act_sound : (a : SlotCall) (st : SlotState M.Share) → leb at 3 ≡ true → Sound st.slot → Sound (state_after st (call_outcome M made at a st)).slot
  act_sound a st h k = go (call_outcome M made at a st) (each_weaker (call_outcome M made at a st) _ (λ x. Sound x.left.slot) (λ x f. f.sound) (act_kept a st h k))
    where
      go : (r : Result (ServedCall M.Share) Refusal) → Each r (λ x. Sound x.left.slot) → Sound (state_after st r).slot
      go (Ok x) e = e
      go (Err x) e = k
