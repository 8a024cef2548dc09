-- What the entries of one slot tell rests on these alone.
use Rattle.std.proofs.Common.{◌≡◌, ℕ, Bool, true, false, cond, List, [], ◌∷◌, sym, refl, ap, ◌∙◌, true-eqb}
use Rattle.resource.specs.Meaning.{Meaning}
use Rattle.protocol.specs.SlotCalls.{SlotState}
use Rattle.protocol.specs.Runs as runs
use Rattle.protocol.specs.Runs.{HostState, concerns, step, clock, at}
use Rattle.protocol.proofs.OneSlotAlone.{alike, local, named, unnamed}
use Rattle.host.specs.declared.call.Call.{Call}
use Rattle.host.specs.declared.call.Call.TheVariants.{Clock, Plug, Pull, End, Next, Feed, Expire}
use Rattle.host.specs.declared.call.CallAndAnswer.{CallAndAnswer}
use Rattle.host.specs.Calls.{lent}
use Rattle.host.specs.PlayerRefinement.{call_of, player_reply}
use Rattle.host.specs.PlayedLists.{call_in, entries_of, entry_after, entries_after, new_host_over, EntriesApart}

-- a call's slot does not rest on its room
same_slot : (s : ℕ) (c : Call (List ℕ)) (m n : ℕ) → concerns s (call_of c m) ≡ concerns s (call_of c n)
same_slot s (Clock t) m n = refl
same_slot s (Plug i size) m n = refl
same_slot s (Pull i) m n = refl
same_slot s (End i c) m n = refl
same_slot s (Next i c) m n = refl
same_slot s (Feed i c lpdu) m n = refl
same_slot s (Expire i c) m n = refl

module _ {S : Type 0} (M : Meaning S) (made : M.Made) where
  replied : (s : ℕ) (c : runs.HostCall) (h : HostState M made) → concerns s c ≡ true → player_reply M made c h ≡ player_reply M made c (alike M made (h s))
  replied s (clock t) h e = refl
  replied s (at i a) h e = rw (true-eqb s i (sym e))

  abbrev local_left : ℕ → List CallAndAnswer → SlotState M.Share → List CallAndAnswer
  local_left s [] st = []
  local_left s (e ∷ es) st = entry_after (player_reply M made (call_in e) (alike M made st)) e ∷ local_left s es (local M made s (call_in e) st)

  left_of : (s : ℕ) (es : List CallAndAnswer) (h : HostState M made) → entries_of s (entries_after M made es h) ≡ local_left s (entries_of s es) (h s)
  left_of s [] h = refl
  left_of s (e ∷ es) h =
      ap (λ b. cond b (left ∷ entries_of s rest) (entries_of s rest)) (same_slot s (lent e.call) _ _)
      ∙ go (concerns s (call_in e)) refl (left_of s es (step M made (call_in e) h))
    where
      left : CallAndAnswer
      left = entry_after (player_reply M made (call_in e) h) e

      rest : List CallAndAnswer
      rest = entries_after M made es (step M made (call_in e) h)

      go : (b : Bool) → concerns s (call_in e) ≡ b → entries_of s rest ≡ local_left s (entries_of s es) (step M made (call_in e) h s) → cond b (left ∷ entries_of s rest) (entries_of s rest) ≡ local_left s (cond b (e ∷ entries_of s es) (entries_of s es)) (h s)
      go true t r = λ i. entry_after (replied s (call_in e) h t i) e ∷ (r ∙ ap (local_left s (entries_of s es)) (named M made s (call_in e) h t)) i
      go false t r = r ∙ ap (local_left s (entries_of s es)) (unnamed M made s (call_in e) h t)

module _ {S : Type 0} (M : Meaning S) where
  pub tells_apart : (r : S) (es es' : List CallAndAnswer) → es' ≡ entries_after M (M.made r) es (new_host_over M r) → EntriesApart M r es es'
  tells_apart r es es' e s fs same =
      ap (entries_of s) e
      ∙ left_of M (M.made r) s es (new_host_over M r)
      ∙ ap (λ l. local_left M (M.made r) s l (new_host_over M r s)) same
      ∙ sym (left_of M (M.made r) s fs (new_host_over M r))
