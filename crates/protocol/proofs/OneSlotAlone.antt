-- What one slot comes to rests on the clock calls and its own calls alone. Assumes nothing.
use Rattle.std.proofs.Common.{◌≡◌, ℕ, Bool, true, false, cond, List, [], ◌∷◌, Result, sym, refl, ap, ◌∙◌, arith, true-eqb}
use Rattle.protocol.specs.declared.refusal.Refusal.{Refusal}
use Rattle.resource.specs.Meaning.{Meaning}
use Rattle.protocol.specs.SlotCalls.{SlotState, CallAnswer}
use Rattle.protocol.specs.Runs.{HostCall, clock, at, HostState, new_host, answer, step, run, concerns, calls_concerning, answers}
use Rattle.protocol.specs.HostLaws.{SameForSlot, SlotsApart}

module _ {S : Type 0} (M : Meaning S) (made : M.Made) where
  -- every slot as this one
  abbrev pub alike : SlotState M.Share → HostState M made
  alike st s = st

  abbrev pub local : ℕ → HostCall → SlotState M.Share → SlotState M.Share
  local s c st = step M made c (alike st) s

  abbrev local_run : ℕ → List HostCall → SlotState M.Share → SlotState M.Share
  local_run s [] st = st
  local_run s (c ∷ cs) st = local_run s cs (local s c st)

  abbrev local_answers : ℕ → List HostCall → SlotState M.Share → List (Result CallAnswer Refusal)
  local_answers s [] st = []
  local_answers s (c ∷ cs) st = answer M made c (alike st) ∷ local_answers s cs (local s c st)

  pub named : (s : ℕ) (c : HostCall) (h : HostState M made) → concerns s c ≡ true → step M made c h s ≡ local s c (h s)
  named s (clock t) h e = refl
  named s (at i a) h e = rw (true-eqb s i (sym e))

  pub unnamed : (s : ℕ) (c : HostCall) (h : HostState M made) → concerns s c ≡ false → step M made c h s ≡ h s
  unnamed s (clock t) h e = (let z : ◌≡◌ {A = ℕ} 0 1 = cc in absurd (omega arith))
  unnamed s (at i a) h e = rw e

  answered : (s : ℕ) (c : HostCall) (h : HostState M made) → concerns s c ≡ true → answer M made c h ≡ answer M made c (alike (h s))
  answered s (clock t) h e = refl
  answered s (at i a) h e = rw (true-eqb s i (sym e))

  same_run : (cs : List HostCall) (h : HostState M made) (s : ℕ) → run M made cs h s ≡ local_run s (calls_concerning s cs) (h s)
  same_run [] h s = refl
  same_run (c ∷ cs) h s = go (concerns s c) refl (same_run cs (step M made c h) s)
    where
      go : (b : Bool) → concerns s c ≡ b → run M made cs (step M made c h) s ≡ local_run s (calls_concerning s cs) (step M made c h s) → run M made cs (step M made c h) s ≡ local_run s (cond b (c ∷ calls_concerning s cs) (calls_concerning s cs)) (h s)
      go true e r = r ∙ ap (local_run s (calls_concerning s cs)) (named s c h e)
      go false e r = r ∙ ap (local_run s (calls_concerning s cs)) (unnamed s c h e)

  same_answers : (cs : List HostCall) (h : HostState M made) (s : ℕ) → answers M made s cs h ≡ local_answers s (calls_concerning s cs) (h s)
  same_answers [] h s = refl
  same_answers (c ∷ cs) h s = go (concerns s c) refl (same_answers cs (step M made c h) s)
    where
      go : (b : Bool) → concerns s c ≡ b → answers M made s cs (step M made c h) ≡ local_answers s (calls_concerning s cs) (step M made c h s) → cond b (answer M made c h ∷ answers M made s cs (step M made c h)) (answers M made s cs (step M made c h)) ≡ local_answers s (cond b (c ∷ calls_concerning s cs) (calls_concerning s cs)) (h s)
      go true e r = λ i. answered s c h e i ∷ (r ∙ ap (local_answers s (calls_concerning s cs)) (named s c h e)) i
      go false e r = r ∙ ap (local_answers s (calls_concerning s cs)) (unnamed s c h e)

  -- from two states that have the same of a slot
  pub onward : (s : ℕ) (cs ds : List HostCall) (h k : HostState M made) → h s ≡ k s → calls_concerning s cs ≡ calls_concerning s ds → SameForSlot M made s cs h ds k
  onward s cs ds h k same e = (
    same_answers cs h s ∙ (λ i. local_answers s (e i) (same i)) ∙ sym (same_answers ds k s),
    same_run cs h s ∙ (λ i. local_run s (e i) (same i)) ∙ sym (same_run ds k s),
  )

  pub slots_apart : SlotsApart M made
  slots_apart cs ds s b e = onward s cs ds (new_host M made) (new_host M made) refl e
