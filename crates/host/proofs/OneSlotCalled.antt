-- A call to one slot is a call to the host.
use Rattle.std.proofs.Common.{◌≡◌, ℕ, zero, suc, ◌<◌, Bool, true, false, cond, not, ◌&&◌, eqb, leb, List, [], ◌∷◌, map, length, get_or, set, Some, None, Ok, Err, Option, Result, sym, refl, ap, subst, ◌∙◌, arith}
use Rattle.std.specs.Prelude.{if◌then◌else◌, ok_or, IfErr}
use Rattle.std.proofs.lemmas.Bool.{cond_both, eqb-true, eqb-false, le-ltb, lt-ltb, le-leb, lt-leb, leb-false}
use Rattle.std.proofs.lemmas.List.{get_or-map, map-set, get_or-set_same, get_or-set_other, length-map}
use Rattle.protocol.specs.declared.refusal.Refusal.{Refusal}
use Rattle.protocol.specs.declared.refusal.Refusal.TheVariants as no
use Rattle.resource.specs.Meaning.{Meaning}
use Rattle.resource.specs.Lawful.{Lawful}
use Rattle.resource.proofs.TableLemmas.{no_some, not_both}
use Rattle.std.specs.Option.{option_map}
use Rattle.protocol.specs.Results.{refuse_if}
use Rattle.protocol.specs.SlotRecord as def
use Rattle.protocol.specs.SlotCalls.{SlotCall, CallAnswer, call_outcome, done}
use Rattle.protocol.specs.Runs.{HostCall, at, clock, tell, time_fits, answer, step, answer_of, state_after}
use Rattle.protocol.proofs.OneCallMore.{stands, stands_step}
use Rattle.slot.specs.RecordViews.{slot_of}
use Rattle.slot.specs.Refinement.{state_at, RefinesCall}
use Rattle.host.specs.declared.sound_slot.Slot.{Slot}
use Rattle.host.specs.declared.turn.host.Host.{Host}
use Rattle.host.specs.HostRefinement.{slot_record, record_at, host_state, HostRefinesCall, IsNewHost}

-- a slot's record by the slot's number
pub slot_read : {S : Type 0} (h : Host S) (i : ℕ) (x : Slot) → i < length h.slots → slot_of (get_or h.slots i x).contents ≡ record_at h i
slot_read h i x lt = sym (get_or-map slot_record h.slots i x def.new_slot lt)

module _ {S : Type 0} (M : Meaning S) (law : Lawful M) where
  -- all of a call follows from its answer and what it leaves
  called : (c : HostCall) (r : Result CallAnswer Refusal) (h h' : Host S) → r ≡ answer M (M.made h.resource) c (host_state M h) → ((s : ℕ) → s < 4 → host_state M h' s ≡ step M (M.made h.resource) c (host_state M h) s) → M.made h'.resource ≡ M.made h.resource → HostRefinesCall M c r h h'
  called c r h h' a e m = record {
    answers = a;
    after = e;
    made = m;
    reached_by = λ calls k. stands_step M (M.made h.resource) law calls c (host_state M h) (host_state M h') k e;
  }

  -- a call that names no slot
  pub called_off : (h : Host S) (i : ℕ) (a : SlotCall) → 3 < i → HostRefinesCall M (at i a) (Err no.Slot) h h
  called_off h i a lt =
      called (at i a) (Err no.Slot) h h
      (sym (ap (λ t. refuse_if t no.Slot (answer_of (call_outcome M (M.made h.resource) i a (host_state M h i)))) (lt-ltb 3 i lt)))
      (λ s b. sym (ap (λ t. cond t (state_after (host_state M h i) (call_outcome M (M.made h.resource) i a (host_state M h i))) (host_state M h s)) (off (eqb s i) (leb i 3) (lt-leb i 3 lt))))
      refl
    where
      off : (x y : Bool) → y ≡ false → (x && y) ≡ false
      off true y e = e
      off false y e = refl

  -- where a number names no slot every call is refused
  pub refused_off : {A : Type 0} (f : A → ℕ) (h : Host S) (i : ℕ) (o : Option A) (r : Result A Refusal) → option_map f o ≡ (if leb 0 i && leb i 3 then Some i else None) → r ≡ ok_or o no.Slot
      → IfErr r (λ e. (a : SlotCall) → HostRefinesCall M (at i a) (Err e) h h)
  refused_off f h i (Some x) r e q = rw q tt
  refused_off f h i None r e q = rw q (λ a. called_off h i a (above (leb 0 i) (leb i 3) (le-leb 0 i (omega arith)) refl e))
    where
      above : (a b : Bool) → a ≡ true → leb i 3 ≡ b → None ≡ (if a && b then Some i else None) → 3 < i
      above true true t u k = no_some i k
      above true false t u k = leb-false i 3 u
      above false b t u k = not_both false t refl

  -- a call on the slot with this number
  module _ (h : Host S) (i j : ℕ) (a : SlotCall) (r : Result CallAnswer Refusal) (x x' : Slot) (s' : S) where
    abbrev h' : Host S
    h' = record { resource = s'; slots = set h.slots j x' }

    abbrev made : M.Made
    made = M.made h.resource

    on : (x y : Bool) → y ≡ true → (x && y) ≡ x
    on true y e = e
    on false y e = refl

    was : i < length h.slots → host_state M h i ≡ state_at M i (get_or h.slots i x).contents h.resource
    was lt = ap (λ z. record { slot = z; share = M.share h.resource i }) (sym (slot_read h i x lt))

    pub called_at : j ≡ i → i < 4 → j < length h.slots → RefinesCall M i a r (get_or h.slots j x).contents h.resource x'.contents s' → HostRefinesCall M (at i a) r h h'
    called_at same small lt d = called (at i a) r h h' told each d.kept.made
      where
        within : i < length h.slots
        within = rw (sym same) lt

        then' : host_state M h i ≡ state_at M i (get_or h.slots j x).contents h.resource
        then' = was within ∙ ap (λ k. state_at M i (get_or h.slots k x).contents h.resource) (sym same)

        is : host_state M h' i ≡ state_at M i x'.contents s'
        is = ap (λ k. record { slot = get_or (map slot_record (set h.slots k x')) i def.new_slot; share = M.share s' i }) same
            ∙ ap (λ z. record { slot = z; share = M.share s' i }) (ap (λ l. get_or l i def.new_slot) (map-set slot_record h.slots i x') ∙ get_or-set_same (map slot_record h.slots) i (slot_record x') def.new_slot (rw (length-map h.slots slot_record) within))

        told : r ≡ answer M made (at i a) (host_state M h)
        told = d.answer ∙ ap (λ z. answer_of (call_outcome M made i a z)) (sym then') ∙ sym (ap (λ t. refuse_if t no.Slot (answer_of (call_outcome M made i a (host_state M h i)))) (le-ltb 3 i (omega arith)))

        here : host_state M h' i ≡ state_after (host_state M h i) (call_outcome M made i a (host_state M h i))
        here = is ∙ d.after ∙ ap (λ z. state_after z (call_outcome M made i a z)) (sym then')

        away : (s : ℕ) → (s ≡ i → ⊥) → host_state M h' s ≡ host_state M h s
        away s ne = λ k. record { slot = (ap (λ l. get_or l s def.new_slot) (map-set slot_record h.slots j x') ∙ get_or-set_other (map slot_record h.slots) j s (slot_record x') def.new_slot (λ e. ne (e ∙ same))) k; share = d.kept.others s ne k }

        each : (s : ℕ) → s < 4 → host_state M h' s ≡ step M made (at i a) (host_state M h) s
        each s b =
            cond_both (eqb s i) (state_after (host_state M h i) (call_outcome M made i a (host_state M h i))) (host_state M h s) (λ z. host_state M h' s ≡ z) (λ t. ap (host_state M h') (eqb-true s i t) ∙ here) (λ t. away s (eqb-false s i t))
            ∙ sym (ap (λ t. cond t (state_after (host_state M h i) (call_outcome M made i a (host_state M h i))) (host_state M h s)) (on (eqb s i) (leb i 3) (le-leb i 3 (omega arith))))

  -- the same, by the number that the call names
  pub called_named : (h : Host S) (k i j : ℕ) (a : SlotCall) (r : Result CallAnswer Refusal) (x x' : Slot) (s' : S) → i ≡ k → j ≡ i → i < 4 → j < length h.slots → RefinesCall M i a r (get_or h.slots j x).contents h.resource x'.contents s'
      → HostRefinesCall M (at k a) r h (record { resource = s'; slots = set h.slots j x' })
  called_named h k i j a r x x' s' named same small lt d = subst (λ n. HostRefinesCall M (at n a) r h (record { resource = s'; slots = set h.slots j x' })) named (called_at h i j a r x x' s' same small lt d)

  -- a call with another name for its answer
  pub called_as : (c : HostCall) (r r' : Result CallAnswer Refusal) (h h' : Host S) → r ≡ r' → HostRefinesCall M c r h h' → HostRefinesCall M c r' h h'
  called_as c r r' h _ e k = record { answers = sym e ∙ k.answers; after = k.after; made = k.made; reached_by = k.reached_by }

  pub clock_told : (t : List ℕ) (h : Host S) (s' : S) → time_fits t ≡ true → M.made s' ≡ M.made h.resource → ((s : ℕ) → s < 4 → M.share s' s ≡ M.told (M.made h.resource) t (M.share h.resource s)) → HostRefinesCall M (clock t) (Ok done) h (record { resource = s'; slots = h.slots })
  clock_told t h s' fits made told =
      called (clock t) (Ok done) h (record { resource = s'; slots = h.slots })
      (sym (ap (λ z. refuse_if (not z) no.Clock (Ok done)) fits))
      (λ s b. ap (λ x. record { slot = (host_state M h s).slot; share = x }) (told s b) ∙ sym (ap (λ z. cond z (tell M (M.made h.resource) t (host_state M h s)) (host_state M h s)) fits))
      made

  pub clock_off : (t : List ℕ) (h : Host S) → time_fits t ≡ false → HostRefinesCall M (clock t) (Err no.Clock) h h
  clock_off t h off =
      called (clock t) (Err no.Clock) h h
      (sym (ap (λ z. refuse_if (not z) no.Clock (Ok done)) off))
      (λ s b. sym (ap (λ z. cond z (tell M (M.made h.resource) t (host_state M h s)) (host_state M h s)) off))
      refl

  -- a host at its start
  all_fresh : (xs : List Slot) → ((s : ℕ) (x : Slot) → s < length xs → slot_record (get_or xs s x) ≡ def.new_slot) → (s : ℕ) → get_or (map slot_record xs) s def.new_slot ≡ def.new_slot
  all_fresh [] k s = refl
  all_fresh (y ∷ xs) k zero = k 0 y (omega arith)
  all_fresh (y ∷ xs) k (suc s) = all_fresh xs (λ n x lt. k (suc n) x (omega arith)) s

  pub begins : (r : S) (slots : List Slot) → ((s : ℕ) (x : Slot) → s < length slots → slot_record (get_or slots s x) ≡ def.new_slot) → IsNewHost M r (record { resource = r; slots = slots })
  begins r slots e = record {
    slots = all_fresh slots e;
    resource = refl;
    reached_by = λ new. stands M (M.made r) law [] (host_state M (record { resource = r; slots = slots })) (λ s b. λ i. record { slot = all_fresh slots e s i; share = new s b i });
  }
