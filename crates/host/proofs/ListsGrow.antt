-- One call more at the end of a list.
use Rattle.std.proofs.Common.{◌≡◌, ℕ, ◌+◌, ◌<◌, ◌≤◌, Bool, true, false, not, ltb, List, [], ◌∷◌, ◌++◌, map, length, get_or, take, drop, set, Err, Result, sym, refl, ap, ◌∙◌, subst, append_assoc, arith}
use Rattle.std.proofs.lemmas.Bool.{ltb-false}
use Rattle.std.proofs.lemmas.List.{map-append, append-nil, take_more, take_more_set, drop_more, take_all, drop-set-lt, drop-drop}
use Rattle.protocol.specs.declared.refusal.Refusal.{Refusal}
use Rattle.protocol.specs.declared.refusal.Refusal.TheVariants as no
use Rattle.resource.specs.Meaning.{Meaning}
use Rattle.protocol.specs.Results.{refuse_if}
use Rattle.protocol.specs.SlotRecord.{SlotRecord, valid_connection}
use Rattle.protocol.specs.SlotCalls.{SlotCall, plug, pull, end, next, feed, expire, CallAnswer, call_outcome}
use Rattle.protocol.specs.Runs.{HostCall, clock, at, HostState, step, run, answer_of}
use Rattle.protocol.specs.HostLaws.{ReachedBy}
use Rattle.protocol.proofs.OneCallMore.{step_same, run_last}
use Rattle.host.specs.declared.turn.host.Host.{Host}
use Rattle.host.specs.HostRefinement.{host_state}
use Rattle.host.specs.declared.call.CallAndAnswer.{CallAndAnswer}
use Rattle.host.specs.PlayerRefinement.{refuse_without_turn, refuse_call_without_turn, player_reply}
use Rattle.host.specs.PlayedLists.{call_in, entry_after, entries_after, PlayerRefinesCalls}

-- there is no turn of a slot that there is not
off_turn : (s c : ℕ) (x : SlotRecord) (r : Result CallAnswer Refusal) → ltb 3 s ≡ true → refuse_without_turn s c x (refuse_if (ltb 3 s) no.Slot r) ≡ Err no.Slot
off_turn s c x r t = ap (λ z. refuse_if z no.Slot (refuse_if (not (valid_connection c)) no.Connection (refuse_if (not (x.conn c).out) no.Turn (refuse_if z no.Slot r)))) t

module _ {S : Type 0} (M : Meaning S) where
  module _ (made : M.Made) where
    -- a reply, and what is left of a slot, rest on the slots that there are
    reply_off : (s : ℕ) (a : SlotCall) (h : HostState M made) → ltb 3 s ≡ true → player_reply M made (at s a) h ≡ Err no.Slot
    reply_off s (plug n) h t = ap (λ z. refuse_if z no.Slot (answer_of (call_outcome M made s (plug n) (h s)))) t
    reply_off s pull h t = ap (λ z. refuse_if z no.Slot (answer_of (call_outcome M made s pull (h s)))) t
    reply_off s (end c) h t = ap (λ z. refuse_if z no.Slot (answer_of (call_outcome M made s (end c) (h s)))) t
    reply_off s (next c room) h t = ap (λ z. refuse_if z no.Slot (answer_of (call_outcome M made s (next c room) (h s)))) t
    reply_off s (feed c lpdu) h t = off_turn s c (h s).slot (answer_of (call_outcome M made s (feed c lpdu) (h s))) t
    reply_off s (expire c) h t = off_turn s c (h s).slot (answer_of (call_outcome M made s (expire c) (h s))) t

    reply_same : (c : HostCall) (h k : HostState M made) → ((s : ℕ) → s < 4 → h s ≡ k s) → player_reply M made c h ≡ player_reply M made c k
    reply_same (clock t) h k e = refl
    reply_same (at s a) h k e = go (ltb 3 s) refl
      where
        go : (b : Bool) → ltb 3 s ≡ b → player_reply M made (at s a) h ≡ player_reply M made (at s a) k
        go true t = reply_off s a h t ∙ sym (reply_off s a k t)
        go false t = ap (λ st. refuse_call_without_turn s a st.slot (refuse_if (ltb 3 s) no.Slot (answer_of (call_outcome M made s a st)))) (e s (let b = ltb-false 3 s t in omega arith))

    -- the last of a list
    entries_last : (es : List CallAndAnswer) (e : CallAndAnswer) (h : HostState M made) → entries_after M made (es ++ e ∷ []) h ≡ entries_after M made es h ++ entry_after (player_reply M made (call_in e) (run M made (map call_in es) h)) e ∷ []
    entries_last [] e h = refl
    entries_last (d ∷ es) e h = ap (λ l. entry_after (player_reply M made (call_in d) h) d ∷ l) (entries_last es e (step M made (call_in d) h))

  -- no call, and one more
  pub none_played : (h : Host S) → PlayerRefinesCalls M [] [] h h
  none_played h = record { answers = refl; after = λ s b. refl; made = refl; reached_by = λ calls k. subst (λ l. ReachedBy M (M.made h.resource) l (host_state M h)) (sym (append-nil calls)) k }

  pub more_played : (es es' : List CallAndAnswer) (e e' : CallAndAnswer) (h h' h2 : Host S) → PlayerRefinesCalls M es es' h h' → PlayerRefinesCalls M (e ∷ []) (e' ∷ []) h' h2 → PlayerRefinesCalls M (es ++ e ∷ []) (es' ++ e' ∷ []) h h2
  more_played es es' e e' h h' h2 p q = record { answers = all; after = after; made = q.made ∙ p.made; reached_by = stands }
    where
      made : M.Made
      made = M.made h.resource

      c : HostCall
      c = call_in e

      before : HostState M made
      before = run M made (map call_in es) (host_state M h)

      same : player_reply M (M.made h'.resource) c (host_state M h') ≡ player_reply M made c before
      same = ap (λ m. player_reply M m c (host_state M h')) p.made ∙ reply_same made c (host_state M h') before p.after

      all : es' ++ e' ∷ [] ≡ entries_after M made (es ++ e ∷ []) (host_state M h)
      all = (λ i. p.answers i ++ q.answers i) ∙ ap (λ r. entries_after M made es (host_state M h) ++ entry_after r e ∷ []) same ∙ sym (entries_last made es e (host_state M h))

      after : (s : ℕ) → s < 4 → host_state M h2 s ≡ run M made (map call_in (es ++ e ∷ [])) (host_state M h) s
      after s b =
          q.after s b
          ∙ ap (λ m. step M m c (host_state M h') s) p.made
          ∙ step_same M made c (host_state M h') before s (p.after s b)
          ∙ ap (λ f. f s) (sym (run_last M made (map call_in es) c (host_state M h)))
          ∙ ap (λ l. run M made l (host_state M h) s) (sym (map-append call_in es (e ∷ [])))

      stands : (calls : List HostCall) → ReachedBy M made calls (host_state M h) → ReachedBy M made (calls ++ map call_in (es ++ e ∷ [])) (host_state M h2)
      stands calls k =
          let on = q.reached_by (calls ++ map call_in es) (subst (λ m. ReachedBy M m (calls ++ map call_in es) (host_state M h')) (sym p.made) (p.reached_by calls k)) in
          let here = subst (λ m. ReachedBy M m ((calls ++ map call_in es) ++ c ∷ []) (host_state M h2)) p.made on in
          subst (λ l. ReachedBy M made l (host_state M h2)) (append_assoc calls (map call_in es) (c ∷ []) ∙ ap (λ l. calls ++ l) (sym (map-append call_in es (e ∷ [])))) here

  -- a list that is played as far as this
  pub record PlayedTo (i : ℕ) (es ys : List CallAndAnswer) (h h' : Host S) : Type 0 where
    pub front : PlayerRefinesCalls M (take i es) (take i ys) h h'
    pub rest : drop i ys ≡ drop i es

  pub played_to_none : (es : List CallAndAnswer) (h : Host S) → PlayedTo 0 es es h h
  played_to_none es h = record { front = none_played h; rest = refl }

  pub played_to_more : (i : ℕ) (es ys : List CallAndAnswer) (d e : CallAndAnswer) (h h' h2 : Host S) → i < length es → length ys ≡ length es → PlayedTo i es ys h h' → PlayerRefinesCalls M (get_or ys i d ∷ []) (e ∷ []) h' h2 → PlayedTo (i + 1) es (set ys i e) h h2
  played_to_more i es ys d e h h' h2 within long p q = record {
    front =
        subst (λ l. PlayerRefinesCalls M l (take (i + 1) (set ys i e)) h h2) (ap (λ x. take i es ++ x ∷ []) same ∙ sym (take_more es i d within))
        (subst (λ l. PlayerRefinesCalls M (take i es ++ get_or ys i d ∷ []) l h h2) (sym (take_more_set ys i e inside)) (more_played (take i es) (take i ys) (get_or ys i d) e h h' h2 p.front q));
    rest = drop-set-lt (i + 1) ys i e (omega arith) ∙ sym (drop-drop 1 i ys) ∙ ap (drop 1) p.rest ∙ drop-drop 1 i es;
  }
    where
      inside : i < length ys
      inside = omega arith

      same : get_or ys i d ≡ get_or es i d
      same = (let k = sym (drop_more ys i d inside) ∙ p.rest ∙ drop_more es i d within in cc)

  pub played_to_all : (i : ℕ) (es ys : List CallAndAnswer) (h h' : Host S) → length es ≤ i → length ys ≡ length es → PlayedTo i es ys h h' → PlayerRefinesCalls M es ys h h'
  played_to_all i es ys h h' past long p = subst (λ l. PlayerRefinesCalls M l ys h h') (take_all i es past) (subst (λ l. PlayerRefinesCalls M (take i es) l h h') (take_all i ys (omega arith)) p.front)
