-- A player holds just the turns that are out.
use Rattle.std.proofs.Common.{◌≡◌, ℕ, ◌<◌, ◌≤◌, Bool, true, false, cond, not, ◌&&◌, ◌||◌, eqb, ltb, leb, ◌⊎◌, List, length, get_or, set, is_ok, Some, None, Ok, Err, Option, Result, sym, refl, ap, ◌∙◌, subst, inl, inr, ⊎_elim, arith}
use Rattle.std.proofs.lemmas.Bool.{eqb-true, eqb-false, eq-eqb, ne_eqb, le-leb, lt-leb, and_parts, cases_eq, cases_lt, cond_both, ltb-true, ltb-false, leb-true}
use Rattle.std.proofs.lemmas.List.{get_or-set_same, get_or-set_other, get_or_past, set-get_or, set-set}
use Rattle.std.proofs.lemmas.Bool.Decides.{nat_tests}
use Rattle.protocol.specs.declared.refusal.Refusal.{Refusal}
use Rattle.protocol.specs.declared.refusal.Refusal.TheVariants as no
use Rattle.resource.specs.Meaning.{Meaning}
use Rattle.resource.specs.Lawful.{Lawful}
use Rattle.resource.proofs.TableLemmas.{not_both, no_some}
use Rattle.protocol.specs.Results.{refuse_if}
use Rattle.protocol.specs.SlotRecord.{valid_connection}
use Rattle.protocol.specs.SlotCalls.{SlotCall, next, feed, expire, expire_turn, CallAnswer, SlotState, ServedCall, call_outcome, done}
use Rattle.protocol.specs.Runs.{HostCall, clock, at, answer, step, answer_of, state_after}
use Rattle.protocol.specs.TurnMarks.{mark, mark_after, mark_in}
use Rattle.protocol.proofs.TurnMarksFollow.{turns_follow}
use Rattle.protocol.proofs.OneCallMore.{stands_step}
use Rattle.slot.specs.Refinement.{plain_answer}
use Rattle.host.specs.declared.turn.Turn.{Turn}
use Rattle.host.specs.declared.turn.host.Host.{Host}
use Rattle.host.specs.HostRefinement.{record_at, host_state, HostRefinesCall}
use Rattle.slot.specs.WrittenCommands.{buffer_after}
use Rattle.host.specs.declared.call.Answer as code
use Rattle.host.specs.declared.turns.TurnTable.{TurnTable}
use Rattle.host.specs.declared.state.PlayerState.{PlayerState}
use Rattle.host.specs.TurnTables.{turn_index, turn_at, turn_or_refusal, take_turn}
use Rattle.host.specs.PlayerRefinement.{player_answer, refuse_without_turn, refuse_call_without_turn, player_reply, turn_matches, TurnsMatch, PlayerRefinesCall}

-- where a turn is
same_place : (s c s' c' : ℕ) → 1 ≤ c → c ≤ 2 → 1 ≤ c' → c' ≤ 2 → turn_index s' c' ≡ turn_index s c → (s' ≡ s) × (c' ≡ c)
same_place s c s' c' lo hi lo' hi' e = (let a : s' ≡ s = omega arith in a, let b : c' ≡ c = omega arith in b)

set_turn : (ts : List (Option Turn)) (s c : ℕ) (x : Option Turn) (s' c' : ℕ) → turn_index s c < length ts → 1 ≤ c → c ≤ 2 → 1 ≤ c' → c' ≤ 2
    → turn_at (set ts (turn_index s c) x) s' c' ≡ cond (eqb s' s && eqb c' c) x (turn_at ts s' c')
set_turn ts s c x s' c' lt lo hi lo' hi' = go (eqb s' s) (eqb c' c) refl refl
  where
    go : (a b : Bool) → eqb s' s ≡ a → eqb c' c ≡ b → turn_at (set ts (turn_index s c) x) s' c' ≡ cond (a && b) x (turn_at ts s' c')
    go true true p q = (λ i. get_or (set ts (turn_index s c) x) (turn_index (eqb-true s' s p i) (eqb-true c' c q i)) None) ∙ get_or-set_same ts (turn_index s c) x None lt
    go true false p q = get_or-set_other ts (turn_index s c) (turn_index s' c') x None (λ e. eqb-false c' c q (same_place s c s' c' lo hi lo' hi' e).1)
    go false b p q = get_or-set_other ts (turn_index s c) (turn_index s' c') x None (λ e. eqb-false s' s p (same_place s c s' c' lo hi lo' hi' e).0)

-- a turn that is there is within the list
some_within : (ts : List (Option Turn)) (p : ℕ) (t : Turn) → get_or ts p None ≡ Some t → p < length ts
some_within ts p t e = ⊎_elim (λ (h : p < length ts). h) (λ (h : length ts ≤ p). no_some t (sym (get_or_past ts p None h) ∙ e)) (cases_lt p (length ts))

-- what it tells that a held turn matches
tied_none : (s c : ℕ) (o : Bool) → turn_matches s c None o ≡ true → o ≡ false
tied_none s c true e = not_both false e refl
tied_none s c false e = refl

tied_some : (s c : ℕ) (t : Turn) (o : Bool) → turn_matches s c (Some t) o ≡ true → (o ≡ true) × ((t.slot.number ≡ s) × (t.connection.number ≡ c))
tied_some s c t o e =
    let a = and_parts o (eqb t.slot.number s && eqb t.connection.number c) e in
    let b = and_parts (eqb t.slot.number s) (eqb t.connection.number c) a.1 in
    (a.0, (eqb-true _ _ b.0, eqb-true _ _ b.1))

pub tie : (s c : ℕ) (t : Turn) (o : Bool) → o ≡ true → t.slot.number ≡ s → t.connection.number ≡ c → turn_matches s c (Some t) o ≡ true
tie s c t o a b d = λ i. a i && (eq-eqb t.slot.number s b i && eq-eqb t.connection.number c d i)

valid_of : (c : ℕ) → 1 ≤ c → c ≤ 2 → valid_connection c ≡ true
valid_of c lo hi = grind (arith, nat_tests)

valid_is : (c : ℕ) → valid_connection c ≡ true → (1 ≤ c) × (c ≤ 2)
valid_is c e =
    ⊎_elim (λ (p : c ≡ 1). (omega arith, omega arith))
    (λ (n : c ≡ 1 → ⊥). ⊎_elim (λ (p : c ≡ 2). (omega arith, omega arith)) (λ (m : c ≡ 2 → ⊥). not_both (valid_connection c) e (λ i. ne_eqb c 1 n i || ne_eqb c 2 m i)) (cases_eq c 2))
    (cases_eq c 1)

-- held turns match at one slot and connection, and at all
tied_at : {S : Type 0} (d : PlayerState S) → TurnsMatch d → (s c : ℕ) → s < 4 → 1 ≤ c → c ≤ 2 → turn_matches s c (turn_at d.held.turns s c) ((record_at d.host s).conn c).out ≡ true
tied_at d k s c lt lo hi = sym (λ i. cond (le-leb s 3 (omega arith) i && valid_of c lo hi i) (turn_matches s c (turn_at d.held.turns s c) ((record_at d.host s).conn c).out) true) ∙ k s c

pub ties : {S : Type 0} (d : PlayerState S) → ((s c : ℕ) → s < 4 → 1 ≤ c → c ≤ 2 → turn_matches s c (turn_at d.held.turns s c) ((record_at d.host s).conn c).out ≡ true) → TurnsMatch d
ties d k s c =
    cond_both (leb s 3 && valid_connection c) (turn_matches s c (turn_at d.held.turns s c) ((record_at d.host s).conn c).out) true (λ b. b ≡ true)
    (λ e. let p = and_parts (leb s 3) (valid_connection c) e in let small = leb-true s 3 p.0 in let good = valid_is c p.1 in k s c (omega arith) good.0 good.1)
    (λ _. refl)

-- a refusal to hand out a turn is one to a call
abbrev as_answer : Result Turn Refusal → Result CallAnswer Refusal
as_answer (Ok t) = Ok done
as_answer (Err e) = Err e

-- a call that tells no more than that it is served writes nothing
pub nothing_written : (r : Result Unit Refusal) (out : List ℕ) → out ≡ buffer_after (plain_answer r) out
nothing_written (Ok u) out = refl
nothing_written (Err e) out = refl

module _ {S : Type 0} (M : Meaning S) (law : Lawful M) where
  -- the marks after a call to the host
  pub marks_after : (h h' : Host S) (c : HostCall) (r : Result CallAnswer Refusal) → HostRefinesCall M c r h h' → (s k : ℕ) → s < 4
      → ((record_at h' s).conn k).out ≡ mark_in c r s k ((record_at h s).conn k).out
  marks_after h h' c r called s k lt =
      ap (mark k) (called.after s lt)
      ∙ turns_follow M (M.made h.resource) c (host_state M h) s k
      ∙ ap (λ x. mark_in c x s k ((record_at h s).conn k).out) (sym called.answers)

  pub clock_marks : (h h' : Host S) (t : List ℕ) (r : Result CallAnswer Refusal) → HostRefinesCall M (clock t) r h h' → (s k : ℕ) → s < 4
      → ((record_at h' s).conn k).out ≡ ((record_at h s).conn k).out
  clock_marks h h' t r called s k lt = marks_after h h' (clock t) r called s k lt

  -- a call to the host that a player makes as it is
  pub plays : (c : HostCall) (d : Result CallAnswer Refusal) (r : Result code.Answer Refusal) (out out' : List ℕ) (h h' : Host S) → r ≡ player_answer d → out' ≡ buffer_after d out → answer M (M.made h.resource) c (host_state M h) ≡ player_reply M (M.made h.resource) c (host_state M h) → HostRefinesCall M c d h h'
      → PlayerRefinesCall M c r out out' h h'
  plays c d r out out' h h' e b same k = record {
    answer = e ∙ ap player_answer (k.answers ∙ same);
    bytes = b ∙ ap (λ z. buffer_after z out) (k.answers ∙ same);
    after = k.after;
    made = k.made;
    reached_by = k.reached_by;
  }

  -- the turns that are held, and the marks, are as they were
  pub keeps : (d d' : PlayerState S) → d'.held.turns ≡ d.held.turns → ((s k : ℕ) → s < 4 → ((record_at d'.host s).conn k).out ≡ ((record_at d.host s).conn k).out) → TurnsMatch d → TurnsMatch d'
  keeps d d' hand out k = ties d' (λ s c lt lo hi. (λ i. turn_matches s c (turn_at (hand i) s c) (out s c lt i)) ∙ tied_at d k s c lt lo hi)

  -- a call that takes and hands out no turn
  pub still : (d d' : PlayerState S) (i : ℕ) (a : SlotCall) (r : Result CallAnswer Refusal) → d'.held.turns ≡ d.held.turns → ((k : ℕ) (o : Bool) → mark_after a r k o ≡ o) → HostRefinesCall M (at i a) r d.host d'.host → TurnsMatch d → TurnsMatch d'
  still d d' i a r hand same called k =
      keeps d d' hand (λ s c lt. marks_after d.host d'.host (at i a) r called s c lt ∙ cond_both (eqb s i) _ _ (λ x. x ≡ ((record_at d.host s).conn c).out) (λ _. same c _) (λ _. refl)) k

  -- the turn of a slot and a connection changes with their mark
  pub changes : (d d' : PlayerState S) (i c : ℕ) (a : SlotCall) (r : Result CallAnswer Refusal) (x : Option Turn) (m : Bool) → 1 ≤ c → c ≤ 2 → turn_index i c < length d.held.turns
      → d'.held.turns ≡ set d.held.turns (turn_index i c) x → ((k : ℕ) (o : Bool) → mark_after a r k o ≡ cond (eqb k c) m o) → turn_matches i c x m ≡ true
      → HostRefinesCall M (at i a) r d.host d'.host → TurnsMatch d → TurnsMatch d'
  changes d d' i c a r x m lo hi inside hand marks fits called k = ties d' each
    where
      was : ℕ → ℕ → Bool
      was s c' = ((record_at d.host s).conn c').out

      out : (s c' : ℕ) → s < 4 → ((record_at d'.host s).conn c').out ≡ cond (eqb s i) (mark_after a r c' (was s c')) (was s c')
      out s c' lt = marks_after d.host d'.host (at i a) r called s c' lt

      go : (s c' : ℕ) → s < 4 → 1 ≤ c' → c' ≤ 2 → (p q : Bool) → eqb s i ≡ p → eqb c' c ≡ q → turn_matches s c' (cond (p && q) x (turn_at d.held.turns s c')) (cond p (cond q m (was s c')) (was s c')) ≡ true
      go s c' lt lo' hi' true true e f = (λ j. turn_matches (eqb-true s i e j) (eqb-true c' c f j) x m) ∙ fits
      go s c' lt lo' hi' true false e f = tied_at d k s c' lt lo' hi'
      go s c' lt lo' hi' false q e f = tied_at d k s c' lt lo' hi'

      each : (s c' : ℕ) → s < 4 → 1 ≤ c' → c' ≤ 2 → turn_matches s c' (turn_at d'.held.turns s c') ((record_at d'.host s).conn c').out ≡ true
      each s c' lt lo' hi' =
          (λ j. turn_matches s c' (turn_at (hand j) s c') (out s c' lt j))
          ∙ (λ j. turn_matches s c' (set_turn d.held.turns i c x s c' inside lo hi lo' hi' j) (cond (eqb s i) (marks c' (was s c') j) (was s c')))
          ∙ go s c' lt lo' hi' (eqb s i) (eqb c' c) refl refl

  -- a call that is refused, whatever is tested before
  refused_stand : (t : Bool) (e : Refusal) (r : Result (ServedCall M.Share) Refusal) (st : SlotState M.Share) → t ≡ true → state_after st (refuse_if t e r) ≡ st
  refused_stand t e r st h = ap (λ z. state_after st (refuse_if z e r)) h

  passed_stand : (t : Bool) (e : Refusal) (r : Result (ServedCall M.Share) Refusal) (st : SlotState M.Share) → state_after st r ≡ st → state_after st (refuse_if t e r) ≡ st
  passed_stand true e r st h = refl
  passed_stand false e r st h = h

  -- a feed or an expiry with no turn changes nothing
  module _ (made : M.Made) (i c : ℕ) (st : SlotState M.Share) where
    feed_idle : (lpdu : List ℕ) → (valid_connection c ≡ false) ⊎ ((st.slot.conn c).out ≡ false) → state_after st (call_outcome M made i (feed c lpdu) st) ≡ st
    feed_idle lpdu why =
        ⊎_elim (λ (v : valid_connection c ≡ false). refused_stand (not (valid_connection c)) _ _ st (ap not v))
        (λ (o : (st.slot.conn c).out ≡ false). passed_stand (not (valid_connection c)) _ _ st (passed_stand (not st.slot.present) _ _ st (refused_stand (not (st.slot.conn c).out) _ _ st (ap not o)))) why

    expire_idle : (valid_connection c ≡ false) ⊎ ((st.slot.conn c).out ≡ false) → state_after st (call_outcome M made i (expire c) st) ≡ st
    expire_idle why =
        ⊎_elim (λ (v : valid_connection c ≡ false). refused_stand (not (valid_connection c)) _ _ st (ap not v))
        (λ (o : (st.slot.conn c).out ≡ false). passed_stand (not (valid_connection c)) _ _ st (ap (λ z. cond z (expire_turn M made i c st) st) o)) why

  -- why a turn is not to be had
  abbrev pub Lacks : Host S → ℕ → ℕ → Type 0
  Lacks h i c = (ltb 3 i ≡ true) ⊎ ((valid_connection c ≡ false) ⊎ (((record_at h i).conn c).out ≡ false))

  idle_played : (h : Host S) (i c : ℕ) (a : SlotCall) (e : Refusal) (out : List ℕ) → Err e ≡ refuse_call_without_turn i a (record_at h i) (answer M (M.made h.resource) (at i a) (host_state M h)) → Lacks h i c
      → ((valid_connection c ≡ false) ⊎ (((record_at h i).conn c).out ≡ false) → state_after (host_state M h i) (call_outcome M (M.made h.resource) i a (host_state M h i)) ≡ host_state M h i) → PlayerRefinesCall M (at i a) (Err e) out out h h
  idle_played h i c a e out refused why idle = record {
    answer = ap player_answer refused;
    bytes = ap (λ z. buffer_after z out) refused;
    after = after;
    made = refl;
    reached_by = λ calls k. stands_step M made law calls (at i a) (host_state M h) (host_state M h) k after;
  }
    where
      made : M.Made
      made = M.made h.resource

      here : (s : ℕ) (t : Bool) → eqb s i ≡ t → state_after (host_state M h i) (call_outcome M made i a (host_state M h i)) ≡ host_state M h i → host_state M h s ≡ cond (t && leb i 3) (state_after (host_state M h i) (call_outcome M made i a (host_state M h i))) (host_state M h s)
      here s true p q = cond_both (leb i 3) _ _ (λ z. host_state M h s ≡ z) (λ _. ap (host_state M h) (eqb-true s i p) ∙ sym q) (λ _. refl)
      here s false p q = refl

      off : (s : ℕ) (t : Bool) → ltb 3 i ≡ true → host_state M h s ≡ cond (t && leb i 3) (state_after (host_state M h i) (call_outcome M made i a (host_state M h i))) (host_state M h s)
      off s true p = sym (ap (λ z. cond z (state_after (host_state M h i) (call_outcome M made i a (host_state M h i))) (host_state M h s)) (lt-leb i 3 (ltb-true 3 i p)))
      off s false p = refl

      after : (s : ℕ) → s < 4 → host_state M h s ≡ step M made (at i a) (host_state M h) s
      after s lt = ⊎_elim (λ (p : ltb 3 i ≡ true). off s (eqb s i) p) (λ (w : (valid_connection c ≡ false) ⊎ (((record_at h i).conn c).out ≡ false)). here s (eqb s i) refl (idle w)) why

  pub feed_lacks : (h : Host S) (i c : ℕ) (lpdu : List ℕ) (e : Refusal) (out : List ℕ) → ((r : Result CallAnswer Refusal) → Err e ≡ refuse_without_turn i c (record_at h i) r) → Lacks h i c → PlayerRefinesCall M (at i (feed c lpdu)) (Err e) out out h h
  feed_lacks h i c lpdu e out refused why = idle_played h i c (feed c lpdu) e out (refused _) why (feed_idle (M.made h.resource) i c (host_state M h i) lpdu)

  pub expire_lacks : (h : Host S) (i c : ℕ) (e : Refusal) (out : List ℕ) → ((r : Result CallAnswer Refusal) → Err e ≡ refuse_without_turn i c (record_at h i) r) → Lacks h i c → PlayerRefinesCall M (at i (expire c)) (Err e) out out h h
  expire_lacks h i c e out refused why = idle_played h i c (expire c) e out (refused _) why (expire_idle (M.made h.resource) i c (host_state M h i))

  -- a turn that is not to be had
  pub record NoTurn (d : PlayerState S) (i c : ℕ) (e : Refusal) (ts : List (Option Turn)) : Type 0 where
    pub same : ts ≡ d.held.turns
    pub told : (r : Result CallAnswer Refusal) → Err e ≡ refuse_without_turn i c (record_at d.host i) r
    pub why : Lacks d.host i c

  pub no_turn : (d : PlayerState S) (i c : ℕ) (e : Refusal) (ts : List (Option Turn)) → TurnsMatch d → take_turn i c d.held.turns ≡ (Err e, ts) → NoTurn d i c e ts
  no_turn d i c e ts k q = go (ltb 3 i) (valid_connection c) (turn_at d.held.turns i c) refl refl refl q
    where
      old : List (Option Turn)
      old = d.held.turns

      go : (a v : Bool) (t : Option Turn) → ltb 3 i ≡ a → valid_connection c ≡ v → turn_at old i c ≡ t
          → ◌≡◌ {A = Result Turn Refusal × List (Option Turn)} (cond a (Err no.Slot, old) (cond (not v) (Err no.Connection, old) (turn_or_refusal t, set old (turn_index i c) None))) (Err e, ts) → NoTurn d i c e ts
      go true v t p w f q = record {
        same = sym (ap (λ z. z.1) q);
        told = λ r. sym (ap (λ z. as_answer z.0) q) ∙ sym (ap (λ z. refuse_if z no.Slot (refuse_if (not (valid_connection c)) no.Connection (refuse_if (not ((record_at d.host i).conn c).out) no.Turn r))) p);
        why = inl p;
      }
      go false false t p w f q = record {
        same = sym (ap (λ z. z.1) q);
        told = λ r. sym (ap (λ z. as_answer z.0) q) ∙ sym (λ j. refuse_if (p j) no.Slot (refuse_if (not (w j)) no.Connection (refuse_if (not ((record_at d.host i).conn c).out) no.Turn r)));
        why = inr (inl w);
      }
      go false true None p w f q =
          let good = valid_is c w in
          let out = tied_none i c _ (ap (λ z. turn_matches i c z ((record_at d.host i).conn c).out) (sym f) ∙ tied_at d k i c (let b = ltb-false 3 i p in omega arith) good.0 good.1) in
          record {
            same = sym (ap (λ z. z.1) q) ∙ ap (set old (turn_index i c)) (sym f) ∙ set-get_or old (turn_index i c) None;
            told = λ r. sym (ap (λ z. as_answer z.0) q) ∙ sym (λ j. refuse_if (p j) no.Slot (refuse_if (not (w j)) no.Connection (refuse_if (not (out j)) no.Turn r)));
            why = inr (inr out);
          }
      go false true (Some t) p w f q = (let z : Ok t ≡ Err e = ap (λ z. z.0) q in let n : ◌≡◌ {A = ℕ} 0 1 = cc in absurd (omega arith))

  -- a turn that is had
  pub record Turned (d : PlayerState S) (i c : ℕ) (t : Turn) (ts : List (Option Turn)) : Type 0 where
    pub small : i < 4
    pub low : 1 ≤ c
    pub high : c ≤ 2
    pub there : turn_at d.held.turns i c ≡ Some t
    pub left : ts ≡ set d.held.turns (turn_index i c) None
    pub inside : turn_index i c < length d.held.turns
    pub out : ((record_at d.host i).conn c).out ≡ true
    pub slot : t.slot.number ≡ i
    pub connection : t.connection.number ≡ c
    pub told : (r : Result CallAnswer Refusal) → r ≡ refuse_without_turn i c (record_at d.host i) r

  pub a_turn : (d : PlayerState S) (i c : ℕ) (t : Turn) (ts : List (Option Turn)) → TurnsMatch d → take_turn i c d.held.turns ≡ (Ok t, ts) → Turned d i c t ts
  a_turn d i c t ts k q = go (ltb 3 i) (valid_connection c) (turn_at d.held.turns i c) refl refl refl q
    where
      old : List (Option Turn)
      old = d.held.turns

      wrong : {Y : Type 0} (e : Refusal) → ◌≡◌ {A = Result Turn Refusal} (Err e) (Ok t) → Y
      wrong e z = (let n : ◌≡◌ {A = ℕ} 0 1 = cc in absurd (omega arith))

      go : (a v : Bool) (u : Option Turn) → ltb 3 i ≡ a → valid_connection c ≡ v → turn_at old i c ≡ u
          → ◌≡◌ {A = Result Turn Refusal × List (Option Turn)} (cond a (Err no.Slot, old) (cond (not v) (Err no.Connection, old) (turn_or_refusal u, set old (turn_index i c) None))) (Ok t, ts) → Turned d i c t ts
      go true v u p w f q = wrong no.Slot (ap (λ z. z.0) q)
      go false false u p w f q = wrong no.Connection (ap (λ z. z.0) q)
      go false true None p w f q = wrong no.Turn (ap (λ z. z.0) q)
      go false true (Some u) p w f q =
          let good = valid_is c w in
          let small : i < 4 = let b = ltb-false 3 i p in omega arith in
          let same : Ok u ≡ Ok t = ap (λ z. z.0) q in
          let is : u ≡ t = cc in
          let there = f ∙ ap Some is in
          let ties = tied_some i c t _ (ap (λ z. turn_matches i c z ((record_at d.host i).conn c).out) (sym there) ∙ tied_at d k i c small good.0 good.1) in
          record {
            small = small;
            low = good.0;
            high = good.1;
            there = there;
            left = sym (ap (λ z. z.1) q);
            inside = some_within old (turn_index i c) t there;
            out = ties.0;
            slot = ties.1.0;
            connection = ties.1.1;
            told = λ r. sym (λ j. refuse_if (p j) no.Slot (refuse_if (not (w j)) no.Connection (refuse_if (not (ties.0 j)) no.Turn r)));
          }

  -- a next that is served finds no turn out
  refused_err : {A : Type 0} (t : Bool) (e : Refusal) (r : Result A Refusal) → t ≡ true → is_ok (refuse_if t e r) ≡ false
  refused_err t e r h = ap (λ z. is_ok (refuse_if z e r)) h

  passed_err : {A : Type 0} (t : Bool) (e : Refusal) (r : Result A Refusal) → is_ok r ≡ false → is_ok (refuse_if t e r) ≡ false
  passed_err true e r h = refl
  passed_err false e r h = h

  answer_err : {A : Type 0} (r : Result (ServedCall A) Refusal) → is_ok r ≡ false → is_ok (answer_of r) ≡ false
  answer_err (Ok x) h = h
  answer_err (Err e) h = refl

  pub next_in : (h : Host S) (i c room : ℕ) (a : CallAnswer) → Ok a ≡ answer M (M.made h.resource) (at i (next c room)) (host_state M h) → ((record_at h i).conn c).out ≡ true → ⊥
  next_in h i c room a e o =
      let st = host_state M h i in
      let never = passed_err (ltb 3 i) no.Slot _ (answer_err (call_outcome M (M.made h.resource) i (next c room) st) (passed_err (not (valid_connection c)) no.Connection _ (passed_err (not st.slot.present) no.Presence _ (refused_err (st.slot.conn c).out no.Turn _ o)))) in
      not_both true refl (ap is_ok e ∙ never)

  -- where no turn is out none is held
  pub free_turn : (d : PlayerState S) (t : Turn) (i c : ℕ) → t.slot.number ≡ i → t.connection.number ≡ c → (((record_at d.host i).conn c).out ≡ true → ⊥) → TurnsMatch d → turn_at d.held.turns t.slot.number t.connection.number ≡ None
  free_turn d t i c p q in' k = (λ j. turn_at d.held.turns (p j) (q j)) ∙ go (turn_at d.held.turns i c) refl
    where
      small : i < 4
      small = let upto : i ≤ 3 = subst (λ n. n ≤ 3) p t.slot.high in omega arith

      low : 1 ≤ c
      low = subst (λ n. 1 ≤ n) q t.connection.low

      high : c ≤ 2
      high = subst (λ n. n ≤ 2) q t.connection.high

      go : (o : Option Turn) → turn_at d.held.turns i c ≡ o → o ≡ None
      go None e = refl
      go (Some old) e = absurd (in' (tied_some i c old _ (ap (λ z. turn_matches i c z ((record_at d.host i).conn c).out) (sym e) ∙ tied_at d k i c small low high)).0)

  -- a turn was taken and is put back, or not
  module _ (d : PlayerState S) (i c : ℕ) (t : Turn) (ts : List (Option Turn)) (turned : Turned d i c t ts) where
    at_place : turn_index t.slot.number t.connection.number ≡ turn_index i c
    at_place = λ j. turn_index (turned.slot j) (turned.connection j)

    pub gone_turn : (u : Turn) → u ≡ t → turn_at ts u.slot.number u.connection.number ≡ None
    gone_turn u same =
        ap (λ v. turn_at ts v.slot.number v.connection.number) same
        ∙ ap (λ p. get_or ts p None) at_place
        ∙ ap (λ l. get_or l (turn_index i c) None) turned.left
        ∙ get_or-set_same d.held.turns (turn_index i c) None None turned.inside

    pub put_back : (u : Turn) → u ≡ t → (ts' : List (Option Turn)) → ts' ≡ set ts (turn_index u.slot.number u.connection.number) (Some u) → ts' ≡ d.held.turns
    put_back u same ts' e =
        e
        ∙ ap (λ v. set ts (turn_index v.slot.number v.connection.number) (Some v)) same
        ∙ (λ j. set (turned.left j) (at_place j) (Some t))
        ∙ set-set d.held.turns (turn_index i c) None (Some t)
        ∙ ap (set d.held.turns (turn_index i c)) (sym turned.there)
        ∙ set-get_or d.held.turns (turn_index i c) None

    -- a call for the turn is the player's call
    pub as_named : (a : ℕ → SlotCall) (r : Result CallAnswer Refusal) (h' : Host S) → HostRefinesCall M (at t.slot.number (a t.connection.number)) r d.host h' → HostRefinesCall M (at i (a c)) r d.host h'
    as_named a r h' k = subst (λ n. HostRefinesCall M (at n (a c)) r d.host h') turned.slot (subst (λ n. HostRefinesCall M (at t.slot.number (a n)) r d.host h') turned.connection k)

    -- a turn that is spent
    pub spent_turn : (a : SlotCall) (r : Result CallAnswer Refusal) (h' : Host S) (hand : TurnTable) → hand.turns ≡ ts → ((k : ℕ) (o : Bool) → mark_after a r k o ≡ cond (eqb k c) false o) → HostRefinesCall M (at i a) r d.host h' → TurnsMatch d → TurnsMatch (record { host = h'; held = hand })
    spent_turn a r h' hand e marks called k = changes d (record { host = h'; held = hand }) i c a r None false turned.low turned.high turned.inside (e ∙ turned.left) marks refl called k
