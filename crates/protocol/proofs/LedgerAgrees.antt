-- After every list of calls each slot is sound and agrees with the ledger, and an absent slot with no turn out is as in a new host.
use Rattle.std.proofs.Common.{◌≡◌, ℕ, ◌<◌, Bool, true, false, cond, ◌&&◌, eqb, ltb, leb, List, [], ◌∷◌, is_some, Some, None, Ok, Err, Option, Result, sym, refl, ap, ◌∙◌, subst, arith}
use mathlib.Core.Path.{fun_ext}
use Rattle.std.proofs.lemmas.Bool.{eqb-true, le-leb, le-ltb, cond_both}
use Rattle.protocol.specs.declared.refusal.Refusal.{Refusal}
use Rattle.protocol.specs.declared.refusal.Refusal.TheVariants as no
use Rattle.resource.specs.NumberTables.{session_numbers, tally}
use Rattle.resource.specs.Meaning.{Meaning}
use Rattle.resource.specs.Lawful.{Lawful}
use Rattle.resource.proofs.TableLemmas.{no_some}
use Rattle.protocol.specs.declared.state.State.TheVariants.{Idle}
use Rattle.protocol.specs.declared.state.SessionRow.{SessionRow}
use Rattle.protocol.specs.Results.{refuse_if}
use Rattle.protocol.specs.SlotRecord.{valid_connection, cleared_connection, new_slot}
use Rattle.protocol.specs.Sound.{Absent, Sound}
use Rattle.protocol.specs.SlotCalls.{SlotCall, ServedCall, SlotState, call_outcome}
use Rattle.protocol.specs.Runs.{HostCall, clock, at, time_fits, HostState, new_host, answer_of, state_after, tell, step, run, last_time_told, clock_alone}
use Rattle.protocol.specs.Ledger.{LedgerSession, SlotLedger, new_ledger, enter_served, enter_call}
use Rattle.protocol.specs.HostLaws.{ledger_session, has_identifier, ledger_input, ledgers_after_call, ledgers_after, ledger, Agrees, RecordsSound, SessionsAgree, AbsentAsNew}
use Rattle.protocol.proofs.LedgerOfRecord.{slot_ledger}
use Rattle.protocol.proofs.RecordStaysSound.{absent_bare, fresh_sound}
use Rattle.protocol.proofs.ShareFollows.{Shared, told_shared, new_shared}
use Rattle.protocol.proofs.FreeNumbers.{same_some}
use Rattle.protocol.proofs.ServedAnswers.{Each}
use Rattle.protocol.proofs.CallsFollow.{Follows}
use Rattle.protocol.proofs.EveryCall.{act_kept}

-- a time that was told may be told
abbrev Tellable : Option (List ℕ) → Type 0
Tellable None = Unit {0}
Tellable (Some t) = time_fits t ≡ true

told_tellable : (t : Option (List ℕ)) (cs : List HostCall) → Tellable t → Tellable (last_time_told t cs)
told_tellable t [] h = h
told_tellable t (clock u ∷ cs) h = told_tellable (cond (time_fits u) (Some u) t) cs (cond_both (time_fits u) (Some u) t Tellable (λ e. e) (λ _. h))
told_tellable t (at i a ∷ cs) h = told_tellable t cs h

valid_cases : (c : ℕ) (P : Type 0) → (c ≡ 1 → P) → (c ≡ 2 → P) → (valid_connection c ≡ false → P) → P
valid_cases c P one two beyond = go (eqb c 1) (eqb c 2) refl refl
  where
    go : (a b : Bool) → eqb c 1 ≡ a → eqb c 2 ≡ b → P
    go true b e f = one (eqb-true c 1 e)
    go false true e f = two (eqb-true c 2 f)
    go false false e f = beyond (rw (e, f))

module _ {S : Type 0} (M : Meaning S) (made : M.Made) where
  -- a slot is sound with its share, its ledger is this one, and what would be put back is the beginning of the time last told
  record Tracks (s : ℕ) (st : SlotState M.Share) (p : SlotLedger) (t : Option (List ℕ)) : Type 0 where
    sound : Sound st.slot
    shared : Shared M made s st
    page : slot_ledger st.slot ≡ p
    gone : M.gone made s st.share ≡ M.beginning made t

  agrees : (s : ℕ) (st : SlotState M.Share) (p : SlotLedger) (t : Option (List ℕ)) → Tracks s st p t → Agrees M made s st p
  agrees s st p t k = record {
    sessions = λ n. ap (λ q. q.sessions n) k.page;
    holds = λ n i. k.shared.holds n i ∙ ap (λ q. has_identifier i (q.sessions n)) k.page;
    counts = k.shared.counts ∙ ap (λ f. tally f session_numbers) (fun_ext (λ n. same_some (st.slot.rows n))) ∙ ap (λ q. tally (λ n. is_some (q.sessions n)) session_numbers) k.page;
    present = ap (λ q. q.present) k.page;
    out = λ c. ap (λ q. (q.connections c).out) k.page;
    active = λ c. ap (λ q. (q.connections c).active) k.page;
    on_active = λ n x e. go n x (st.slot.rows n) refl (ap (λ q. q.sessions n) k.page ∙ e);
  }
    where
      go : (n : ℕ) (x : LedgerSession) (y : Option SessionRow) → st.slot.rows n ≡ y → ledger_session y ≡ Some x → (p.connections x.connection).active ≡ true
      go n x None e f = no_some x f
      go n x (Some r) e f = (let same : record { connection = r.connection; identifier = r.identifier } ≡ x = cc in ap (λ z. (p.connections z.connection).active) (sym same) ∙ ap (λ q. (q.connections r.connection).active) (sym k.page) ∙ k.sound.on_active n r e)

  module _ (law : Lawful M) where
    -- a call on the slot
    acted : (s : ℕ) (a : SlotCall) (st : SlotState M.Share) (t : Option (List ℕ)) (r : Result (ServedCall M.Share) Refusal) → Sound st.slot → Shared M made s st → M.gone made s st.share ≡ M.beginning made t
        → Each r (λ x. Follows M made s st x.left (enter_served a (ledger_input M made s (Ok x.answer) st) (slot_ledger st.slot)))
        → Tracks s (state_after st r) (enter_call a (ledger_input M made s (answer_of r) st) (slot_ledger st.slot)) t
    acted s a st t (Ok x) k h e f = record { sound = f.sound; shared = f.shared h; page = f.page; gone = f.gone ∙ e }
    acted s a st t (Err x) k h e f = record { sound = k; shared = h; page = refl; gone = e }

    here_tracks : (s : ℕ) (a : SlotCall) (st : SlotState M.Share) (p : SlotLedger) (t : Option (List ℕ)) → s < 4 → Tracks s st p t
        → Tracks s (state_after st (call_outcome M made s a st)) (enter_call a (ledger_input M made s (answer_of (call_outcome M made s a st)) st) p) t
    here_tracks s a st p t b k =
        let f = acted s a st t (call_outcome M made s a st) k.sound k.shared k.gone (act_kept M made s law a st (le-leb s 3 (omega arith)) k.sound) in
        record { sound = f.sound; shared = f.shared; page = f.page ∙ ap (enter_call a (ledger_input M made s (answer_of (call_outcome M made s a st)) st)) k.page; gone = f.gone }

    at_tracks : (s i : ℕ) (a : SlotCall) (h : HostState M made) (p : ℕ → SlotLedger) (t : Option (List ℕ)) → s < 4 → Tracks s (h s) (p s) t → Tracks s (step M made (at i a) h s) (ledgers_after_call M made (at i a) h p s) t
    at_tracks s i a h p t b k = go (eqb s i) refl
      where
        go : (e : Bool) → eqb s i ≡ e → Tracks s (cond (e && leb i 3) (state_after (h i) (call_outcome M made i a (h i))) (h s)) (cond e (enter_call a (ledger_input M made i (refuse_if (ltb 3 i) no.Slot (answer_of (call_outcome M made i a (h i)))) (h i)) (p i)) (p s)) t
        go false e = k
        go true e =
            subst (λ j. Tracks s (cond (leb j 3) (state_after (h j) (call_outcome M made j a (h j))) (h s)) (enter_call a (ledger_input M made j (refuse_if (ltb 3 j) no.Slot (answer_of (call_outcome M made j a (h j)))) (h j)) (p j)) t) (eqb-true s i e)
            (rw (le-leb s 3 (omega arith), le-ltb 3 s (omega arith)) (here_tracks s a (h s) (p s) t b k))

    clock_tracks : (s : ℕ) (u : List ℕ) (h : HostState M made) (p : SlotLedger) (t : Option (List ℕ)) → Tracks s (h s) p t → Tracks s (step M made (clock u) h s) p (cond (time_fits u) (Some u) t)
    clock_tracks s u h p t k = go (time_fits u)
      where
        go : (b : Bool) → Tracks s (cond b (tell M made u (h s)) (h s)) p (cond b (Some u) t)
        go true = record { sound = k.sound; shared = told_shared M made s law (h s) u k.shared; page = k.page; gone = (law.gone made).told s u (h s).share ∙ ap (M.told made u) k.gone ∙ (law.gone made).told_beginning u t }
        go false = k

    run_tracks : (cs : List HostCall) (h : HostState M made) (p : ℕ → SlotLedger) (t : Option (List ℕ)) (s : ℕ) → s < 4 → Tracks s (h s) (p s) t → Tracks s (run M made cs h s) (ledgers_after M made cs h p s) (last_time_told t cs)
    run_tracks [] h p t s b k = k
    run_tracks (clock u ∷ cs) h p t s b k = run_tracks cs (step M made (clock u) h) (ledgers_after_call M made (clock u) h p) (cond (time_fits u) (Some u) t) s b (clock_tracks s u h (p s) t k)
    run_tracks (at i a ∷ cs) h p t s b k = run_tracks cs (step M made (at i a) h) (ledgers_after_call M made (at i a) h p) t s b (at_tracks s i a h p t b k)

    new_tracks : (cs : List HostCall) (s : ℕ) → s < 4 → Tracks s (run M made cs (new_host M made) s) (ledger M made cs s) (last_time_told None cs)
    new_tracks cs s b = run_tracks cs (new_host M made) (λ _. new_ledger) None s b record {
      sound = fresh_sound;
      shared = new_shared M made s law (le-leb s 3 (omega arith));
      page = refl;
      gone = (law.gone made).beginning s None;
    }

    pub records_sound : RecordsSound M made
    records_sound cs s b = (new_tracks cs s b).sound

    pub sessions_agree : SessionsAgree M made
    sessions_agree cs s b = agrees s _ _ _ (new_tracks cs s b)

    -- a slot of a new host, with the beginning of this time
    abbrev begun : Option (List ℕ) → SlotState M.Share
    begun t = record { slot = new_slot; share = M.beginning made t }

    absent_begun : (s : ℕ) (st : SlotState M.Share) (p : SlotLedger) (t : Option (List ℕ)) → Tracks s st p t → p.present ≡ false → (p.connections 1).out ≡ false → (p.connections 2).out ≡ false → st ≡ begun t
    absent_begun s st p t k e o1 o2 = λ i. record { slot = record { present = gone i; size = was.size i; conn = fun_ext conns i; rows = fun_ext was.rows i }; share = (sym (k.shared.resting gone) ∙ k.gone) i }
      where
        gone : st.slot.present ≡ false
        gone = ap (λ q. q.present) k.page ∙ e

        was : Absent st.slot
        was = k.sound.absent gone

        marked : (c j : ℕ) → c ≡ j → (p.connections j).out ≡ false → st.slot.conn c ≡ cleared_connection Idle false
        marked c j same o = absent_bare st.slot gone k.sound c ∙ ap (cleared_connection Idle) (ap (λ q. (q.connections c).out) k.page ∙ ap (λ m. (p.connections m).out) same ∙ o)

        conns : (c : ℕ) → st.slot.conn c ≡ cleared_connection Idle false
        conns c = valid_cases c (st.slot.conn c ≡ cleared_connection Idle false) (λ f. marked c 1 f o1) (λ f. marked c 2 f o2) (k.sound.beyond c)

    clock_begun : (t : Option (List ℕ)) (s : ℕ) → Tellable t → run M made (clock_alone t) (new_host M made) s ≡ begun t
    clock_begun None s h = refl
    clock_begun (Some u) s h = ap (λ b. cond b (tell M made u (new_host M made s)) (new_host M made s)) h ∙ (λ i. record { slot = new_slot; share = (law.gone made).told_beginning u None i })

    pub absent_as_new : AbsentAsNew M made
    absent_as_new cs s b r =
        absent_begun s _ _ _ (new_tracks cs s b) r.0 r.1 r.2
        ∙ sym (clock_begun (last_time_told None cs) s (told_tellable None cs tt))
