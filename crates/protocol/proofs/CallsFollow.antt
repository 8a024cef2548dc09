-- Each served call but feed keeps a slot sound with its share, and the slot's ledger keeps up with it.
use Rattle.std.proofs.Common.{◌≡◌, ℕ, Bool, true, false, cond, not, ltb, leb, List, [], length, Some, None, Ok, Option, sym, refl, ap, ◌∙◌}
use mathlib.Core.Path.{fun_ext}
use Rattle.std.proofs.lemmas.Bool.{cond_both, eqb-true, not-false, ltb-false}
use Rattle.wire.specs.LpduWriting.{lpdus_bytes}
use Rattle.wire.specs.TpduWriting.{command_bytes}
use Rattle.resource.specs.NumberTables.{put}
use Rattle.resource.specs.Meaning.{Meaning}
use Rattle.resource.specs.Lawful.{Lawful}
use Rattle.resource.proofs.TableLemmas.{put_cases, put_at, put_off, put_same, no_some, not_both}
use Rattle.protocol.specs.declared.state.State.{State}
use Rattle.protocol.specs.declared.state.State.TheVariants.{Idle, CreateDue, Creating, Active, DeleteDue, Deleting, ReplyDue}
use Rattle.protocol.specs.declared.state.SessionRow.{SessionRow}
use Rattle.protocol.specs.declared.state.OwedCommand.{OwedCommand}
use Rattle.protocol.specs.declared.state.OwedCommand.TheVariants.{NewConnection, NoConnection, SessionUnit}
use Rattle.protocol.specs.Limits.{least_size}
use Rattle.protocol.specs.SlotRecord.{ConnectionRecord, valid_connection, other, is_active, module_may_speak, cleared_connection, after_command, without_turn, with_module, after_greeting}
use Rattle.protocol.specs.Sound.{ConnectionSound, Sound}
use Rattle.protocol.specs.SlotCalls.{SlotCall, plug, pull, end, next, expire, SlotState, DueOutcome, set_connection, set_row, leave, expire_turn, greet_with, greet_row, greet, active_due, due_command, call_outcome}
use Rattle.protocol.specs.Ledger.{SlotLedger, amend, set_sessions, strike, wipe, cleared_ledger, set_turn_out, enter_served}
use Rattle.protocol.specs.HostLaws.{ledger_session, ledger_input}
use Rattle.protocol.proofs.LedgerOfRecord.{connection_ledger, slot_ledger, page_conn, page_row, amend_amend, amend_to, amend_none}
use Rattle.protocol.proofs.RecordStaysSound.{bare_orderly, other_apart, other_other, other_valid, Fits, fits, absent_bare, none_on, changed_sound, entered_sound, plugged_sound, pulled_sound}
use Rattle.protocol.proofs.ShareFollows.{Shared, changed_shared, greeted_shared, plugged_shared, pulled_shared}
use Rattle.protocol.proofs.SessionsEnd.{leave_sound, leave_shared, leave_gone, leave_page}
use Rattle.protocol.proofs.ServedAnswers.{Each, each_refuse, each_then, each_weaker}

quiet_inactive : (a : State) → module_may_speak a ≡ false → is_active a ≡ false
quiet_inactive Active h = h
quiet_inactive _ h = refl

module _ {S : Type 0} (M : Meaning S) (made : M.Made) (at : ℕ) where
  -- a slot stays sound, its share goes with it, its ledger is this one, and what would be put back is the same
  pub record Follows (st after : SlotState M.Share) (q : SlotLedger) : Type 0 where
    pub sound : Sound after.slot
    pub shared : Shared M made at st → Shared M made at after
    pub page : slot_ledger after.slot ≡ q
    pub gone : M.gone made at after.share ≡ M.gone made at st.share

  -- a call that is served does
  abbrev pub Kept : SlotCall → SlotState M.Share → Type 0
  Kept a st = Each (call_outcome M made at a st) (λ x. Follows st x.left (enter_served a (ledger_input M made at (Ok x.answer) st) (slot_ledger st.slot)))

  pub same_follows : (st : SlotState M.Share) → Sound st.slot → Follows st st (slot_ledger st.slot)
  same_follows st s = record { sound = s; shared = λ h. h; page = refl; gone = refl }

  pub both_follow : (st one two : SlotState M.Share) (p q : SlotLedger) → Follows st one p → Follows one two q → Follows st two q
  both_follow st one two p q f g = record { sound = g.sound; shared = λ h. g.shared (f.shared h); page = g.page; gone = g.gone ∙ f.gone }

  pub to_page : (st after : SlotState M.Share) (p q : SlotLedger) → p ≡ q → Follows st after p → Follows st after q
  to_page st after p q e f = record { sound = f.sound; shared = f.shared; page = f.page ∙ e; gone = f.gone }

  -- one connection is changed, and with it the ledger's
  pub changed_follows : (st : SlotState M.Share) (c : ℕ) (x : ConnectionRecord) (q : SlotLedger) → Sound st.slot → valid_connection c ≡ true → Fits st.slot c x → amend c (λ _. connection_ledger x) (slot_ledger st.slot) ≡ q → Follows st (set_connection c x st) q
  changed_follows st c x q s v f e = record { sound = changed_sound st.slot c x v s f; shared = changed_shared M made at st c x; page = page_conn c x st.slot ∙ e; gone = refl }

  module _ (law : Lawful M) where
    -- a connection is left, and the ledger wipes it
    pub leave_follows : (st : SlotState M.Share) (c : ℕ) (a : State) (o : Bool) (q : SlotLedger) → Sound st.slot → valid_connection c ≡ true → ((st.slot.conn c).state ≡ Idle → a ≡ Idle)
        → amend c (λ _. connection_ledger (cleared_connection a o)) (set_sessions (λ n. strike c (ledger_session (st.slot.rows n))) (slot_ledger st.slot)) ≡ q → Follows st (leave M made at c a o st) q
    leave_follows st c a o q s v h e = record {
      sound = leave_sound M made at law st c a o s v h;
      shared = leave_shared M made at law st c a o s;
      page = leave_page M made at law st c a o s ∙ e;
      gone = leave_gone M made at law st c a o s;
    }

    pub plug_kept : (st : SlotState M.Share) (size : ℕ) → Sound st.slot → Kept (plug size) st
    plug_kept st size s = each_refuse (ltb size least_size) _ _ _ (λ b. each_refuse st.slot.present _ _ _ (λ e. record {
      sound = plugged_sound st.slot size (ltb-false size least_size b) e s;
      shared = plugged_shared M made at law st size;
      page = λ i. record { present = true; sessions = λ n. ledger_session (st.slot.rows n); connections = fun_ext (lines e) i };
      gone = refl;
    }))
      where
        lines : st.slot.present ≡ false → (k : ℕ) → connection_ledger ((with_module size st.slot).conn k) ≡ connection_ledger (st.slot.conn k)
        lines e k =
            put_cases (λ y. connection_ledger y ≡ connection_ledger (st.slot.conn k)) 1 k (cleared_connection CreateDue (st.slot.conn 1).out) (put 2 (cleared_connection Idle (st.slot.conn 2).out) st.slot.conn)
            (λ t. as_bare 1 (eqb-true k 1 t))
            (λ _. put_cases (λ y. connection_ledger y ≡ connection_ledger (st.slot.conn k)) 2 k (cleared_connection Idle (st.slot.conn 2).out) st.slot.conn (λ t. as_bare 2 (eqb-true k 2 t)) (λ _. refl))
          where
            as_bare : (j : ℕ) → k ≡ j → connection_ledger (cleared_connection Idle (st.slot.conn j).out) ≡ connection_ledger (st.slot.conn k)
            as_bare j t = ap (λ m. connection_ledger (cleared_connection Idle (st.slot.conn m).out)) (sym t) ∙ sym (ap connection_ledger (absent_bare st.slot e s k))

    pub pull_kept : leb at 3 ≡ true → (st : SlotState M.Share) → Sound st.slot → Kept pull st
    pull_kept placed st s = each_refuse (not st.slot.present) _ _ _ (λ _. record {
      sound = pulled_sound st.slot s;
      shared = λ _. pulled_shared M made at law placed st;
      page = refl;
      gone = (law.gone made).gone at st.share;
    })

    pub end_kept : (st : SlotState M.Share) (c : ℕ) → Sound st.slot → Kept (end c) st
    end_kept st c s =
        each_refuse (not (valid_connection c)) _ _ _ (λ v.
        each_refuse (not st.slot.present) _ _ _ (λ p.
        each_refuse (st.slot.conn c).out _ _ _ (λ o.
        each_refuse (not (is_active (st.slot.conn c).state)) _ _ _ (λ a.
        leave_follows st c DeleteDue false _ s (not-false _ v) (λ e. not_both (is_active (st.slot.conn c).state) (not-false _ a) (ap is_active e))
        (sym (amend_to c cleared_ledger _ _ (ap (λ b. connection_ledger (cleared_connection DeleteDue b)) o)))))))

    pub expire_kept : (st : SlotState M.Share) (c : ℕ) → Sound st.slot → Kept (expire c) st
    expire_kept st c s = each_refuse (not (valid_connection c)) _ _ _ (λ v. go (not-false _ v) (st.slot.conn c).out)
      where
        unmarked_orderly : ConnectionSound (without_turn (st.slot.conn c))
        unmarked_orderly = record { quiet = λ h. ap without_turn ((s.orderly c).quiet h); empty = (s.orderly c).empty; paid = λ e. not_both false e refl; brief = (s.orderly c).brief }

        struck : SlotLedger
        struck = set_sessions (λ n. strike c (ledger_session (st.slot.rows n))) (slot_ledger st.slot)

        quiet_page : module_may_speak (st.slot.conn c).state ≡ false → amend c (λ _. connection_ledger (without_turn (st.slot.conn c))) (slot_ledger st.slot) ≡ wipe c (amend c (set_turn_out false) (slot_ledger st.slot))
        quiet_page h =
            ap (λ l. amend c (λ _. l) (slot_ledger st.slot)) (ap (λ x. connection_ledger (without_turn x)) ((s.orderly c).quiet h) ∙ ap (λ a. record { active = a; out = false; fragments = []; session_data = [] }) (quiet_inactive (st.slot.conn c).state h))
            ∙ ap (amend c (λ _. connection_ledger (cleared_connection Idle false))) (sym (none_on st.slot c (quiet_inactive (st.slot.conn c).state h) s))
            ∙ sym (amend_amend c cleared_ledger (set_turn_out false) struck)

        go : valid_connection c ≡ true → (b : Bool) → Follows st (cond b (expire_turn M made at c st) st) (cond b (wipe c (amend c (set_turn_out false) (slot_ledger st.slot))) (slot_ledger st.slot))
        go v false = same_follows st s
        go v true = cond_both (module_may_speak (st.slot.conn c).state) (leave M made at c Idle false st) (set_connection c (without_turn (st.slot.conn c)) st) (λ y. Follows st y (wipe c (amend c (set_turn_out false) (slot_ledger st.slot))))
            (λ h. leave_follows st c Idle false _ s v (λ _. refl) (sym (amend_amend c cleared_ledger (set_turn_out false) struck)))
            (λ h. changed_follows st c (without_turn (st.slot.conn c)) _ s v (fits st.slot c (without_turn (st.slot.conn c)) s v unmarked_orderly (s.waits c) (λ e. e) (λ e. e)) (quiet_page h))

  -- a command is written on a connection, and its turn is put out
  sent_follows : (st : SlotState M.Share) (c : ℕ) (a : State) → Sound st.slot → valid_connection c ≡ true → module_may_speak a ≡ true
      → ((st.slot.conn c).state ≡ Idle → a ≡ Idle) → is_active (st.slot.conn c).state ≡ is_active a
      → Follows st (set_connection c (after_command a (st.slot.conn c)) st) (amend c (set_turn_out true) (slot_ledger st.slot))
  sent_follows st c a s v h idle e =
      changed_follows st c (after_command a (st.slot.conn c)) _ s v
      (fits st.slot c (after_command a (st.slot.conn c)) s v
      (record { quiet = λ q. not_both (module_may_speak a) h q; empty = λ i. (s.orderly c).empty (e ∙ i); paid = λ _. refl; brief = λ q z. no_some q z })
      (λ o. no_some NewConnection o) idle (λ t. sym e ∙ t))
      (sym (amend_to c (set_turn_out true) (slot_ledger st.slot) _ (ap (λ b. record { active = b; out = true; fragments = (st.slot.conn c).fragments; session_data = (st.slot.conn c).session_data }) e)))

  -- an Idle connection that nothing waits for becomes Create due
  announce_follows : (st : SlotState M.Share) (c : ℕ) → Sound st.slot → valid_connection c ≡ true → (st.slot.conn c).state ≡ Idle → (st.slot.conn (other c)).owed ≡ None → st.slot.present ≡ true
      → Follows st (set_connection c (cleared_connection CreateDue (st.slot.conn c).out) st) (slot_ledger st.slot)
  announce_follows st c s v e o p =
      changed_follows st c (cleared_connection CreateDue (st.slot.conn c).out) _ s v
      (record {
        orderly = bare_orderly CreateDue (st.slot.conn c).out;
        waits = λ f. no_some NewConnection f;
        awaited = λ f. no_some NewConnection (sym o ∙ f);
        on_active = λ n r f t. not_both (is_active (st.slot.conn c).state) (rw (eqb-true r.connection c t) at (s.on_active n r f)) (ap is_active e);
        idle = λ f. not_both st.slot.present p f;
      })
      (amend_none c (λ _. connection_ledger (cleared_connection CreateDue (st.slot.conn c).out)) (slot_ledger st.slot)
      (sym (ap connection_ledger ((s.orderly c).quiet (ap module_may_speak e)) ∙ ap (λ a. connection_ledger (cleared_connection a (st.slot.conn c).out)) e)))

  -- a due greeting is written
  greeted_follows : (st : SlotState M.Share) (n : ℕ) (r : SessionRow) → st.slot.rows n ≡ Some r → st.slot.present ≡ true → Sound st.slot → Follows st (set_row n (Some (after_greeting r)) st.share st) (slot_ledger st.slot)
  greeted_follows st n r e p s = record {
    sound = entered_sound st.slot n (after_greeting r) (s.numbered n r e) (s.on_active n r e) p s;
    shared = greeted_shared M made at st n r e;
    page = page_row n (Some (after_greeting r)) st.slot ∙ (λ i. set_sessions (put_same n (ledger_session (Some r)) (slot_ledger st.slot).sessions (ap ledger_session (sym e)) i) (slot_ledger st.slot));
    gone = refl;
  }

  -- a command is due and leaves this; the ledger puts out the turn that it hands out
  abbrev Written : SlotState M.Share → ℕ → DueOutcome M.Share → Type 0
  Written st c d = Follows st d.left (cond d.turn (amend c (set_turn_out true) (slot_ledger st.slot)) (slot_ledger st.slot))

  module _ (st : SlotState M.Share) (c : ℕ) (s : Sound st.slot) (v : valid_connection c ≡ true) (p : st.slot.present ≡ true) where
    sent_active : (st.slot.conn c).state ≡ Active → Follows st (set_connection c (after_command Active (st.slot.conn c)) st) (amend c (set_turn_out true) (slot_ledger st.slot))
    sent_active e = sent_follows st c Active s v refl (λ i. cc) (ap is_active e)

    greet_written : (n : ℕ) (r : SessionRow) (g : Option (List ℕ)) → st.slot.rows n ≡ Some r → (st.slot.conn c).state ≡ Active → Written st c (greet_with M made at c n r g st)
    greet_written n r None f e = sent_active e
    greet_written n r (Some apdu) f e =
        let one = greeted_follows st n r f p s in
        both_follow st (set_row n (Some (after_greeting r)) st.share st) _ _ _ one
        (to_page (set_row n (Some (after_greeting r)) st.share st) _ _ _ (ap (amend c (set_turn_out true)) one.page)
        (sent_follows (set_row n (Some (after_greeting r)) st.share st) c Active one.sound v refl (λ i. cc) (ap is_active e)))

    row_written : (n : ℕ) (x : Option SessionRow) → st.slot.rows n ≡ x → (st.slot.conn c).state ≡ Active → Written st c (greet_row M made at c n x st)
    row_written n None f e = sent_active e
    row_written n (Some r) f e = greet_written n r (M.greeting made r.identifier) f e

    first_written : (f : Option ℕ) → (st.slot.conn c).state ≡ Active → Written st c (greet M made at c f st)
    first_written None e = sent_active e
    first_written (Some n) e = row_written n (st.slot.rows n) refl e

    announced : (st.slot.conn c).state ≡ Active → (st.slot.conn c).owed ≡ Some NewConnection → Written st c (active_due M made at c (Some NewConnection) st)
    announced e o =
        let x = after_command Active (st.slot.conn c) in
        let one = sent_active e in
        both_follow st (set_connection c x st) _ _ _ one
        (to_page (set_connection c x st) _ _ _ one.page
        (announce_follows (set_connection c x st) (other c) one.sound (other_valid c v)
        (ap (λ y. y.state) (put_off c (other c) x st.slot.conn (other_apart c v)) ∙ s.waits c o)
        (ap (λ k. (put c x st.slot.conn k).owed) (other_other c v) ∙ ap (λ y. y.owed) (put_at c x st.slot.conn))
        p))

    owed_written : (o : Option (OwedCommand (List ℕ))) → (st.slot.conn c).owed ≡ o → (st.slot.conn c).state ≡ Active → Written st c (active_due M made at c o st)
    owed_written None f e = first_written _ e
    owed_written (Some NewConnection) f e = announced e f
    owed_written (Some NoConnection) f e = sent_active e
    owed_written (Some (SessionUnit x)) f e = sent_active e

    due_written : (a : State) → (st.slot.conn c).state ≡ a → (st.slot.conn c).out ≡ false → Each (due_command M made at c a st) (Written st c)
    due_written CreateDue e o = sent_follows st c Creating s v refl (λ i. cc) (ap is_active e)
    due_written Active e o = owed_written (st.slot.conn c).owed refl e
    due_written DeleteDue e o = sent_follows st c Deleting s v refl (λ i. cc) (ap is_active e)
    due_written ReplyDue e o =
        changed_follows st c (cleared_connection Idle false) _ s v
        (fits st.slot c (cleared_connection Idle false) s v (bare_orderly Idle false) (λ f. no_some NewConnection f) (λ _. refl) (λ t. not_both (is_active (st.slot.conn c).state) t (ap is_active e)))
        (amend_none c (λ _. connection_ledger (cleared_connection Idle false)) (slot_ledger st.slot)
        (sym (ap connection_ledger ((s.orderly c).quiet (ap module_may_speak e)) ∙ (λ i. connection_ledger (cleared_connection (e i) (o i))))))
    due_written _ e o = tt

  pub next_kept : (st : SlotState M.Share) (c room : ℕ) → Sound st.slot → Kept (next c room) st
  next_kept st c room s =
      each_refuse (not (valid_connection c)) _ _ _ (λ v.
      each_refuse (not st.slot.present) _ _ _ (λ p.
      each_refuse (st.slot.conn c).out _ _ _ (λ o.
      each_then (due_command M made at c (st.slot.conn c).state st) _ _
      (each_weaker (due_command M made at c (st.slot.conn c).state st) (Written st c) _ (λ d w. each_refuse (ltb room (length (lpdus_bytes c st.slot.size (command_bytes c d.command)))) _ _ _ (λ _. w))
      (due_written st c s (not-false _ v) (not-false _ p) (st.slot.conn c).state refl o)))))
