-- A mark follows the calls and their answers. Assumes nothing of a resource.
use Rattle.std.proofs.Common.{◌≡◌, ℕ, Bool, true, false, cond, not, ◌&&◌, eqb, ltb, leb, List, [], ◌∷◌, ◌++◌, length, is_some, Some, None, Ok, Err, Option, Result, sym, refl, ap, ◌∙◌}
use Rattle.std.proofs.lemmas.Bool.{cond_both, eqb-true, ltb-true, ltb-false, le-leb, lt-leb}
use Rattle.wire.specs.Reading.{Located}
use Rattle.wire.specs.LpduReading.{read_fragment}
use Rattle.wire.specs.LpduWriting.{lpdus_bytes}
use Rattle.wire.specs.TpduWriting.{command_bytes}
use Rattle.wire.specs.declared.tpdu.ResponseObject.{ResponseObject}
use Rattle.wire.specs.declared.tpdu.ResponseObject.TheVariants as obj
use Rattle.wire.specs.TpduReading.{read_response}
use Rattle.wire.specs.declared.spdu.SessionRequest.{SessionRequest}
use Rattle.wire.specs.declared.spdu.SessionRequest.TheVariants as ask
use Rattle.wire.specs.SpduReading.{read_request}
use Rattle.wire.specs.ApduReading.{read_apdu}
use Rattle.protocol.specs.declared.refusal.Refusal.{Refusal}
use Rattle.protocol.specs.declared.refusal.Refusal.TheVariants as no
use Rattle.resource.specs.Identifiers.{first_match, older}
use Rattle.resource.specs.NumberTables.{put, session_numbers}
use Rattle.resource.proofs.TableLemmas.{put_cases}
use Rattle.resource.specs.Meaning.{Meaning, Reaction}
use Rattle.protocol.specs.declared.state.State.{State}
use Rattle.protocol.specs.declared.state.State.TheVariants.{Idle, CreateDue, Creating, Active, DeleteDue, Deleting, ReplyDue}
use Rattle.protocol.specs.declared.state.SessionRow.{SessionRow}
use Rattle.protocol.specs.declared.state.OwedCommand.{OwedCommand}
use Rattle.protocol.specs.declared.state.OwedCommand.TheVariants.{NewConnection, NoConnection, SessionUnit}
use Rattle.protocol.specs.Limits.{fragment_limit, data_limit, least_size}
use Rattle.protocol.specs.Results.{refuse_if}
use Rattle.protocol.specs.SlotRecord.{ConnectionRecord, valid_connection, other, is_active, module_may_speak, cleared_connection, after_command, without_turn, with_owed, append_fragment, after_unit, first_free_number}
use Rattle.protocol.specs.SlotCalls.{SlotCall, plug, pull, end, next, feed, expire, SlotState, ServedCall, DueOutcome, set_connection, owe, set_row, close_session, close_sessions, leave, expire_turn, greet_with, greet_row, greet, active_due, due_command, open_if_free, open_if_ready, take_open_request, apply_reaction, take_session_object, take_request, take_session_unit, take_object, take_transport_unit, after_fragment, call_outcome}
use Rattle.protocol.specs.Runs.{clock, at, time_fits, tell, answer, answer_of, state_after}
use Rattle.protocol.specs.TurnMarks.{mark, mark_after, TurnsFollow}
use Rattle.protocol.proofs.ServedAnswers.{Each, each_refuse, each_then, each_weaker, each_fault}

-- a refused call leaves the mark
refused_mark : (a : SlotCall) (e : Refusal) (k : ℕ) (o : Bool) → o ≡ mark_after a (Err e) k o
refused_mark (next c room) e k o = refl
refused_mark (feed c lpdu) e k o = refl
refused_mark (expire c) e k o = refl
refused_mark _ e k o = refl

module _ {A : Type 0} (k : ℕ) where
  -- one connection is changed: its mark is the new one's
  changed_mark : (c : ℕ) (x : ConnectionRecord) (st : SlotState A) → mark k (set_connection c x st) ≡ cond (eqb k c) x.out (mark k st)
  changed_mark c x st = elim (eqb k c) as (λ t. (cond t x (st.slot.conn k)).out ≡ cond t x.out (st.slot.conn k).out) [ true ↦ refl | false ↦ refl ]

  same_mark : (c : ℕ) (o : Bool) (st : SlotState A) → o ≡ mark c st → cond (eqb k c) o (mark k st) ≡ mark k st
  same_mark c o st e = cond_both (eqb k c) o (mark k st) (λ b. b ≡ mark k st) (λ t. e ∙ ap (λ j. mark j st) (sym (eqb-true k c t))) (λ _. refl)

  kept_mark : (c : ℕ) (x : ConnectionRecord) (st : SlotState A) → x.out ≡ mark c st → mark k (set_connection c x st) ≡ mark k st
  kept_mark c x st e = changed_mark c x st ∙ same_mark c x.out st e

  owed_mark : (c : ℕ) (o : OwedCommand (List ℕ)) (st : SlotState A) → mark k (owe c o st) ≡ mark k st
  owed_mark c o st = kept_mark c (with_owed o (st.slot.conn c)) st refl

module _ {S : Type 0} (M : Meaning S) (made : M.Made) (at : ℕ) where
  -- sessions that end change no connection
  row_conn : (c n : ℕ) (x : Option SessionRow) (st : SlotState M.Share) → (close_session M made at c x n st).slot.conn ≡ st.slot.conn
  row_conn c n None st = refl
  row_conn c n (Some r) st = cond_both (eqb r.connection c) (set_row n None (M.closed made at r.identifier n st.share) st) st (λ y. y.slot.conn ≡ st.slot.conn) (λ _. refl) (λ _. refl)

  all_conn : (c : ℕ) (ns : List ℕ) (st : SlotState M.Share) → (close_sessions M made at c ns st).slot.conn ≡ st.slot.conn
  all_conn c [] st = refl
  all_conn c (n ∷ ns) st = all_conn c ns (close_session M made at c (st.slot.rows n) n st) ∙ row_conn c n (st.slot.rows n) st

  leave_mark : (k c : ℕ) (a : State) (o : Bool) (st : SlotState M.Share) → mark k (leave M made at c a o st) ≡ cond (eqb k c) o (mark k st)
  leave_mark k c a o st = changed_mark k c (cleared_connection a o) (close_sessions M made at c session_numbers st) ∙ ap (λ f. cond (eqb k c) o (f k).out) (all_conn c session_numbers st)

  -- what is due leaves the mark that its turn makes
  module _ (k c : ℕ) where
    abbrev Put : SlotState M.Share → DueOutcome M.Share → Type 0
    Put st d = mark k d.left ≡ cond (d.turn && eqb k c) true (mark k st)

    sent_mark : (a : State) (st : SlotState M.Share) → mark k (set_connection c (after_command a (st.slot.conn c)) st) ≡ cond (eqb k c) true (mark k st)
    sent_mark a st = changed_mark k c (after_command a (st.slot.conn c)) st

    greet_put : (f : Option ℕ) (st : SlotState M.Share) → Put st (greet M made at c f st)
    greet_put None st = sent_mark Active st
    greet_put (Some n) st = row (st.slot.rows n)
      where
        first : (r : SessionRow) (g : Option (List ℕ)) → Put st (greet_with M made at c n r g st)
        first r None = sent_mark Active st
        first r (Some apdu) = sent_mark Active st

        row : (x : Option SessionRow) → Put st (greet_row M made at c n x st)
        row None = sent_mark Active st
        row (Some r) = first r (M.greeting made r.identifier)

    active_put : (o : Option (OwedCommand (List ℕ))) (st : SlotState M.Share) → Put st (active_due M made at c o st)
    active_put None st = greet_put _ st
    active_put (Some NewConnection) st = kept_mark k (other c) _ (set_connection c (after_command Active (st.slot.conn c)) st) refl ∙ sent_mark Active st
    active_put (Some NoConnection) st = sent_mark Active st
    active_put (Some (SessionUnit x)) st = sent_mark Active st

    due_put : (a : State) (st : SlotState M.Share) → mark c st ≡ false → Each (due_command M made at c a st) (Put st)
    due_put CreateDue st e = sent_mark Creating st
    due_put Active st e = active_put (st.slot.conn c).owed st
    due_put DeleteDue st e = sent_mark Deleting st
    due_put ReplyDue st e = kept_mark k c (cleared_connection Idle false) st (sym e)
    due_put _ st e = tt

    -- what a session unit comes to keeps the mark
    abbrev Same : SlotState M.Share → SlotState M.Share → Type 0
    Same st after = mark k after ≡ mark k st

    open_at_same : (j : ℕ) (n : Option ℕ) (st : SlotState M.Share) → Same st (open_if_free M made at c j n st)
    open_at_same j None st = owed_mark k c _ st
    open_at_same j (Some n) st =
        let r : SessionRow = record { connection = c; identifier = j; greeting_due = is_some (M.greeting made j) } in
        owed_mark k c _ (set_row n (Some r) (M.opened made at j n st.share) st)

    open_same : (i : ℕ) (f : Option ℕ) (st : SlotState M.Share) → Same st (take_open_request M made at c i f st)
    open_same i None st = owed_mark k c _ st
    open_same i (Some j) st =
        cond_both (older j i) _ (open_if_ready M made at c j (M.ready made at j st.share) st) (Same st) (λ _. owed_mark k c _ st)
        (λ _. cond_both (eqb (M.ready made at j st.share) 0) (open_if_free M made at c j (first_free_number st.slot.rows) st) _ (Same st) (λ _. open_at_same j (first_free_number st.slot.rows) st) (λ _. owed_mark k c _ st))

    reacted_same : (n : ℕ) (x : Reaction) (a : M.Share) (st : SlotState M.Share) → Each (apply_reaction M made at c n x a st) (Same st)
    reacted_same n (Err e) a st = tt
    reacted_same n (Ok None) a st = refl
    reacted_same n (Ok (Some bs)) a st = owed_mark k c _ st

    object_same : (n : ℕ) (body : List ℕ) (x : Option SessionRow) (st : SlotState M.Share) → Each (take_session_object M made at c n body x st) (Same st)
    object_same n body None st = tt
    object_same n body (Some r) st =
        each_refuse (not (eqb r.connection c)) _ _ _ (λ _.
        each_fault _ (read_apdu body) _ _ (λ a _. reacted_same n _ _ st))

    asked_same : (q : SessionRequest Located) (st : SlotState M.Share) → Each (take_request M made at c q st) (Same st)
    asked_same (ask.Open i) st = open_same i (first_match (M.listed made) i) st
    asked_same (ask.Close n) st = owed_mark k c _ (close_session M made at c (st.slot.rows n) n st) ∙ ap (λ f. (f k).out) (row_conn c n (st.slot.rows n) st)
    asked_same (ask.Data n body) st = object_same n body.bytes (st.slot.rows n) st

    unit_same : (bs : List ℕ) (st : SlotState M.Share) → Each (take_session_unit M made at c bs st) (Same st)
    unit_same [] st = refl
    unit_same (b ∷ bs) st = each_fault _ (read_request (b ∷ bs)) _ _ (λ q _. asked_same q st)

    -- a whole transport unit takes the turn in
    abbrev Spent : SlotState M.Share → SlotState M.Share → Type 0
    Spent st after = mark k after ≡ cond (eqb k c) false (mark k st)

    heard_spent : (v : Bool) (bs : List ℕ) (st : SlotState M.Share) → mark k (set_connection c (after_unit v bs (st.slot.conn c)) st) ≡ cond (eqb k c) false (mark k st)
    heard_spent v bs st = changed_mark k c (after_unit v bs (st.slot.conn c)) st

    taken_spent : (a : State) (o : ResponseObject Located) (v : Bool) (st : SlotState M.Share) → Each (take_object M made at c a o v st) (Spent st)
    taken_spent Creating obj.CreateReply v st = heard_spent v _ st
    taken_spent Active obj.Nothing v st = heard_spent v _ st
    taken_spent Active obj.Delete v st = leave_mark k c ReplyDue false st
    taken_spent Active obj.RequestConnection v st = owed_mark k c _ (set_connection c (after_unit v _ (st.slot.conn c)) st) ∙ heard_spent v _ st
    taken_spent Active (obj.DataLast p) v st =
        let all = (st.slot.conn c).session_data ++ p.bytes in
        let after = set_connection c (after_unit v [] (st.slot.conn c)) st in
        each_refuse (ltb data_limit (length all)) _ _ _ (λ _.
        each_weaker (take_session_unit M made at c all after) (Same after) _ (λ y e. e ∙ heard_spent v [] st) (unit_same all after))
    taken_spent Active (obj.DataMore p) v st =
        each_refuse (ltb data_limit (length ((st.slot.conn c).session_data ++ p.bytes))) _ _ _ (λ _. heard_spent v _ st)
    taken_spent Deleting obj.DeleteReply v st = leave_mark k c Idle false st
    taken_spent _ _ v st = tt

    joined_mark : (more : Bool) (lpdu : List ℕ) (st : SlotState M.Share) → Each (after_fragment M made at c more st) (λ x. mark k x.left ≡ mark_after (feed c lpdu) (Ok x.answer) k (mark k st))
    joined_mark true lpdu st = refl
    joined_mark false lpdu st =
        each_then (take_transport_unit M made at c st) _ _
        (each_fault _ (read_response c (st.slot.conn c).fragments) _ _ (λ r _. taken_spent (st.slot.conn c).state r.object r.available st))

  -- a call that is served leaves the mark that it and its answer make
  act_mark : (a : SlotCall) (st : SlotState M.Share) (k : ℕ) → Each (call_outcome M made at a st) (λ x. mark k x.left ≡ mark_after a (Ok x.answer) k (mark k st))
  act_mark (plug size) st k =
      each_refuse (ltb size least_size) _ _ _ (λ _.
      each_refuse st.slot.present _ _ _ (λ _.
      put_cases (λ y. y.out ≡ mark k st) 1 k (cleared_connection CreateDue (mark 1 st)) (put 2 (cleared_connection Idle (mark 2 st)) st.slot.conn) (at_mark 1)
      (λ _. put_cases (λ y. y.out ≡ mark k st) 2 k (cleared_connection Idle (mark 2 st)) st.slot.conn (at_mark 2) (λ _. refl))))
    where
      at_mark : (c : ℕ) → eqb k c ≡ true → mark c st ≡ mark k st
      at_mark c t = ap (λ j. mark j st) (sym (eqb-true k c t))
  act_mark pull st k = each_refuse (not st.slot.present) _ _ _ (λ _. refl)
  act_mark (end c) st k =
      each_refuse (not (valid_connection c)) _ _ _ (λ _.
      each_refuse (not st.slot.present) _ _ _ (λ _.
      each_refuse (mark c st) _ _ _ (λ o.
      each_refuse (not (is_active (st.slot.conn c).state)) _ _ _ (λ _. leave_mark k c DeleteDue false st ∙ same_mark k c false st (sym o)))))
  act_mark (next c room) st k =
      each_refuse (not (valid_connection c)) _ _ _ (λ _.
      each_refuse (not st.slot.present) _ _ _ (λ _.
      each_refuse (mark c st) _ _ _ (λ o.
      each_then (due_command M made at c (st.slot.conn c).state st) _ _
      (each_weaker (due_command M made at c (st.slot.conn c).state st) (Put k c st) _ (λ d e. each_refuse (ltb room (length (lpdus_bytes c st.slot.size (command_bytes c d.command)))) _ _ _ (λ _. e))
      (due_put k c (st.slot.conn c).state st o)))))
  act_mark (feed c lpdu) st k =
      each_refuse (not (valid_connection c)) _ _ _ (λ _.
      each_refuse (not st.slot.present) _ _ _ (λ _.
      each_refuse (not (mark c st)) _ _ _ (λ _.
      each_refuse (not (module_may_speak (st.slot.conn c).state)) _ _ _ (λ _.
      each_fault _ (read_fragment st.slot.size c lpdu) _ _ (λ f _.
      each_refuse (ltb fragment_limit (length ((st.slot.conn c).fragments ++ f.bytes.bytes))) _ _ _ (λ _.
      let after = set_connection c (append_fragment f.bytes.bytes (st.slot.conn c)) st in
      each_weaker (after_fragment M made at c f.more after) _ _ (λ x e. e ∙ ap (mark_after (feed c lpdu) (Ok x.answer) k) (kept_mark k c _ st refl)) (joined_mark k c f.more lpdu after)))))))
  act_mark (expire c) st k = each_refuse (not (valid_connection c)) _ _ _ (λ _. go (mark c st) refl)
    where
      go : (o : Bool) → mark c st ≡ o → mark k (cond o (expire_turn M made at c st) st) ≡ cond (eqb k c) false (mark k st)
      go true e = cond_both (module_may_speak (st.slot.conn c).state) _ _ (λ y. mark k y ≡ cond (eqb k c) false (mark k st)) (λ _. leave_mark k c Idle false st) (λ _. changed_mark k c (without_turn (st.slot.conn c)) st)
      go false e = sym (same_mark k c false st (sym e))

module _ {S : Type 0} (M : Meaning S) (made : M.Made) where
  -- a call of a slot that there is
  slot_mark : (i : ℕ) (a : SlotCall) (st : SlotState M.Share) (k : ℕ) → mark k (state_after st (call_outcome M made i a st)) ≡ mark_after a (answer_of (call_outcome M made i a st)) k (mark k st)
  slot_mark i a st k = go (call_outcome M made i a st) (act_mark M made i a st k)
    where
      go : (r : Result (ServedCall M.Share) Refusal) → Each r (λ x. mark k x.left ≡ mark_after a (Ok x.answer) k (mark k st)) → mark k (state_after st r) ≡ mark_after a (answer_of r) k (mark k st)
      go (Ok x) e = e
      go (Err e) _ = refused_mark a e k (mark k st)

  pub turns_follow : TurnsFollow M made
  turns_follow (clock t) h s k = cond_both (time_fits t) (tell M made t (h s)) (h s) (λ y. mark k y ≡ mark k (h s)) (λ _. refl) (λ _. refl)
  turns_follow (at i a) h s k = go (eqb s i) refl
    where
      left : SlotState M.Share
      left = state_after (h i) (call_outcome M made i a (h i))

      here : s ≡ i → (b : Bool) → ltb 3 i ≡ b → mark k (cond (leb i 3) left (h s)) ≡ mark_after a (refuse_if b no.Slot (answer_of (call_outcome M made i a (h i)))) k (mark k (h s))
      here same true e = ap (λ t. mark k (cond t left (h s))) (lt-leb i 3 (ltb-true 3 i e)) ∙ refused_mark a no.Slot k (mark k (h s))
      here same false e =
          ap (λ t. mark k (cond t left (h s))) (le-leb i 3 (ltb-false 3 i e))
          ∙ slot_mark i a (h i) k
          ∙ ap (λ j. mark_after a (answer_of (call_outcome M made i a (h i))) k (mark k (h j))) (sym same)

      go : (t : Bool) → eqb s i ≡ t → mark k (cond (t && leb i 3) left (h s)) ≡ cond t (mark_after a (answer M made (at i a) h) k (mark k (h s))) (mark k (h s))
      go true e = here (eqb-true s i e) (ltb 3 i) refl
      go false e = refl
