-- A served feed keeps a slot sound with its share, and the slot's ledger keeps up with it.
use Rattle.std.proofs.Common.{◌≡◌, ℕ, ◌≤◌, Bool, true, false, cond, not, eqb, ltb, leb, List, [], ◌∷◌, ◌++◌, length, is_some, Some, None, Ok, Err, Option, Result, sym, refl, ap, ◌∙◌, arith}
use Rattle.std.proofs.lemmas.Bool.{cond_both, not-false, le-ltb}
use Rattle.wire.specs.declared.fault.LinkFault.{LinkFault}
use Rattle.wire.specs.declared.fault.LinkFault.TheVariants.{Short, Long}
use Rattle.wire.specs.Reading.{Located}
use Rattle.wire.specs.declared.lpdu.Fragment.{Fragment}
use Rattle.wire.specs.LpduReading.{read_fragment}
use Rattle.wire.specs.declared.tpdu.ResponseObject.{ResponseObject}
use Rattle.wire.specs.declared.tpdu.ResponseObject.TheVariants as obj
use Rattle.wire.specs.TpduReading.{read_response}
use Rattle.wire.specs.declared.spdu.SessionRequest.{SessionRequest}
use Rattle.wire.specs.declared.spdu.SessionRequest.TheVariants as ask
use Rattle.wire.specs.declared.spdu.SessionReply.TheVariants as say
use Rattle.wire.specs.SpduReading.{read_request}
use Rattle.wire.specs.ApduReading.{read_apdu}
use Rattle.resource.specs.Identifiers.{is_listed, first_match, older}
use Rattle.resource.specs.Meaning.{Meaning, Reaction}
use Rattle.resource.specs.Lawful.{Lawful}
use Rattle.resource.proofs.TableLemmas.{put_at, put_off, not_both}
use Rattle.protocol.specs.declared.state.State.{State}
use Rattle.protocol.specs.declared.state.State.TheVariants.{Idle, Creating, Active, Deleting, ReplyDue}
use Rattle.protocol.specs.declared.state.SessionRow.{SessionRow}
use Rattle.protocol.specs.declared.state.OwedCommand.{OwedCommand}
use Rattle.protocol.specs.declared.state.OwedCommand.TheVariants.{NewConnection, NoConnection, SessionUnit}
use Rattle.resource.specs.ShortApdu.{object_limit}
use Rattle.protocol.specs.Limits.{fragment_limit, data_limit}
use Rattle.protocol.specs.SlotRecord.{valid_connection, other, is_active, is_idle, module_may_speak, cleared_connection, with_owed, append_fragment, after_unit, first_free_number}
use Rattle.protocol.specs.Sound.{OwedIsShort, Sound}
use Rattle.protocol.specs.SlotCalls.{feed, done, SlotState, set_connection, owe, set_row, set_share, hear, close_session, open_if_free, open_if_ready, take_open_request, take_close_request, apdu_of, apply_reaction, take_session_object, take_request, take_session_unit, take_object, take_transport_unit, after_fragment}
use Rattle.protocol.specs.Ledger.{SlotLedger, ConnectionLedger, LedgerInput, amend, set_sessions, strike, cleared_ledger, set_turn_out, set_active, fragments_to, set_session_data, enter_open_if_free, enter_open, enter_close, enter_request, enter_session_unit, enter_object, enter_fragments, enter_link_unit}
use Rattle.protocol.specs.Ledger as ledger
use Rattle.protocol.specs.HostLaws.{ledger_session, ledger_input}
use Rattle.protocol.proofs.LedgerOfRecord.{connection_ledger, slot_ledger, page_row, amend_amend, amend_to, amend_none}
use Rattle.protocol.proofs.RecordStaysSound.{none_on, other_apart, fits, entered_sound}
use Rattle.protocol.proofs.ShareFollows.{opened_shared, passed_shared}
use Rattle.protocol.proofs.SessionsEnd.{row_shut, close_page}
use Rattle.protocol.proofs.FreeNumbers.{found_listed, free_none, free_within, free_numbered, free_same}
use Rattle.protocol.proofs.ObjectLengths.{object_brief}
use Rattle.protocol.proofs.ServedAnswers.{Each, each_refuse, each_then, each_weaker, each_fault}
use Rattle.protocol.proofs.CallsFollow.{Follows, Kept, same_follows, both_follow, to_page, changed_follows, leave_follows}

-- a link unit that is read is read the same by one who does not know the agreed size
pub same_fragment : (size c : ℕ) (bs : List ℕ) (f : Fragment Located) → read_fragment size c bs ≡ Ok f → read_fragment (length bs) c bs ≡ Ok f
same_fragment size c bs f e = go (ltb (length bs) 3) (ltb size (length bs)) (ltb (length bs) (length bs)) _ (le-ltb (length bs) (length bs) (omega arith)) e
  where
    go : (a b n : Bool) (x : Result (Fragment Located) LinkFault) → n ≡ false → cond a (Err Short) (cond b (Err Long) x) ≡ Ok f → cond a (Err Short) (cond n (Err Long) x) ≡ Ok f
    go true b n x h g = g
    go false true n x h g = (let z : ◌≡◌ {A = ℕ} 0 1 = cc in absurd (omega arith))
    go false false n x h g = rw h g

idle_is : (a : State) → is_idle a ≡ true → a ≡ Idle
idle_is Idle h = refl
idle_is _ h = not_both false h refl

abbrev announces : OwedCommand (List ℕ) → Bool
announces NewConnection = true
announces _ = false

brief_same : (o q : OwedCommand (List ℕ)) → OwedIsShort o → o ≡ q → OwedIsShort q
brief_same o q b e = rw e at b

-- the ledger takes the turn in and empties the fragments
abbrev spend : ConnectionLedger → ConnectionLedger
spend l = set_turn_out false (fragments_to [] l)

abbrev spent : ℕ → SlotLedger → SlotLedger
spent c p = amend c (set_turn_out false) (amend c (fragments_to []) p)

spent_amend : (c : ℕ) (g : ConnectionLedger → ConnectionLedger) (p : SlotLedger) → amend c g (spent c p) ≡ amend c (λ l. g (spend l)) p
spent_amend c g p = amend_amend c g (set_turn_out false) (amend c (fragments_to []) p) ∙ amend_amend c (λ l. g (set_turn_out false l)) (fragments_to []) p

spent_line : (c : ℕ) (p : SlotLedger) → (spent c p).connections c ≡ spend (p.connections c)
spent_line c p = put_at c (set_turn_out false ((amend c (fragments_to []) p).connections c)) (amend c (fragments_to []) p).connections ∙ ap (set_turn_out false) (put_at c (fragments_to [] (p.connections c)) p.connections)

-- whatever fragments were there
spent_joined : (c : ℕ) (bs : List ℕ) (p : SlotLedger) → spent c (amend c (fragments_to bs) p) ≡ spent c p
spent_joined c bs p = ap (amend c (set_turn_out false)) (amend_amend c (fragments_to []) (fragments_to bs) p)

module _ {S : Type 0} (M : Meaning S) (made : M.Made) (at : ℕ) where
  -- a present slot with an Active connection whose turn is in
  record Live (st : SlotState M.Share) (c : ℕ) : Type 0 where
    sound : Sound st.slot
    valid : valid_connection c ≡ true
    state : (st.slot.conn c).state ≡ Active
    out : (st.slot.conn c).out ≡ false
    present : st.slot.present ≡ true

  abbrev told : SlotState M.Share → LedgerInput
  told st = ledger_input M made at (Ok done) st

  owe_follows : (st : SlotState M.Share) (c : ℕ) (o : OwedCommand (List ℕ)) → Live st c → OwedIsShort o → (o ≡ NewConnection → (st.slot.conn (other c)).state ≡ Idle) → Follows M made at st (owe c o st) (slot_ledger st.slot)
  owe_follows st c o l b h =
      changed_follows M made at st c (with_owed o (st.slot.conn c)) _ l.sound l.valid
      (fits st.slot c (with_owed o (st.slot.conn c)) l.sound l.valid
      (record { quiet = λ q. not_both (module_may_speak (st.slot.conn c).state) (ap module_may_speak l.state) q; empty = (l.sound.orderly c).empty; paid = λ e. not_both (st.slot.conn c).out e l.out; brief = λ q e. brief_same o q b (cc) })
      (λ e. h (cc)) (λ e. e) (λ e. e))
      (amend_none c (λ _. connection_ledger (with_owed o (st.slot.conn c))) (slot_ledger st.slot) refl)

  -- a change that keeps the connections, and then an answer that is owed
  then_owe : (st after : SlotState M.Share) (c : ℕ) (o : OwedCommand (List ℕ)) (q : SlotLedger) → Live st c → after.slot.conn ≡ st.slot.conn → after.slot.present ≡ st.slot.present → OwedIsShort o → announces o ≡ false
      → Follows M made at st after q → Follows M made at st (owe c o after) q
  then_owe st after c o q l same here b h f =
      both_follow M made at st after _ _ _ f
      (to_page M made at after _ _ _ f.page
      (owe_follows after c o
      (record { sound = f.sound; valid = l.valid; state = ap (λ g. (g c).state) same ∙ l.state; out = ap (λ g. (g c).out) same ∙ l.out; present = here ∙ l.present })
      b (λ e. not_both (announces o) (ap announces e) h)))

  -- an answer that announces nothing is owed, and the ledger stays as it is
  answer_follows : (st : SlotState M.Share) (c : ℕ) (o : OwedCommand (List ℕ)) → Live st c → OwedIsShort o → announces o ≡ false → Follows M made at st (owe c o st) (slot_ledger st.slot)
  answer_follows st c o l b h = owe_follows st c o l b (λ e. not_both (announces o) (ap announces e) h)

  module _ (law : Lawful M) (placed : leb at 3 ≡ true) where
    open_at_follows : (st : SlotState M.Share) (c j : ℕ) (f : Option ℕ) → Live st c → is_listed (M.listed made) j ≡ true → first_free_number st.slot.rows ≡ f → Follows M made at st (open_if_free M made at c j f st) (enter_open_if_free c j f (slot_ledger st.slot))
    open_at_follows st c j None l h e = answer_follows st c _ l tt refl
    open_at_follows st c j (Some n) l h e =
        let r : SessionRow = record { connection = c; identifier = j; greeting_due = is_some (M.greeting made j) } in
        then_owe st (set_row n (Some r) (M.opened made at j n st.share) st) c _ _ l refl refl tt refl record {
          sound = entered_sound st.slot n r (free_numbered st.slot.rows n e) (ap is_active l.state) l.present l.sound;
          shared = opened_shared M made at law st n r (free_none st.slot.rows n e) (rw (placed, h) (free_within st.slot.rows n e)) l.present;
          page = page_row n (Some r) st.slot;
          gone = (law.gone made).opened at j n st.share;
        }

    open_by_follows : (st : SlotState M.Share) (c j : ℕ) (b : ℕ) → Live st c → is_listed (M.listed made) j ≡ true
        → Follows M made at st (open_if_ready M made at c j b st) (cond (eqb b 0) (enter_open_if_free c j (first_free_number (slot_ledger st.slot).sessions) (slot_ledger st.slot)) (slot_ledger st.slot))
    open_by_follows st c j b l h = go (eqb b 0)
      where
        go : (t : Bool) → Follows M made at st (cond t (open_if_free M made at c j (first_free_number st.slot.rows) st) (owe c (SessionUnit (say.OpenResponse b j 0)) st)) (cond t (enter_open_if_free c j (first_free_number (slot_ledger st.slot).sessions) (slot_ledger st.slot)) (slot_ledger st.slot))
        go true = to_page M made at st _ _ _ (ap (λ f. enter_open_if_free c j f (slot_ledger st.slot)) (free_same st.slot.rows)) (open_at_follows st c j (first_free_number st.slot.rows) l h refl)
        go false = answer_follows st c _ l tt refl

    open_follows : (st : SlotState M.Share) (c i : ℕ) (f : Option ℕ) → Live st c → first_match (M.listed made) i ≡ f → Follows M made at st (take_open_request M made at c i f st) (enter_open c i f (told st) (slot_ledger st.slot))
    open_follows st c i None l e = answer_follows st c _ l tt refl
    open_follows st c i (Some j) l e = go (older j i)
      where
        go : (t : Bool) → Follows M made at st (cond t (owe c (SessionUnit (say.OpenResponse 0xf2 j 0)) st) (open_if_ready M made at c j (M.ready made at j st.share) st))
            (cond t (slot_ledger st.slot) (cond (eqb (M.ready made at j st.share) 0) (enter_open_if_free c j (first_free_number (slot_ledger st.slot).sessions) (slot_ledger st.slot)) (slot_ledger st.slot)))
        go true = answer_follows st c _ l tt refl
        go false = open_by_follows st c j (M.ready made at j st.share) l (found_listed (M.listed made) i j e)

    close_follows : (st : SlotState M.Share) (c n : ℕ) → Live st c → Follows M made at st (take_close_request M made at c n st) (enter_close c n (slot_ledger st.slot))
    close_follows st c n l =
        let d = row_shut M made at law c n st l.sound in
        then_owe st (close_session M made at c (st.slot.rows n) n st) c _ _ l d.conn d.present tt refl record {
          sound = d.sound;
          shared = d.shared;
          page = close_page M made at law c n st l.sound;
          gone = d.gone;
        }

    reacted_follows : (st : SlotState M.Share) (c n : ℕ) (x : Reaction) (a : M.Share) → Live st c → Follows M made at st (set_share a st) (slot_ledger st.slot) → ((bs : List ℕ) → x ≡ Ok (Some bs) → length bs ≤ object_limit)
        → Each (apply_reaction M made at c n x a st) (λ y. Follows M made at st y (slot_ledger st.slot))
    reacted_follows st c n (Err e) a l f h = tt
    reacted_follows st c n (Ok None) a l f h = f
    reacted_follows st c n (Ok (Some bs)) a l f h = then_owe st (set_share a st) c _ _ l refl refl (h bs refl) refl f

    object_follows : (st : SlotState M.Share) (c n : ℕ) (body : List ℕ) (x : Option SessionRow) → Live st c → Each (take_session_object M made at c n body x st) (λ y. Follows M made at st y (slot_ledger st.slot))
    object_follows st c n body None l = tt
    object_follows st c n body (Some r) l =
        each_refuse (not (eqb r.connection c)) _ _ _ (λ _.
        each_fault _ (read_apdu body) _ _ (λ a _.
        let o = M.object made at r.identifier n (apdu_of a) st.share in
        reacted_follows st c n o.reaction o.left l
        (record { sound = l.sound; shared = passed_shared M made at law st n r.identifier (apdu_of a) l.present; page = refl; gone = (law.gone made).object at r.identifier n (apdu_of a) st.share })
        (λ bs e. object_brief bs ((law.answers made).reply at r.identifier n (apdu_of a) st.share bs e))))

    asked_follows : (st : SlotState M.Share) (c : ℕ) (q : SessionRequest Located) → Live st c → Each (take_request M made at c q st) (λ y. Follows M made at st y (enter_request c (told st) (Ok q) (slot_ledger st.slot)))
    asked_follows st c (ask.Open i) l = open_follows st c i (first_match (M.listed made) i) l refl
    asked_follows st c (ask.Close n) l = close_follows st c n l
    asked_follows st c (ask.Data n body) l = object_follows st c n body.bytes (st.slot.rows n) l

    unit_follows : (st : SlotState M.Share) (c : ℕ) (bs : List ℕ) → Live st c → Each (take_session_unit M made at c bs st) (λ y. Follows M made at st y (enter_session_unit c (told st) bs (slot_ledger st.slot)))
    unit_follows st c [] l = same_follows M made at st l.sound
    unit_follows st c (b ∷ bs) l = each_fault _ (read_request (b ∷ bs)) _ _ (λ q e.
        each_weaker (take_request M made at c q st) (λ y. Follows M made at st y (enter_request c (told st) (Ok q) (slot_ledger st.slot))) _
        (λ y w. to_page M made at st y _ _ (ap (λ z. enter_request c (told st) z (slot_ledger st.slot)) (sym e)) w)
        (asked_follows st c q l))

    -- a connection that hears a whole unit stays or becomes Active
    hear_follows : (st : SlotState M.Share) (c : ℕ) (b : Bool) (bs : List ℕ) (q : SlotLedger) → Sound st.slot → valid_connection c ≡ true → module_may_speak (st.slot.conn c).state ≡ true
        → amend c (λ _. connection_ledger (after_unit b bs (st.slot.conn c))) (slot_ledger st.slot) ≡ q → Follows M made at st (hear c b bs st) q
    hear_follows st c b bs q s v h e =
        changed_follows M made at st c (after_unit b bs (st.slot.conn c)) q s v
        (fits st.slot c (after_unit b bs (st.slot.conn c)) s v
        (record { quiet = λ z. not_both true refl z; empty = λ z. not_both true refl z; paid = λ z. not_both false z refl; brief = (s.orderly c).brief })
        (s.waits c) (λ i. not_both (module_may_speak (st.slot.conn c).state) h (ap module_may_speak i)) (λ _. refl))
        e

    module _ (st : SlotState M.Share) (c : ℕ) (s : Sound st.slot) (v : valid_connection c ≡ true) (p : st.slot.present ≡ true) where
      -- after it the connection is Active, with its turn in
      heard_live : (b : Bool) (bs : List ℕ) (q : SlotLedger) → Follows M made at st (hear c b bs st) q → Live (hear c b bs st) c
      heard_live b bs q f = record {
        sound = f.sound;
        valid = v;
        state = ap (λ x. x.state) (put_at c (after_unit b bs (st.slot.conn c)) st.slot.conn);
        out = ap (λ x. x.out) (put_at c (after_unit b bs (st.slot.conn c)) st.slot.conn);
        present = p;
      }

      status_follows : (b : Bool) → (st.slot.conn c).state ≡ Active → Follows M made at st (hear c b (st.slot.conn c).session_data st) (spent c (slot_ledger st.slot))
      status_follows b e = hear_follows st c b _ _ s v (ap module_may_speak e)
          (sym (amend_amend c (set_turn_out false) (fragments_to []) (slot_ledger st.slot) ∙ amend_to c spend (slot_ledger st.slot) _ (ap (λ a. record { active = is_active a; out = false; fragments = []; session_data = (st.slot.conn c).session_data }) e)))

      chained_spent : (bs : List ℕ) → ((spent c (slot_ledger st.slot)).connections c).session_data ++ bs ≡ (st.slot.conn c).session_data ++ bs
      chained_spent bs = ap (λ l. l.session_data ++ bs) (spent_line c (slot_ledger st.slot))

      -- data of the connection become these
      data_follows : (b : Bool) (bs : List ℕ) → (st.slot.conn c).state ≡ Active → Follows M made at st (hear c b bs st) (amend c (set_session_data bs) (spent c (slot_ledger st.slot)))
      data_follows b bs e = hear_follows st c b bs _ s v (ap module_may_speak e)
          (sym (spent_amend c (set_session_data bs) (slot_ledger st.slot) ∙ amend_to c (λ l. set_session_data bs (spend l)) (slot_ledger st.slot) _ (ap (λ a. record { active = is_active a; out = false; fragments = []; session_data = bs }) e)))

      request_follows : (b : Bool) → (st.slot.conn c).state ≡ Active → Follows M made at st (owe c (cond (is_idle (st.slot.conn (other c)).state) NewConnection NoConnection) (hear c b (st.slot.conn c).session_data st)) (spent c (slot_ledger st.slot))
      request_follows b e =
          let one = status_follows b e in
          let st' = hear c b (st.slot.conn c).session_data st in
          both_follow M made at st st' _ _ _ one
          (to_page M made at st' _ _ _ one.page
          (owe_follows st' c _ (heard_live b _ _ one) (cond_both (is_idle (st.slot.conn (other c)).state) NewConnection NoConnection OwedIsShort (λ _. tt) (λ _. tt))
          (λ z. ap (λ x. x.state) (put_off c (other c) (after_unit b (st.slot.conn c).session_data (st.slot.conn c)) st.slot.conn (other_apart c v)) ∙ idle_is _ (idle (is_idle (st.slot.conn (other c)).state) z))))
        where
          idle : (t : Bool) → ◌≡◌ {A = OwedCommand (List ℕ)} (cond t NewConnection NoConnection) NewConnection → t ≡ true
          idle true z = refl
          idle false z = cc

      last_follows : (b : Bool) (d : Located) → (st.slot.conn c).state ≡ Active → Each (take_object M made at c Active (obj.DataLast d) b st) (λ y. Follows M made at st y (enter_object c (told st) (obj.DataLast d) (spent c (slot_ledger st.slot))))
      last_follows b d e =
          let all = (st.slot.conn c).session_data ++ d.bytes in
          let st' = hear c b [] st in
          let one = data_follows b [] e in
          each_refuse (ltb data_limit (length all)) _ _ _ (λ _.
          each_weaker (take_session_unit M made at c all st') (λ y. Follows M made at st' y (enter_session_unit c (told st) all (slot_ledger st'.slot))) _
          (λ y w. both_follow M made at st st' y _ _ one (to_page M made at st' y _ _ (λ i. enter_session_unit c (told st) (sym (chained_spent d.bytes) i) (one.page i)) w))
          (unit_follows st' c all (heard_live b [] _ one)))

      more_follows : (b : Bool) (d : Located) → (st.slot.conn c).state ≡ Active → Each (take_object M made at c Active (obj.DataMore d) b st) (λ y. Follows M made at st y (enter_object c (told st) (obj.DataMore d) (spent c (slot_ledger st.slot))))
      more_follows b d e =
          let all = (st.slot.conn c).session_data ++ d.bytes in
          each_refuse (ltb data_limit (length all)) _ _ _ (λ _.
          to_page M made at st (hear c b all st) _ _ (ap (λ z. amend c (set_session_data z) (spent c (slot_ledger st.slot))) (sym (chained_spent d.bytes))) (data_follows b all e))

      deleted_page : (st.slot.conn c).state ≡ Deleting → amend c (λ _. connection_ledger (cleared_connection Idle false)) (set_sessions (λ n. strike c (ledger_session (st.slot.rows n))) (slot_ledger st.slot)) ≡ spent c (slot_ledger st.slot)
      deleted_page e =
          ap (amend c (λ _. connection_ledger (cleared_connection Idle false))) (none_on st.slot c (ap is_active e) s)
          ∙ sym (amend_amend c (set_turn_out false) (fragments_to []) (slot_ledger st.slot)
          ∙ amend_to c spend (slot_ledger st.slot) _ (λ i. record { active = is_active (e i); out = false; fragments = []; session_data = (s.orderly c).empty (ap is_active e) i }))

      taken_follows : (a : State) (o : ResponseObject Located) (b : Bool) → (st.slot.conn c).state ≡ a → Each (take_object M made at c a o b st) (λ y. Follows M made at st y (enter_object c (told st) o (spent c (slot_ledger st.slot))))
      taken_follows Creating obj.CreateReply b e = hear_follows st c b _ _ s v (ap module_may_speak e) (sym (spent_amend c set_active (slot_ledger st.slot)))
      taken_follows Active obj.Nothing b e = status_follows b e
      taken_follows Active obj.Delete b e = leave_follows M made at law st c ReplyDue false _ s v (λ i. cc)
          (sym (spent_amend c cleared_ledger (set_sessions (λ n. strike c (ledger_session (st.slot.rows n))) (slot_ledger st.slot))))
      taken_follows Active obj.RequestConnection b e = request_follows b e
      taken_follows Active (obj.DataLast d) b e = last_follows b d e
      taken_follows Active (obj.DataMore d) b e = more_follows b d e
      taken_follows Deleting obj.DeleteReply b e = leave_follows M made at law st c Idle false _ s v (λ _. refl) (deleted_page e)
      taken_follows _ _ b e = tt

      -- all fragments are there
      whole_follows : Each (take_transport_unit M made at c st) (λ y. Follows M made at st y (ledger.enter_transport_unit c (told st) (read_response c (st.slot.conn c).fragments) (spent c (slot_ledger st.slot))))
      whole_follows =
          each_fault _ (read_response c (st.slot.conn c).fragments) _ _ (λ r e.
          each_weaker (take_object M made at c (st.slot.conn c).state r.object r.available st) (λ y. Follows M made at st y (enter_object c (told st) r.object (spent c (slot_ledger st.slot)))) _
          (λ y w. to_page M made at st y _ _ (ap (λ z. ledger.enter_transport_unit c (told st) z (spent c (slot_ledger st.slot))) (sym e)) w)
          (taken_follows (st.slot.conn c).state r.object r.available refl))

    -- a fragment joins those before it
    module _ (st : SlotState M.Share) (c : ℕ) (bs : List ℕ) (s : Sound st.slot) (v : valid_connection c ≡ true) (p : st.slot.present ≡ true) (h : module_may_speak (st.slot.conn c).state ≡ true) where
      abbrev with_it : SlotState M.Share
      with_it = set_connection c (append_fragment bs (st.slot.conn c)) st

      abbrev all : List ℕ
      all = (st.slot.conn c).fragments ++ bs

      joining_follows : Follows M made at st with_it (amend c (fragments_to all) (slot_ledger st.slot))
      joining_follows =
          changed_follows M made at st c (append_fragment bs (st.slot.conn c)) _ s v
          (fits st.slot c (append_fragment bs (st.slot.conn c)) s v
          (record { quiet = λ q. not_both (module_may_speak (st.slot.conn c).state) h q; empty = (s.orderly c).empty; paid = (s.orderly c).paid; brief = (s.orderly c).brief })
          (s.waits c) (λ e. e) (λ e. e))
          refl

      joined_follows : (g : Bool) → Each (after_fragment M made at c g with_it) (λ x. Follows M made at st x.left (enter_fragments c (ledger_input M made at (Ok x.answer) st) g all (slot_ledger st.slot)))
      joined_follows true = joining_follows
      joined_follows false =
          each_then (take_transport_unit M made at c with_it) _ _
          (each_weaker (take_transport_unit M made at c with_it) (λ y. Follows M made at with_it y (ledger.enter_transport_unit c (told st) (read_response c (with_it.slot.conn c).fragments) (spent c (slot_ledger with_it.slot)))) _
          (λ y w. both_follow M made at st with_it y _ _ joining_follows (to_page M made at with_it y _ _ (λ i. ledger.enter_transport_unit c (told st) (read_response c (fragments i)) (pages i)) w))
          (whole_follows with_it c joining_follows.sound v p))
        where
          fragments : (with_it.slot.conn c).fragments ≡ all
          fragments = ap (λ x. x.fragments) (put_at c (append_fragment bs (st.slot.conn c)) st.slot.conn)

          pages : spent c (slot_ledger with_it.slot) ≡ spent c (slot_ledger st.slot)
          pages = ap (spent c) joining_follows.page ∙ spent_joined c all (slot_ledger st.slot)

    pub feed_kept : (st : SlotState M.Share) (c : ℕ) (lpdu : List ℕ) → Sound st.slot → Kept M made at (feed c lpdu) st
    feed_kept st c lpdu s =
        each_refuse (not (valid_connection c)) _ _ _ (λ v.
        each_refuse (not st.slot.present) _ _ _ (λ p.
        each_refuse (not (st.slot.conn c).out) _ _ _ (λ o.
        each_refuse (not (module_may_speak (st.slot.conn c).state)) _ _ _ (λ h.
        each_fault _ (read_fragment st.slot.size c lpdu) _ _ (λ f e.
        each_refuse (ltb fragment_limit (length ((st.slot.conn c).fragments ++ f.bytes.bytes))) _ _ _ (λ _.
        each_weaker (after_fragment M made at c f.more (set_connection c (append_fragment f.bytes.bytes (st.slot.conn c)) st)) _ _
        (λ x w. to_page M made at st x.left _ _ (ap (λ z. enter_link_unit c (ledger_input M made at (Ok x.answer) st) z (slot_ledger st.slot)) (sym (same_fragment st.slot.size c lpdu f e))) w)
        (joined_follows st c f.bytes.bytes s (not-false _ v) (not-false _ p) (not-false _ h) f.more)))))))
