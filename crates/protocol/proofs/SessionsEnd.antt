-- Sessions that end: one of a number, or all of a connection that is left.
use Rattle.std.proofs.Common.{◌≡◌, ℕ, Bool, true, false, cond, ◌&&◌, ◌||◌, eqb, List, [], ◌∷◌, Some, None, Option, sym, refl, ap, ◌∙◌}
use mathlib.Core.Path.{fun_ext}
use Rattle.std.proofs.lemmas.Bool.{cond_both, eqb-true}
use Rattle.resource.specs.NumberTables.{session_numbers}
use Rattle.resource.specs.Identifiers.{is_listed}
use Rattle.resource.specs.Meaning.{Meaning}
use Rattle.resource.specs.Lawful.{Lawful}
use Rattle.resource.proofs.TableLemmas.{no_some, not_both}
use Rattle.protocol.specs.declared.state.State.{State}
use Rattle.protocol.specs.declared.state.State.TheVariants.{Idle}
use Rattle.protocol.specs.declared.state.SessionRow.{SessionRow}
use Rattle.protocol.specs.declared.state.OwedCommand.TheVariants.{NewConnection}
use Rattle.protocol.specs.SlotRecord.{valid_connection, other, cleared_connection, is_open_on}
use Rattle.protocol.specs.Sound.{Sound}
use Rattle.protocol.specs.SlotCalls.{SlotState, set_row, close_session, close_sessions, leave}
use Rattle.protocol.specs.Ledger.{amend, set_sessions, strike, enter_close}
use Rattle.protocol.specs.HostLaws.{ledger_session}
use Rattle.protocol.proofs.LedgerOfRecord.{connection_ledger, slot_ledger, page_conn}
use Rattle.protocol.proofs.RecordStaysSound.{bare_orderly, awaited_idle, changed_sound, removed_sound}
use Rattle.protocol.proofs.ShareFollows.{Shared, changed_shared, closed_shared}

-- rows that are struck where one test holds, and then where another does
strike_twice : (c : ℕ) (a b : Bool) (x : Option SessionRow) → cond (b && is_open_on c (cond (a && is_open_on c x) None x)) None (cond (a && is_open_on c x) None x) ≡ cond ((a || b) && is_open_on c x) None x
strike_twice c true true None = refl
strike_twice c true false None = refl
strike_twice c false true None = refl
strike_twice c false false None = refl
strike_twice c a b (Some r) = go a b (eqb r.connection c) refl
  where
    go : (p q t : Bool) → eqb r.connection c ≡ t → cond (q && is_open_on c (cond (p && t) None (Some r))) None (cond (p && t) None (Some r)) ≡ cond ((p || q) && t) None (Some r)
    go true true true e = refl
    go true false true e = refl
    go false true true e = rw e
    go false false true e = refl
    go true true false e = rw e
    go true false false e = refl
    go false true false e = rw e
    go false false false e = refl

kept_row : (c : ℕ) (a : Bool) (x : Option SessionRow) → (a ≡ true → is_open_on c x ≡ false) → x ≡ cond (a && is_open_on c x) None x
kept_row c true x f = rw (f refl)
kept_row c false x f = refl

struck_row : (c : ℕ) (a : Bool) (x : Option SessionRow) → (a ≡ true → is_open_on c x ≡ true) → cond a None x ≡ cond (a && is_open_on c x) None x
struck_row c true x f = rw (f refl)
struck_row c false x f = refl

-- where the test holds of every row, no row of the connection is left
none_left : (c : ℕ) (a : Bool) (x : Option SessionRow) (r : SessionRow) → ((q : SessionRow) → x ≡ Some q → a ≡ true) → cond (a && is_open_on c x) None x ≡ Some r → eqb r.connection c ≡ false
none_left c true None r h e = no_some r e
none_left c false None r h e = no_some r e
none_left c a (Some q) r h e = go (eqb q.connection c) refl (rw (h q refl) at e)
  where
    go : (t : Bool) → eqb q.connection c ≡ t → cond t None (Some q) ≡ Some r → eqb r.connection c ≡ false
    go true f g = no_some r g
    go false f g = (let same : q ≡ r = cc in rw (← same) f)

struck_session : (c : ℕ) (a : Bool) (x : Option SessionRow) → ((q : SessionRow) → x ≡ Some q → a ≡ true) → ledger_session (cond (a && is_open_on c x) None x) ≡ strike c (ledger_session x)
struck_session c true None h = refl
struck_session c false None h = refl
struck_session c a (Some q) h = rw (h q refl) (elim (eqb q.connection c) as (λ t. ledger_session (cond t None (Some q)) ≡ cond t None (ledger_session (Some q))) [ true ↦ refl | false ↦ refl ])

module _ {S : Type 0} (M : Meaning S) (made : M.Made) (at : ℕ) (law : Lawful M) where
  -- what is left when the sessions of a connection with these numbers are closed
  pub record Shut (c : ℕ) (these : ℕ → Bool) (st after : SlotState M.Share) : Type 0 where
    pub present : after.slot.present ≡ st.slot.present
    pub conn : after.slot.conn ≡ st.slot.conn
    pub rows : (k : ℕ) → after.slot.rows k ≡ cond (these k && is_open_on c (st.slot.rows k)) None (st.slot.rows k)
    pub gone : M.gone made at after.share ≡ M.gone made at st.share
    pub sound : Sound after.slot
    pub shared : Shared M made at st → Shared M made at after

  pub row_shut : (c n : ℕ) (st : SlotState M.Share) → Sound st.slot → Shut c (λ k. eqb k n) st (close_session M made at c (st.slot.rows n) n st)
  row_shut c n st s = go (st.slot.rows n) refl
    where
      same : (x : Option SessionRow) → st.slot.rows n ≡ x → is_open_on c x ≡ false → Shut c (λ k. eqb k n) st st
      same x e f = record { present = refl; conn = refl; rows = λ k. kept_row c (eqb k n) (st.slot.rows k) (λ t. ap (is_open_on c) (ap st.slot.rows (eqb-true k n t) ∙ e) ∙ f); gone = refl; sound = s; shared = λ h. h }

      go : (x : Option SessionRow) → st.slot.rows n ≡ x → Shut c (λ k. eqb k n) st (close_session M made at c x n st)
      go None e = same None e refl
      go (Some r) e = cond_both (eqb r.connection c) (set_row n None (M.closed made at r.identifier n st.share) st) st (Shut c (λ k. eqb k n) st)
          (λ f. record {
            present = refl;
            conn = refl;
            rows = λ k. struck_row c (eqb k n) (st.slot.rows k) (λ t. ap (is_open_on c) (ap st.slot.rows (eqb-true k n t) ∙ e) ∙ f);
            gone = (law.gone made).closed at r.identifier n st.share;
            sound = removed_sound st.slot n s;
            shared = closed_shared M made at law st n r e s;
          })
          (λ f. same (Some r) e f)

  pub close_page : (c n : ℕ) (st : SlotState M.Share) → Sound st.slot → slot_ledger (close_session M made at c (st.slot.rows n) n st).slot ≡ enter_close c n (slot_ledger st.slot)
  close_page c n st s =
      let d = row_shut c n st s in
      λ i. record { present = d.present i; sessions = fun_ext (λ k. ap ledger_session (d.rows k) ∙ go k (eqb k n) refl) i; connections = λ k. connection_ledger (d.conn i k) }
    where
      go : (k : ℕ) (b : Bool) → eqb k n ≡ b → ledger_session (cond (b && is_open_on c (st.slot.rows k)) None (st.slot.rows k)) ≡ cond b (strike c (ledger_session (st.slot.rows n))) (ledger_session (st.slot.rows k))
      go k true t = struck_session c true (st.slot.rows k) (λ _ _. refl) ∙ ap (λ j. strike c (ledger_session (st.slot.rows j))) (eqb-true k n t)
      go k false t = refl

  all_shut : (c : ℕ) (ns : List ℕ) (st : SlotState M.Share) → Sound st.slot → Shut c (is_listed ns) st (close_sessions M made at c ns st)
  all_shut c [] st s = record { present = refl; conn = refl; rows = λ k. refl; gone = refl; sound = s; shared = λ h. h }
  all_shut c (n ∷ ns) st s =
      let one = row_shut c n st s in
      let rest = all_shut c ns (close_session M made at c (st.slot.rows n) n st) one.sound in
      record {
        present = rest.present ∙ one.present;
        conn = rest.conn ∙ one.conn;
        rows = λ k. rest.rows k ∙ ap (λ y. cond (is_listed ns k && is_open_on c y) None y) (one.rows k) ∙ strike_twice c (eqb k n) (is_listed ns k) (st.slot.rows k);
        gone = rest.gone ∙ one.gone;
        sound = rest.sound;
        shared = λ h. rest.shared (one.shared h);
      }

  -- a connection is left
  module _ (st : SlotState M.Share) (c : ℕ) (a : State) (o : Bool) (s : Sound st.slot) where
    abbrev closed : SlotState M.Share
    closed = close_sessions M made at c session_numbers st

    shut : Shut c (is_listed session_numbers) st closed
    shut = all_shut c session_numbers st s

    pub leave_sound : valid_connection c ≡ true → ((st.slot.conn c).state ≡ Idle → a ≡ Idle) → Sound (leave M made at c a o st).slot
    leave_sound v h =
        changed_sound closed.slot c (cleared_connection a o) v shut.sound record {
          orderly = bare_orderly a o;
          waits = λ e. no_some NewConnection e;
          awaited = λ e. h (awaited_idle st.slot c v s (ap (λ f. (f (other c)).owed) (sym shut.conn) ∙ e));
          on_active = λ n r e f. not_both (eqb r.connection c) f (none_left c (is_listed session_numbers n) (st.slot.rows n) r (s.numbered n) (sym (shut.rows n) ∙ e));
          idle = λ e. h ((s.absent (sym shut.present ∙ e)).idle c);
        }

    pub leave_shared : Shared M made at st → Shared M made at (leave M made at c a o st)
    leave_shared h = changed_shared M made at closed c (cleared_connection a o) (shut.shared h)

    pub leave_gone : M.gone made at (leave M made at c a o st).share ≡ M.gone made at st.share
    leave_gone = shut.gone

    pub leave_page : slot_ledger (leave M made at c a o st).slot ≡ amend c (λ _. connection_ledger (cleared_connection a o)) (set_sessions (λ n. strike c (ledger_session (st.slot.rows n))) (slot_ledger st.slot))
    leave_page =
        page_conn c (cleared_connection a o) closed.slot
        ∙ (λ i. amend c (λ _. connection_ledger (cleared_connection a o)) (record { present = shut.present i; sessions = fun_ext (λ n. ap ledger_session (shut.rows n) ∙ struck_session c (is_listed session_numbers n) (st.slot.rows n) (s.numbered n)) i; connections = λ k. connection_ledger (shut.conn i k) }))
