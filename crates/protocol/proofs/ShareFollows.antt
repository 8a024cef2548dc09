-- A resource's share of a slot goes with the slot's sessions, one change at a time.
use Rattle.std.proofs.Common.{◌≡◌, ℕ, ◌+◌, ◌≤◌, Bool, true, false, cond, not, ◌&&◌, ◌||◌, eqb, leb, List, is_some, Some, None, Option, sym, refl, ap, ◌∙◌, arith}
use Rattle.std.proofs.lemmas.Bool.{eqb-true, eq-eqb, and_parts, leb-true}
use Rattle.wire.specs.declared.apdu.Apdu.{Apdu}
use Rattle.resource.specs.NumberTables.{put, session_limit, session_numbers, tally}
use Rattle.resource.specs.Meaning.{Meaning}
use Rattle.resource.specs.Lawful.{Lawful, nameable}
use Rattle.resource.proofs.TableLemmas.{put_cases, put_map, no_some, not_both}
use Rattle.resource.proofs.TallyLemmas.{tally_more, tally_fewer, tally_none}
use Rattle.protocol.specs.declared.state.SessionRow.{SessionRow}
use Rattle.protocol.specs.SlotRecord.{ConnectionRecord, new_slot, after_greeting, with_module, without_module}
use Rattle.protocol.specs.Sound.{Sound}
use Rattle.protocol.specs.SlotCalls.{SlotState, set_connection, set_row, set_share}
use Rattle.protocol.specs.Runs.{tell}
use Rattle.protocol.specs.HostLaws.{ledger_session, has_identifier}

-- what a resource holds after one session is added or taken out, number by number
place_opened : (a : Bool) (rows : ℕ → Option SessionRow) (n k i : ℕ) (r : SessionRow) (h : Bool) → rows n ≡ None → a ≡ true → h ≡ has_identifier i (ledger_session (rows k))
    → ((a && eqb k n && eqb i r.identifier) || h) ≡ has_identifier i (ledger_session (put n (Some r) rows k))
place_opened a rows n k i r h e f g = rw f (go (eqb k n) refl)
  where
    after_none : (x : Bool) → (x || false) ≡ x
    after_none true = refl
    after_none false = refl

    go : (b : Bool) → eqb k n ≡ b → ((b && eqb i r.identifier) || h) ≡ has_identifier i (ledger_session (cond b (Some r) (rows k)))
    go true t = rw (g ∙ ap (λ y. has_identifier i (ledger_session y)) (ap rows (eqb-true k n t) ∙ e)) (after_none (eqb i r.identifier))
    go false t = g

place_closed : (a : Bool) (rows : ℕ → Option SessionRow) (n k i : ℕ) (r : SessionRow) (h : Bool) → rows n ≡ Some r → a ≡ true → h ≡ has_identifier i (ledger_session (rows k))
    → (not (a && eqb k n && eqb i r.identifier) && h) ≡ has_identifier i (ledger_session (put n None rows k))
place_closed a rows n k i r h e f g = rw f (go (eqb k n) refl)
  where
    not_and : (x : Bool) → (not x && x) ≡ false
    not_and true = refl
    not_and false = refl

    go : (b : Bool) → eqb k n ≡ b → (not (b && eqb i r.identifier) && h) ≡ has_identifier i (ledger_session (cond b None (rows k)))
    go true t = rw (g ∙ ap (λ y. has_identifier i (ledger_session y)) (ap rows (eqb-true k n t) ∙ e)) (not_and (eqb i r.identifier))
    go false t = g

-- a number that may name a session is from 1 to 16
within : (js : List ℕ) (at i n : ℕ) → nameable js at i n ≡ true → (1 ≤ n) × (n ≤ session_limit)
within js at i n e =
    let x = and_parts _ (leb n session_limit) e in
    let y = and_parts _ (leb 1 n) x.0 in
    (leb-true 1 n y.1, leb-true n session_limit x.1)

-- how many sessions are open
abbrev open_rows : (ℕ → Option SessionRow) → ℕ
open_rows rows = tally (λ n. is_some (rows n)) session_numbers

more_rows : (rows : ℕ → Option SessionRow) (n : ℕ) (r : SessionRow) → (1 ≤ n) × (n ≤ session_limit) → rows n ≡ None → open_rows (put n (Some r) rows) ≡ open_rows rows + 1
more_rows rows n r w e = ap (λ f. tally f session_numbers) (put_map is_some n (Some r) rows) ∙ tally_more (λ k. is_some (rows k)) n w.0 w.1 (ap is_some e)

fewer_rows : (rows : ℕ → Option SessionRow) (n : ℕ) (r : SessionRow) → (1 ≤ n) × (n ≤ session_limit) → rows n ≡ Some r → open_rows (put n None rows) + 1 ≡ open_rows rows
fewer_rows rows n r w e = ap (λ f. tally f session_numbers + 1) (put_map is_some n None rows) ∙ tally_fewer (λ k. is_some (rows k)) n w.0 w.1 (ap is_some e)

module _ {S : Type 0} (M : Meaning S) (made : M.Made) (at : ℕ) where
  -- the resource holds and counts exactly the sessions of the slot, and where no module is there its share is one that was put back
  pub record Shared (st : SlotState M.Share) : Type 0 where
    pub known : (n : ℕ) (r : SessionRow) → st.slot.rows n ≡ Some r → nameable (M.listed made) at r.identifier n ≡ true
    pub holds : (n i : ℕ) → M.holds made st.share n i ≡ has_identifier i (ledger_session (st.slot.rows n))
    pub counts : M.count made at st.share ≡ open_rows st.slot.rows
    pub resting : st.slot.present ≡ false → M.gone made at st.share ≡ st.share

  pub changed_shared : (st : SlotState M.Share) (c : ℕ) (x : ConnectionRecord) → Shared st → Shared (set_connection c x st)
  changed_shared st c x s = record { known = s.known; holds = s.holds; counts = s.counts; resting = s.resting }

  -- a row is put over one with the same identifier
  pub greeted_shared : (st : SlotState M.Share) (n : ℕ) (r : SessionRow) → st.slot.rows n ≡ Some r → Shared st → Shared (set_row n (Some (after_greeting r)) st.share st)
  greeted_shared st n r e s = record {
    known = λ k q. put_cases (λ y. y ≡ Some q → nameable (M.listed made) at q.identifier k ≡ true) n k (Some (after_greeting r)) st.slot.rows
        (λ t f. let same : after_greeting r ≡ q = cc in rw (← same, eqb-true k n t) (s.known n r e)) (λ _. s.known k q);
    holds = λ k i. s.holds k i ∙ same_at (λ y. has_identifier i (ledger_session y)) refl k;
    counts = s.counts ∙ ap (λ f. tally f session_numbers) (λ d k. same_at is_some refl k d);
    resting = s.resting;
  }
    where
      same_at : {A : Type 0} (f : Option SessionRow → A) → f (Some r) ≡ f (Some (after_greeting r)) → (k : ℕ) → f (st.slot.rows k) ≡ f (put n (Some (after_greeting r)) st.slot.rows k)
      same_at f g k = put_cases (λ y. f (st.slot.rows k) ≡ f y) n k (Some (after_greeting r)) st.slot.rows (λ t. ap f (ap st.slot.rows (eqb-true k n t) ∙ e) ∙ g) (λ _. refl)

  -- the next lemmas rest on what the resource shows
  module _ (law : Lawful M) where
    pub closed_shared : (st : SlotState M.Share) (n : ℕ) (r : SessionRow) → st.slot.rows n ≡ Some r → Sound st.slot → Shared st → Shared (set_row n None (M.closed made at r.identifier n st.share) st)
    closed_shared st n r e k s = record {
      known = λ j q. put_cases (λ y. y ≡ Some q → nameable (M.listed made) at q.identifier j ≡ true) n j None st.slot.rows (λ _ w. no_some q w) (λ _. s.known j q);
      holds = λ j i. (law.sessions made).closed at r.identifier n st.share j i ∙ place_closed _ st.slot.rows n j i r _ e (s.known n r e) (s.holds j i);
      counts = omega (arith, (law.counts made).closed at r.identifier n st.share held, fewer_rows st.slot.rows n r (within (M.listed made) at r.identifier n (s.known n r e)) e, s.counts);
      resting = λ p. no_some r (sym ((k.absent p).rows n) ∙ e);
    }
      where
        held : (nameable (M.listed made) at r.identifier n && M.holds made st.share n r.identifier) ≡ true
        held = ap (λ b. b && M.holds made st.share n r.identifier) (s.known n r e) ∙ s.holds n r.identifier ∙ ap (λ y. has_identifier r.identifier (ledger_session y)) e ∙ eq-eqb r.identifier r.identifier refl

    pub opened_shared : (st : SlotState M.Share) (n : ℕ) (r : SessionRow) → st.slot.rows n ≡ None → nameable (M.listed made) at r.identifier n ≡ true → st.slot.present ≡ true
        → Shared st → Shared (set_row n (Some r) (M.opened made at r.identifier n st.share) st)
    opened_shared st n r e known present s = record {
      known = λ k q. put_cases (λ y. y ≡ Some q → nameable (M.listed made) at q.identifier k ≡ true) n k (Some r) st.slot.rows
          (λ t f. let same : r ≡ q = cc in rw (← same, eqb-true k n t) known) (λ _. s.known k q);
      holds = λ k i. (law.sessions made).opened at r.identifier n st.share k i ∙ place_opened _ st.slot.rows n k i r _ e known (s.holds k i);
      counts = omega (arith, (law.counts made).opened at r.identifier n st.share not_held, more_rows st.slot.rows n r (within (M.listed made) at r.identifier n known) e, s.counts);
      resting = λ p. not_both st.slot.present present p;
    }
      where
        not_held : (nameable (M.listed made) at r.identifier n && not (M.holds made st.share n r.identifier)) ≡ true
        not_held = ap (λ b. b && not (M.holds made st.share n r.identifier)) known ∙ ap not (s.holds n r.identifier ∙ ap (λ y. has_identifier r.identifier (ledger_session y)) e)

    -- an object is passed on
    pub passed_shared : (st : SlotState M.Share) (n i : ℕ) (a : Apdu (List ℕ)) → st.slot.present ≡ true → Shared st → Shared (set_share (M.object made at i n a st.share).left st)
    passed_shared st n i a p s = record {
      known = s.known;
      holds = λ k j. (law.sessions made).object at i n a st.share k j ∙ s.holds k j;
      counts = (law.counts made).object at i n a st.share ∙ s.counts;
      resting = λ e. not_both st.slot.present p e;
    }

    pub told_shared : (st : SlotState M.Share) (t : List ℕ) → Shared st → Shared (tell M made t st)
    told_shared st t s = record {
      known = s.known;
      holds = λ k j. (law.sessions made).told t st.share k j ∙ s.holds k j;
      counts = (law.counts made).told at t st.share ∙ s.counts;
      resting = λ e. (law.gone made).told at t st.share ∙ ap (M.told made t) (s.resting e);
    }

    pub plugged_shared : (st : SlotState M.Share) (size : ℕ) → Shared st → Shared (record { slot = with_module size st.slot; share = st.share })
    plugged_shared st size s = record { known = s.known; holds = s.holds; counts = s.counts; resting = λ e. not_both true refl e }

    -- a share that was put back holds no session
    emptied : leb at 3 ≡ true → (st : SlotState M.Share) → ((n : ℕ) → st.slot.rows n ≡ None) → M.gone made at st.share ≡ st.share → Shared st
    emptied placed st none back = record {
      known = λ n r e. no_some r (sym (none n) ∙ e);
      holds = λ n i. ap (λ a. M.holds made a n i) (sym back) ∙ (law.gone made).holds at st.share n i placed ∙ ap (λ y. has_identifier i (ledger_session y)) (sym (none n));
      counts = ap (M.count made at) (sym back) ∙ (law.counts made).gone at st.share ∙ sym (ap (λ f. tally f session_numbers) (λ d n. is_some (none n d)) ∙ tally_none session_numbers);
      resting = λ _. back;
    }

    pub pulled_shared : leb at 3 ≡ true → (st : SlotState M.Share) → Shared (record { slot = without_module st.slot; share = M.gone made at st.share })
    pulled_shared placed st = emptied placed (record { slot = without_module st.slot; share = M.gone made at st.share }) (λ _. refl) ((law.gone made).gone at st.share)

    pub new_shared : leb at 3 ≡ true → Shared (record { slot = new_slot; share = M.beginning made None })
    new_shared placed = emptied placed (record { slot = new_slot; share = M.beginning made None }) (λ _. refl) ((law.gone made).beginning at None)
