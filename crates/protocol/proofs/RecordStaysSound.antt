-- One change at a time keeps a slot's record sound. Assumes nothing of a resource.
use Rattle.std.proofs.Common.{◌≡◌, ℕ, ◌≤◌, Bool, true, false, eqb, Some, None, Option, sym, refl, ap, ◌∙◌, arith}
use mathlib.Core.Path.{fun_ext}
use Rattle.std.proofs.lemmas.Bool.{cond_both, eqb-true}
use Rattle.std.proofs.lemmas.Bool.Decides.{nat_tests}
use Rattle.resource.specs.NumberTables.{put, session_numbers}
use Rattle.resource.specs.Identifiers.{is_listed}
use Rattle.resource.proofs.TableLemmas.{put_cases, put_off, no_some, not_both}
use Rattle.protocol.specs.declared.state.State.{State}
use Rattle.protocol.specs.declared.state.State.TheVariants.{Idle, CreateDue}
use Rattle.protocol.specs.declared.state.SessionRow.{SessionRow}
use Rattle.protocol.specs.declared.state.OwedCommand.TheVariants.{NewConnection}
use Rattle.protocol.specs.Limits.{least_size}
use Rattle.protocol.specs.SlotRecord.{SlotRecord, ConnectionRecord, valid_connection, other, is_active, module_may_speak, cleared_connection, new_slot, with_conn, with_row, with_module, without_module}
use Rattle.protocol.specs.Sound.{ConnectionSound, Sound}
use Rattle.protocol.specs.Ledger.{set_sessions, strike}
use Rattle.protocol.specs.HostLaws.{ledger_session}
use Rattle.protocol.proofs.LedgerOfRecord.{connection_ledger, slot_ledger}

-- the two connections are each other's other
pub other_apart : (c : ℕ) → valid_connection c ≡ true → eqb (other c) c ≡ false
other_apart c v = grind (arith, nat_tests)

other_back : (c k : ℕ) → valid_connection c ≡ true → eqb (other k) c ≡ true → k ≡ other c
other_back c k v e = grind (arith, nat_tests)

pub other_other : (c : ℕ) → valid_connection c ≡ true → other (other c) ≡ c
other_other c v = grind (arith, nat_tests)

pub other_valid : (c : ℕ) → valid_connection c ≡ true → valid_connection (other c) ≡ true
other_valid c v = grind (arith, nat_tests)

beyond_apart : (c k : ℕ) → valid_connection c ≡ true → valid_connection k ≡ false → eqb k c ≡ false
beyond_apart c k v w = grind (arith, nat_tests)

pub bare_orderly : (s : State) (o : Bool) → ConnectionSound (cleared_connection s o)
bare_orderly s o = record { quiet = λ _. refl; empty = λ _. refl; paid = λ _. refl; brief = λ q e. no_some q e }

-- a connection that the other waits for is Idle
pub awaited_idle : (s : SlotRecord) (c : ℕ) → valid_connection c ≡ true → Sound s → (s.conn (other c)).owed ≡ Some NewConnection → (s.conn c).state ≡ Idle
awaited_idle s c v k e = rw (other_other c v) at (k.waits (other c) e)

pub absent_bare : (s : SlotRecord) → s.present ≡ false → Sound s → (c : ℕ) → s.conn c ≡ cleared_connection Idle (s.conn c).out
absent_bare s e k c = (k.orderly c).quiet (ap module_may_speak ((k.absent e).idle c)) ∙ ap (λ a. cleared_connection a (s.conn c).out) ((k.absent e).idle c)

-- a connection that is not Active has no sessions to strike
pub none_on : (s : SlotRecord) (c : ℕ) → is_active (s.conn c).state ≡ false → Sound s → set_sessions (λ n. strike c (ledger_session (s.rows n))) (slot_ledger s) ≡ slot_ledger s
none_on s c a k = λ i. record { present = s.present; sessions = fun_ext (λ n. go n (s.rows n) refl) i; connections = λ j. connection_ledger (s.conn j) }
  where
    go : (n : ℕ) (x : Option SessionRow) → s.rows n ≡ x → strike c (ledger_session x) ≡ ledger_session x
    go n None e = refl
    go n (Some r) e = cond_both (eqb r.connection c) None (ledger_session (Some r)) (λ y. y ≡ ledger_session (Some r))
        (λ t. not_both (is_active (s.conn c).state) (rw (eqb-true r.connection c t) at (k.on_active n r e)) a) (λ _. refl)

-- what a connection must become for the slot to stay sound
pub record Fits (s : SlotRecord) (c : ℕ) (x : ConnectionRecord) : Type 0 where
  pub orderly : ConnectionSound x
  pub waits : x.owed ≡ Some NewConnection → (s.conn (other c)).state ≡ Idle
  pub awaited : (s.conn (other c)).owed ≡ Some NewConnection → x.state ≡ Idle
  pub on_active : (n : ℕ) (r : SessionRow) → s.rows n ≡ Some r → eqb r.connection c ≡ true → is_active x.state ≡ true
  pub idle : s.present ≡ false → x.state ≡ Idle

-- a change that keeps its sessions and what the other waits for
pub fits : (s : SlotRecord) (c : ℕ) (x : ConnectionRecord) → Sound s → valid_connection c ≡ true → ConnectionSound x
    → (x.owed ≡ Some NewConnection → (s.conn (other c)).state ≡ Idle)
    → ((s.conn c).state ≡ Idle → x.state ≡ Idle)
    → (is_active (s.conn c).state ≡ true → is_active x.state ≡ true)
    → Fits s c x
fits s c x k v tidy waits idle active = record {
  orderly = tidy;
  waits = waits;
  awaited = λ e. idle (awaited_idle s c v k e);
  on_active = λ n r e t. active (rw (eqb-true r.connection c t) at (k.on_active n r e));
  idle = λ e. idle ((k.absent e).idle c);
}

pub changed_sound : (s : SlotRecord) (c : ℕ) (x : ConnectionRecord) → valid_connection c ≡ true → Sound s → Fits s c x → Sound (with_conn c x s)
changed_sound s c x v k f = record {
  orderly = λ j. put_cases ConnectionSound c j x s.conn (λ _. f.orderly) (λ _. k.orderly j);
  waits = λ j. put_cases (λ y. y.owed ≡ Some NewConnection → (put c x s.conn (other j)).state ≡ Idle) c j x s.conn
      (λ e o. let same : j ≡ c = eqb-true j c e in rw same (ap (λ y. y.state) (put_off c (other c) x s.conn (other_apart c v)) ∙ f.waits o))
      (λ e o. put_cases (λ y. y.state ≡ Idle) c (other j) x s.conn (λ t. f.awaited (rw (other_back c j v t) at o)) (λ _. k.waits j o));
  beyond = λ j w. put_off c j x s.conn (beyond_apart c j v w) ∙ k.beyond j w;
  numbered = k.numbered;
  on_active = λ n r e. put_cases (λ y. is_active y.state ≡ true) c r.connection x s.conn (f.on_active n r e) (λ _. k.on_active n r e);
  absent = λ p. record { size = (k.absent p).size; idle = λ j. put_cases (λ y. y.state ≡ Idle) c j x s.conn (λ _. f.idle p) (λ _. (k.absent p).idle j); rows = (k.absent p).rows };
  roomy = k.roomy;
}

-- a session is entered in a present slot
pub entered_sound : (s : SlotRecord) (n : ℕ) (r : SessionRow) → is_listed session_numbers n ≡ true → is_active (s.conn r.connection).state ≡ true → s.present ≡ true → Sound s → Sound (with_row n (Some r) s)
entered_sound s n r numbered active present k = record {
  orderly = k.orderly;
  waits = k.waits;
  beyond = k.beyond;
  numbered = λ j q. put_cases (λ y. y ≡ Some q → is_listed session_numbers j ≡ true) n j (Some r) s.rows
      (λ t e. rw (eqb-true j n t) numbered) (λ _. k.numbered j q);
  on_active = λ j q. put_cases (λ y. y ≡ Some q → is_active (s.conn q.connection).state ≡ true) n j (Some r) s.rows
      (λ t e. let same : r ≡ q = cc in rw (← same) active) (λ _. k.on_active j q);
  absent = λ e. not_both s.present present e;
  roomy = k.roomy;
}

-- a session is taken out
pub removed_sound : (s : SlotRecord) (n : ℕ) → Sound s → Sound (with_row n None s)
removed_sound s n k = record {
  orderly = k.orderly;
  waits = k.waits;
  beyond = k.beyond;
  numbered = λ j q. put_cases (λ y. y ≡ Some q → is_listed session_numbers j ≡ true) n j None s.rows (λ _ w. no_some q w) (λ _. k.numbered j q);
  on_active = λ j q. put_cases (λ y. y ≡ Some q → is_active (s.conn q.connection).state ≡ true) n j None s.rows (λ _ w. no_some q w) (λ _. k.on_active j q);
  absent = λ p. record { size = (k.absent p).size; idle = (k.absent p).idle; rows = λ j. put_cases (λ y. y ≡ None) n j None s.rows (λ _. refl) (λ _. (k.absent p).rows j) };
  roomy = k.roomy;
}

pub plugged_sound : (s : SlotRecord) (size : ℕ) → least_size ≤ size → s.present ≡ false → Sound s → Sound (with_module size s)
plugged_sound s size b e k =
    let one = cleared_connection CreateDue (s.conn 1).out in
    let two = cleared_connection Idle (s.conn 2).out in
    record {
      orderly = λ j. put_cases ConnectionSound 1 j one (put 2 two s.conn) (λ _. bare_orderly CreateDue _) (λ _. put_cases ConnectionSound 2 j two s.conn (λ _. bare_orderly Idle _) (λ _. k.orderly j));
      waits = λ j f. no_some NewConnection (sym (put_cases (λ y. y.owed ≡ None) 1 j one (put 2 two s.conn) (λ _. refl) (λ _. put_cases (λ y. y.owed ≡ None) 2 j two s.conn (λ _. refl) (λ _. ap (λ x. x.owed) (absent_bare s e k j)))) ∙ f);
      beyond = λ j w. put_off 1 j one (put 2 two s.conn) (beyond_apart 1 j refl w) ∙ put_off 2 j two s.conn (beyond_apart 2 j refl w) ∙ k.beyond j w;
      numbered = λ n r f. no_some r (sym ((k.absent e).rows n) ∙ f);
      on_active = λ n r f. no_some r (sym ((k.absent e).rows n) ∙ f);
      absent = λ f. not_both true refl f;
      roomy = λ _. b;
    }

pub pulled_sound : (s : SlotRecord) → Sound s → Sound (without_module s)
pulled_sound s k = record {
  orderly = λ c. bare_orderly Idle (s.conn c).out;
  waits = λ c e. refl;
  beyond = λ c w. ap (λ x. cleared_connection Idle x.out) (k.beyond c w);
  numbered = λ n r e. no_some r e;
  on_active = λ n r e. no_some r e;
  absent = λ e. record { size = refl; idle = λ c. refl; rows = λ n. refl };
  roomy = λ e. not_both false e refl;
}

pub fresh_sound : Sound new_slot
fresh_sound = record {
  orderly = λ c. bare_orderly Idle false;
  waits = λ c e. refl;
  beyond = λ c w. refl;
  numbered = λ n r e. no_some r e;
  on_active = λ n r e. no_some r e;
  absent = λ e. record { size = refl; idle = λ c. refl; rows = λ n. refl };
  roomy = λ e. not_both false e refl;
}
