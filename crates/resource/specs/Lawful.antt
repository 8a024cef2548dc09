-- What every resource shows.
use Rattle.std.specs.Prelude.{◌≡◌, ℕ, ◌+◌, Bool, true, false, not, ◌&&◌, ◌||◌, List, Some, None, Option, ◌==◌, nat_le, Ok, Err}
use Rattle.wire.specs.declared.apdu.Apdu.{Apdu}
use Rattle.resource.specs.Identifiers.{is_listed, NoTwoMatch}
use Rattle.resource.specs.ShortApdu.{IsShortApdu}
use Rattle.resource.specs.NumberTables.{session_limit}
use Rattle.resource.specs.Meaning.{Meaning, outcome}

-- whether a slot, an identifier and a number may name a session
abbrev pub nameable : List ℕ → ℕ → ℕ → ℕ → Bool
nameable js slot i n = nat_le slot 3 && is_listed js i && nat_le 1 n && nat_le n session_limit

-- the answers to whether a session may be opened: ready, unavailable, busy
abbrev pub is_readiness : ℕ → Bool
is_readiness b = b == 0 || b == 0xf1 || b == 0xf3

module _ {S : Type 0} (M : Meaning S) (m : M.Made) (slot i n : ℕ) where
  -- whether the session that these name is the one with this number and identifier
  abbrev pub names : ℕ → ℕ → Bool
  names k j = nameable (M.listed m) slot i n && k == n && j == i

  -- whether there is a session to open: it may be named and is not held
  abbrev pub can_open : M.Share → Bool
  can_open s = nameable (M.listed m) slot i n && not (M.holds m s n i)

  -- whether there is one to close or to speak in: it may be named and is held
  abbrev pub is_held : M.Share → Bool
  is_held s = nameable (M.listed m) slot i n && M.holds m s n i

-- which sessions are held
pub record Sessions {S : Type 0} (M : Meaning S) (m : M.Made) : Type 0 where
  -- no two identifiers match, and a held session has a listed one and a number from 1 to 16
  pub apart : NoTwoMatch (M.listed m)
  pub known : (s : M.Share) (n i : ℕ) → M.holds m s n i ≡ true → (is_listed (M.listed m) i && nat_le 1 n && nat_le n session_limit) ≡ true
  -- an opening adds the session that it names, and a closing takes it out; where there is nothing to do nothing is altered
  pub opened : (slot i n : ℕ) (s : M.Share) (k j : ℕ)
      → M.holds m (M.opened m slot i n s) k j ≡ (names M m slot i n k j || M.holds m s k j)
  pub opened_same : (slot i n : ℕ) (s : M.Share) → can_open M m slot i n s ≡ false → M.opened m slot i n s ≡ s
  pub closed : (slot i n : ℕ) (s : M.Share) (k j : ℕ)
      → M.holds m (M.closed m slot i n s) k j ≡ (not (names M m slot i n k j) && M.holds m s k j)
  pub closed_same : (slot i n : ℕ) (s : M.Share) → is_held M m slot i n s ≡ false → M.closed m slot i n s ≡ s
  -- an object and the time keep them
  pub object : (slot i n : ℕ) (a : Apdu (List ℕ)) (s : M.Share) (k j : ℕ)
      → M.holds m (M.object m slot i n a s).left k j ≡ M.holds m s k j
  pub told : (t : List ℕ) (s : M.Share) (n i : ℕ) → M.holds m (M.told m t s) n i ≡ M.holds m s n i

-- how many are counted for a slot
pub record Counts {S : Type 0} (M : Meaning S) (m : M.Made) : Type 0 where
  -- an opening makes one more and a closing one fewer; an object and the time keep the count
  pub opened : (slot i n : ℕ) (s : M.Share)
      → can_open M m slot i n s ≡ true → M.count m slot (M.opened m slot i n s) ≡ M.count m slot s + 1
  pub closed : (slot i n : ℕ) (s : M.Share)
      → is_held M m slot i n s ≡ true → M.count m slot (M.closed m slot i n s) + 1 ≡ M.count m slot s
  pub object : (slot i n : ℕ) (a : Apdu (List ℕ)) (s : M.Share)
      → M.count m slot (M.object m slot i n a s).left ≡ M.count m slot s
  pub told : (slot : ℕ) (t : List ℕ) (s : M.Share) → M.count m slot (M.told m t s) ≡ M.count m slot s
  -- none where the module is gone, and none above slot 3
  pub gone : (slot : ℕ) (s : M.Share) → M.count m slot (M.gone m slot s) ≡ 0
  pub beyond : (slot : ℕ) (s : M.Share) → nat_le slot 3 ≡ false → M.count m slot s ≡ 0

-- what the end of a slot's module puts back
pub record Gone {S : Type 0} (M : Meaning S) (m : M.Made) : Type 0 where
  -- it holds no session; above slot 3 nothing is put back
  pub holds : (slot : ℕ) (s : M.Share) (n i : ℕ) → nat_le slot 3 ≡ true → M.holds m (M.gone m slot s) n i ≡ false
  pub beyond : (slot : ℕ) (s : M.Share) → nat_le slot 3 ≡ false → M.gone m slot s ≡ s
  -- it is a beginning: of all that was before, it remembers the time alone
  pub beginning : (slot : ℕ) (t : Option (List ℕ)) → M.gone m slot (M.beginning m t) ≡ M.beginning m t
  pub gone : (slot : ℕ) (s : M.Share) → M.gone m slot (M.gone m slot s) ≡ M.gone m slot s
  pub opened : (slot i n : ℕ) (s : M.Share) → M.gone m slot (M.opened m slot i n s) ≡ M.gone m slot s
  pub closed : (slot i n : ℕ) (s : M.Share) → M.gone m slot (M.closed m slot i n s) ≡ M.gone m slot s
  pub object : (slot i n : ℕ) (a : Apdu (List ℕ)) (s : M.Share)
      → M.gone m slot (M.object m slot i n a s).left ≡ M.gone m slot s
  pub told : (slot : ℕ) (t : List ℕ) (s : M.Share) → M.gone m slot (M.told m t s) ≡ M.told m t (M.gone m slot s)
  pub told_beginning : (t : List ℕ) (u : Option (List ℕ)) → M.told m t (M.beginning m u) ≡ M.beginning m (Some t)

-- what is answered and sent
pub record Answers {S : Type 0} (M : Meaning S) (m : M.Made) : Type 0 where
  -- an object that is refused alters nothing, and one for a session that is not held gets no answer either
  pub refused : (slot i n e : ℕ) (a : Apdu (List ℕ)) (s : M.Share)
      → (M.object m slot i n a s).reaction ≡ Err e → (M.object m slot i n a s).left ≡ s
  pub not_held : (slot i n : ℕ) (a : Apdu (List ℕ)) (s : M.Share)
      → is_held M m slot i n s ≡ false → M.object m slot i n a s ≡ outcome (Ok None) s
  -- F1 where the slot or the identifier is none of its own, and no greeting for such an identifier
  pub ready : (slot i : ℕ) (s : M.Share) → is_readiness (M.ready m slot i s) ≡ true
  pub unready : (slot i : ℕ) (s : M.Share) → (nat_le slot 3 && is_listed (M.listed m) i) ≡ false → M.ready m slot i s ≡ 0xf1
  pub no_greeting : (i : ℕ) → is_listed (M.listed m) i ≡ false → M.greeting m i ≡ None
  -- what it sends is an application object of at most 124 bytes
  pub greeting : (i : ℕ) (bs : List ℕ) → M.greeting m i ≡ Some bs → IsShortApdu bs
  pub reply : (slot i n : ℕ) (a : Apdu (List ℕ)) (s : M.Share) (bs : List ℕ)
      → (M.object m slot i n a s).reaction ≡ Ok (Some bs) → IsShortApdu bs

pub record Lawful {S : Type 0} (M : Meaning S) : Type 0 where
  pub sessions : (m : M.Made) → Sessions M m
  pub counts : (m : M.Made) → Counts M m
  pub gone : (m : M.Made) → Gone M m
  pub answers : (m : M.Made) → Answers M m
