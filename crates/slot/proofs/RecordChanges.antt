-- A connection or a row read and changed, as the definitions have it.
use Rattle.std.proofs.Common.{◌≡◌, ℕ, zero, suc, ◌+◌, ◌-◌, ◌<◌, ◌≤◌, Bool, true, false, cond, List, [], ◌∷◌, length, get_or, set, Some, None, Option, sym, refl, ap, ◌∙◌, arith}
use Rattle.std.specs.List.{AllWithin, HoldsAt}
use Rattle.std.specs.Option.{MatchOption}
use Rattle.std.specs.Option.{option_map}
use Rattle.resource.specs.NumberTables.{numbers_from, session_numbers, first}
use Rattle.resource.proofs.TableLemmas.{put_same}
use Rattle.protocol.specs.declared.state.State.TheVariants.{Idle}
use Rattle.protocol.specs.declared.state.SessionRow.{SessionRow}
use Rattle.protocol.specs.SlotRecord.{SlotRecord, ConnectionRecord, cleared_connection, with_conn, with_row}
use Rattle.slot.specs.declared.connection.Connection.{Connection}
use Rattle.slot.specs.declared.record.Record.{Record}
use Rattle.slot.specs.AddIfFits.{add_if_fits}
use Rattle.slot.specs.ConnectionViews.{conn_of}
use Rattle.slot.specs.ConnectionLending.{replace_connection}
use Rattle.slot.specs.RecordViews.{table, slot_of, alter}
use Rattle.slot.proofs.NumberedTables.{table_set, table_at}

-- a connection's number is 1 or 2
one_or_two : (P : ℕ → Type 0) → P 1 → P 2 → (c : ℕ) → 1 ≤ c → c ≤ 2 → P c
one_or_two P one two zero low high = absurd (let z : ⊥ = omega arith in z)
one_or_two P one two (suc zero) low high = one
one_or_two P one two (suc (suc zero)) low high = two
one_or_two P one two (suc (suc (suc c))) low high = absurd (let z : ⊥ = omega arith in z)

pub line_write : (c : ℕ) (b : Record) (x : Connection) → 1 ≤ c → c ≤ 2 → slot_of (replace_connection c b x) ≡ with_conn c (conn_of x) (slot_of b)
unfolding slot_of
line_write c b x low high =
    let slot : (ℕ → ConnectionRecord) → SlotRecord = λ g. record (slot_of b) { conn = g } in
    let lines : List ConnectionRecord = conn_of b.one ∷ conn_of b.two ∷ [] in
    one_or_two (λ k. slot_of (replace_connection k b x) ≡ with_conn k (conn_of x) (slot_of b))
    (ap slot (table_set (cleared_connection Idle false) (conn_of x) lines 1 (omega arith) (omega arith)))
    (ap slot (table_set (cleared_connection Idle false) (conn_of x) lines 2 (omega arith) (omega arith)))
    c low high

-- what fits into one connection, in the record
pub line_adds : (c : ℕ) (b : Record) (x z : Connection) (fits : ConnectionRecord → Bool) (f : ConnectionRecord → ConnectionRecord) (r : Bool) → 1 ≤ c → c ≤ 2 → conn_of z ≡ (slot_of b).conn c
    → add_if_fits (fits (conn_of z)) f (conn_of z) ≡ (r, conn_of x) → add_if_fits (fits ((slot_of b).conn c)) (alter c f) (slot_of b) ≡ (r, slot_of (replace_connection c b x))
line_adds c b x z fits f r low high same k =
    go (fits here) (ap (λ w. add_if_fits (fits w) f w) (sym same) ∙ k) ∙ ap (λ s. (r, s)) (sym (line_write c b x low high))
  where
    here : ConnectionRecord
    here = (slot_of b).conn c

    go : (t : Bool) → add_if_fits t f here ≡ (r, conn_of x) → add_if_fits t (alter c f) (slot_of b) ≡ (r, with_conn c (conn_of x) (slot_of b))
    go true e = ap (λ p. (p.0, with_conn c p.1 (slot_of b))) e
    go false e = ap (λ g. (false, record (slot_of b) { conn = g })) (sym (put_same c here (slot_of b).conn refl)) ∙ ap (λ p. (p.0, with_conn c p.1 (slot_of b))) e

pub row_write : (n : ℕ) (b : Record) (r : Option SessionRow) → 1 ≤ n → n - 1 < length b.rows
    → slot_of (record b { rows = set b.rows (n - 1) r }) ≡ with_row n r (slot_of b)
unfolding slot_of
row_write n b r low within =
    let slot : (ℕ → Option SessionRow) → SlotRecord = λ g. record (slot_of b) { rows = g } in
    ap slot (table_set None r b.rows n low within)

-- the sixteen numbers are 1 and what follows it
pub numbered : {Y : Type 0} (F : List ℕ → Y) → F (numbers_from 1 (17 - 1)) ≡ F session_numbers
unfolding session_numbers
numbered F = refl

pub from_more : {Y : Type 0} (F : List ℕ → Y) (n : ℕ) → n < 17 → F (numbers_from n (17 - n)) ≡ F (n ∷ numbers_from (n + 1) (17 - (n + 1)))
from_more F n lt = let e : 17 - n ≡ suc (17 - (n + 1)) = omega arith in ap (λ k. F (numbers_from n k)) e

pub from_none : {Y : Type 0} (F : List ℕ → Y) (n : ℕ) → 17 ≤ n → F (numbers_from n (17 - n)) ≡ F []
from_none F n le = let e : 17 - n ≡ 0 = omega arith in ap (λ k. F (numbers_from n k)) e

-- the first of the numbers from n on that passes: this one does, or it does not
pub first_here : (p : ℕ → Bool) (n : ℕ) → n < 17 → p n ≡ true → Some n ≡ first p (numbers_from n (17 - n))
first_here p n lt t = sym (from_more (first p) n lt ∙ ap (λ b. cond b (Some n) (first p (numbers_from (n + 1) (17 - (n + 1))))) t)

pub first_later : (p : ℕ → Bool) (n : ℕ) → n < 17 → p n ≡ false → first p (numbers_from (n + 1) (17 - (n + 1))) ≡ first p (numbers_from n (17 - n))
first_later p n lt t = sym (from_more (first p) n lt ∙ ap (λ b. cond b (Some n) (first p (numbers_from (n + 1) (17 - (n + 1))))) t)

pub first_none : (p : ℕ → Bool) (n : ℕ) → 17 ≤ n → None ≡ first p (numbers_from n (17 - n))
first_none p n le = sym (from_none (first p) n le)

-- the numbers from n up to m are passed over
skipped : (p : ℕ → Bool) (n k m : ℕ) → m ≡ n + k → m ≤ 17 → ((j : ℕ) → n ≤ j → j < m → p j ≡ false) → first p (numbers_from m (17 - m)) ≡ first p (numbers_from n (17 - n))
skipped p n zero m e top fails = ap (λ j. first p (numbers_from j (17 - j))) (let same : m ≡ n = omega arith in same)
skipped p n (suc k) m e top fails =
    skipped p (n + 1) k m (omega arith) top (λ j low high. fails j (omega arith) high)
    ∙ first_later p n (omega arith) (fails n (omega arith) (omega arith))

-- the first row that passes has the first number that does
pub first_place : (p : Option SessionRow → Bool) (b : Record) (place : Option ℕ) → length b.rows ≡ 16
    → MatchOption place (AllWithin (λ x. p x ≡ false) b.rows 0 (length b.rows)) (λ i. (i < length b.rows) × HoldsAt (λ x. p x ≡ true) b.rows i × AllWithin (λ x. p x ≡ false) b.rows 0 i)
    → option_map (λ k. k + 1) place ≡ first (λ n. p ((slot_of b).rows n)) session_numbers
unfolding slot_of
first_place p b place long found = go place found
  where
    passes : ℕ → Bool
    passes n = p (table None b.rows n)

    at : (n : ℕ) → 1 ≤ n → passes n ≡ p (get_or b.rows (n - 1) None)
    at n low = ap p (table_at None b.rows n low)

    go : (place : Option ℕ) → MatchOption place (AllWithin (λ x. p x ≡ false) b.rows 0 (length b.rows)) (λ i. (i < length b.rows) × HoldsAt (λ x. p x ≡ true) b.rows i × AllWithin (λ x. p x ≡ false) b.rows 0 i)
        → option_map (λ k. k + 1) place ≡ first passes session_numbers
    go None none =
        first_none passes 17 (omega arith)
        ∙ skipped passes 1 16 17 (omega arith) (omega arith) (λ j low high. at j low ∙ none (j - 1) None (omega arith) (omega arith))
        ∙ numbered (first passes)
    go (Some i) (within, hit, missed) =
        first_here passes (i + 1) (omega arith) (at (i + 1) (omega arith) ∙ (let e : i + 1 - 1 ≡ i = omega arith in ap (λ k. p (get_or b.rows k None)) e) ∙ hit None)
        ∙ skipped passes 1 i (i + 1) (omega arith) (omega arith) (λ j low high. at j low ∙ missed (j - 1) None (omega arith) (omega arith))
        ∙ numbered (first passes)
