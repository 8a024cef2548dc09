-- What the ledger keeps of a slot's record, and one connection of a ledger changed. Assumes nothing.
use Rattle.std.proofs.Common.{◌≡◌, ℕ, Option, ap, ◌∙◌}
use Rattle.resource.specs.NumberTables.{put}
use Rattle.resource.proofs.TableLemmas.{put_at, put_same, put_put, put_map}
use Rattle.protocol.specs.declared.state.SessionRow.{SessionRow}
use Rattle.protocol.specs.SlotRecord.{SlotRecord, ConnectionRecord, with_conn, with_row, is_active}
use Rattle.protocol.specs.Ledger.{ConnectionLedger, SlotLedger, amend, set_sessions}
use Rattle.protocol.specs.HostLaws.{ledger_session}

-- what the ledger keeps of a connection and of a slot
abbrev pub connection_ledger : ConnectionRecord → ConnectionLedger
connection_ledger x = record { active = is_active x.state; out = x.out; fragments = x.fragments; session_data = x.session_data }

abbrev pub slot_ledger : SlotRecord → SlotLedger
slot_ledger s = record { present = s.present; sessions = λ n. ledger_session (s.rows n); connections = λ c. connection_ledger (s.conn c) }

pub page_conn : (c : ℕ) (x : ConnectionRecord) (s : SlotRecord) → slot_ledger (with_conn c x s) ≡ amend c (λ _. connection_ledger x) (slot_ledger s)
page_conn c x s = λ i. record { present = s.present; sessions = λ n. ledger_session (s.rows n); connections = put_map connection_ledger c x s.conn i }

pub page_row : (n : ℕ) (r : Option SessionRow) (s : SlotRecord) → slot_ledger (with_row n r s) ≡ set_sessions (put n (ledger_session r) (slot_ledger s).sessions) (slot_ledger s)
page_row n r s = λ i. record { present = s.present; sessions = put_map ledger_session n r s.rows i; connections = λ c. connection_ledger (s.conn c) }

pub amend_amend : (c : ℕ) (g h : ConnectionLedger → ConnectionLedger) (p : SlotLedger) → amend c g (amend c h p) ≡ amend c (λ l. g (h l)) p
amend_amend c g h p = λ i. record { present = p.present; sessions = p.sessions; connections = (ap (λ l. put c (g l) (put c (h (p.connections c)) p.connections)) (put_at c (h (p.connections c)) p.connections) ∙ put_put c (g (h (p.connections c))) (h (p.connections c)) p.connections) i }

pub amend_to : (c : ℕ) (g : ConnectionLedger → ConnectionLedger) (p : SlotLedger) (l : ConnectionLedger) → g (p.connections c) ≡ l → amend c g p ≡ amend c (λ _. l) p
amend_to c g p l e = λ i. record { present = p.present; sessions = p.sessions; connections = put c (e i) p.connections }

pub amend_none : (c : ℕ) (g : ConnectionLedger → ConnectionLedger) (p : SlotLedger) → g (p.connections c) ≡ p.connections c → amend c g p ≡ p
amend_none c g p e = λ i. record { present = p.present; sessions = p.sessions; connections = put_same c (g (p.connections c)) p.connections e i }
