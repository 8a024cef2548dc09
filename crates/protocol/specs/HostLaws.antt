-- What holds of a host after every list of calls.
use Rattle.std.specs.Prelude.{◌≡◌, ℕ, ◌<◌, ◌≤◌, Bool, true, false, if◌then◌else◌, List, [], ◌∷◌, ◌++◌, length, is_some, is_ok, Some, None, Ok, Err, Option, Result, ◌==◌, ◌≢◌}
use Rattle.std.specs.Option.{option_map}
use Rattle.protocol.specs.declared.refusal.Refusal.{Refusal}
use Rattle.protocol.specs.declared.refusal.Refusal.TheVariants as no
use Rattle.resource.specs.NumberTables.{session_numbers, tally}
use Rattle.resource.specs.Identifiers.{first_match}
use Rattle.resource.specs.Meaning.{Meaning}
use Rattle.protocol.specs.declared.state.SessionRow.{SessionRow}
use Rattle.protocol.specs.Limits.{command_limit}
use Rattle.protocol.specs.SlotRecord.{is_active}
use Rattle.protocol.specs.Sound.{Sound}
use Rattle.protocol.specs.SlotCalls.{SlotState, next, CallAnswer, wrote}
use Rattle.protocol.specs.Runs.{HostCall, clock, at, HostState, new_host, answer, step, run, calls_concerning, answers, last_time_told, clock_alone}
use Rattle.protocol.specs.Ledger.{LedgerSession, SlotLedger, LedgerInput, new_ledger, enter_call}

-- a row as the ledger has it
abbrev pub ledger_session : Option SessionRow → Option LedgerSession
ledger_session x = option_map (λ r. record { connection = r.connection; identifier = r.identifier }) x

-- whether a session is open with this identifier
abbrev pub has_identifier : ℕ → Option LedgerSession → Bool
has_identifier i None = false
has_identifier i (Some x) = i == x.identifier

abbrev pub hands_turn : {E : Type 0} → Result CallAnswer E → Bool
hands_turn (Ok (wrote bs t)) = t
hands_turn _ = false

-- a slot is absent, and no turn of it is out
abbrev pub AbsentWithNoTurn : SlotLedger → Type 0
AbsentWithNoTurn p = (p.present ≡ false) × ((p.connections 1).out ≡ false) × ((p.connections 2).out ≡ false)

module _ {S : Type 0} (M : Meaning S) (made : M.Made) where
  -- what the ledger is told of a call that a slot answered so
  abbrev pub ledger_input : ℕ → Result CallAnswer Refusal → SlotState M.Share → LedgerInput
  ledger_input s r st = record {
    served = is_ok r;
    handed = hands_turn r;
    finds = first_match (M.listed made);
    ready = λ j. M.ready made s j st.share;
  }

  -- the ledgers after a call and after a list of calls, on from a host's state and its ledgers
  abbrev pub ledgers_after_call : HostCall → HostState M made → (ℕ → SlotLedger) → ℕ → SlotLedger
  ledgers_after_call (clock t) h p s = p s
  ledgers_after_call (at i a) h p s = if s == i then enter_call a (ledger_input i (answer M made (at i a) h) (h i)) (p i) else p s

  abbrev pub ledgers_after : List HostCall → HostState M made → (ℕ → SlotLedger) → ℕ → SlotLedger
  ledgers_after [] h p = p
  ledgers_after (c ∷ cs) h p = ledgers_after cs (step M made c h) (ledgers_after_call c h p)

  abbrev pub ledger : List HostCall → ℕ → SlotLedger
  ledger cs = ledgers_after cs (new_host M made) (λ _. new_ledger)

  -- one slot's sessions are exactly those of the ledger, the resource holds and counts exactly these, and each is on an Active connection;
  -- presence, turns and Active agree too
  pub record Agrees (s : ℕ) (st : SlotState M.Share) (p : SlotLedger) : Type 0 where
    pub sessions : (n : ℕ) → ledger_session (st.slot.rows n) ≡ p.sessions n
    pub holds : (n i : ℕ) → M.holds made st.share n i ≡ has_identifier i (p.sessions n)
    pub counts : M.count made s st.share ≡ tally (λ n. is_some (p.sessions n)) session_numbers
    pub present : st.slot.present ≡ p.present
    pub out : (c : ℕ) → (st.slot.conn c).out ≡ (p.connections c).out
    pub active : (c : ℕ) → is_active (st.slot.conn c).state ≡ (p.connections c).active
    pub on_active : (n : ℕ) (x : LedgerSession) → p.sessions n ≡ Some x → (p.connections x.connection).active ≡ true

  -- after every list of calls every slot's record is sound
  abbrev pub RecordsSound : Type 0
  RecordsSound = (cs : List HostCall) (s : ℕ) → s < 4 → Sound (run M made cs (new_host M made) s).slot

  -- after every list of calls the host, the resource and the ledger agree on every slot
  abbrev pub SessionsAgree : Type 0
  SessionsAgree = (cs : List HostCall) (s : ℕ) → s < 4 → Agrees s (run M made cs (new_host M made) s) (ledger cs s)

  -- one list from one state and another list from another state give a slot the same answers, and leave the same of it
  abbrev pub SameForSlot : ℕ → List HostCall → HostState M made → List HostCall → HostState M made → Type 0
  SameForSlot s cs h ds k = (answers M made s cs h ≡ answers M made s ds k) × (run M made cs h s ≡ run M made ds k s)

  -- two lists with the same clock calls and the same calls of a slot come to the same for it
  abbrev pub SlotsApart : Type 0
  SlotsApart = (cs ds : List HostCall) (s : ℕ) → s < 4 → calls_concerning s cs ≡ calls_concerning s ds → SameForSlot s cs (new_host M made) ds (new_host M made)

  -- an absent slot with no turn out is as in a new host that was told the last time alone
  abbrev pub AbsentAsNew : Type 0
  AbsentAsNew = (cs : List HostCall) (s : ℕ) → s < 4 → AbsentWithNoTurn (ledger cs s)
      → run M made cs (new_host M made) s ≡ run M made (clock_alone (last_time_told None cs)) (new_host M made) s

  -- a spare host takes over a slot: after the calls to each the slot is absent with no turn out, and each was told the same time last;
  -- from there on, the same clock calls and the same calls of the slot come to the same for it
  abbrev pub SpareTakesOver : Type 0
  SpareTakesOver = (cs ds es fs : List HostCall) (s : ℕ) → s < 4
      → AbsentWithNoTurn (ledger cs s) → AbsentWithNoTurn (ledger ds s) → last_time_told None cs ≡ last_time_told None ds → calls_concerning s es ≡ calls_concerning s fs
      → SameForSlot s es (run M made cs (new_host M made)) fs (run M made ds (new_host M made))

  -- so many bytes are room for every command, and none that is written is longer
  pub record RoomSuffices : Type 0 where
    pub suffices : (cs : List HostCall) (s c room : ℕ) → command_limit ≤ room
        → answer M made (at s (next c room)) (run M made cs (new_host M made)) ≢ Err no.Room
    pub longest : (cs : List HostCall) (s c room : ℕ) (bs : List ℕ) (turn : Bool)
        → answer M made (at s (next c room)) (run M made cs (new_host M made)) ≡ Ok (wrote bs turn) → length bs ≤ command_limit

  -- the state that a new host comes to by these calls, with all that follows from it
  pub record ReachedBy (cs : List HostCall) (h : HostState M made) : Type 0 where
    pub reached : (s : ℕ) → s < 4 → h s ≡ run M made cs (new_host M made) s
    pub agrees : (s : ℕ) → s < 4 → Agrees s (h s) (ledger cs s)
    pub apart : (s : ℕ) → s < 4 → (ds : List HostCall) → calls_concerning s cs ≡ calls_concerning s ds
        → (answers M made s cs (new_host M made) ≡ answers M made s ds (new_host M made)) × (h s ≡ run M made ds (new_host M made) s)
    pub absent : (s : ℕ) → s < 4 → AbsentWithNoTurn (ledger cs s)
        → h s ≡ run M made (clock_alone (last_time_told None cs)) (new_host M made) s
    pub spare : (s : ℕ) → s < 4 → AbsentWithNoTurn (ledger cs s) → (ds es fs : List HostCall)
        → AbsentWithNoTurn (ledger ds s) → last_time_told None cs ≡ last_time_told None ds → calls_concerning s es ≡ calls_concerning s fs
        → SameForSlot s es h fs (run M made ds (new_host M made))

  abbrev pub ReachedByNoCalls : Type 0
  ReachedByNoCalls = ReachedBy [] (new_host M made)

  -- whatever leaves each slot as one call more does
  abbrev pub ReachedByOneMore : Type 0
  ReachedByOneMore = (cs : List HostCall) (c : HostCall) (h after : HostState M made)
      → ReachedBy cs h → ((s : ℕ) → s < 4 → after s ≡ step M made c h s) → ReachedBy (cs ++ c ∷ []) after
