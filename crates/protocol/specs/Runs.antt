-- Lists of calls to a new host.
use Rattle.std.specs.Prelude.{ℕ, ◌+◌, ◌*◌, ◌/◌, ◌%◌, Bool, true, if◌then◌else◌, not, ◌&&◌, List, [], ◌∷◌, length, Some, None, Ok, Err, Option, Result, ◌==◌, nat_le, nat_lt, slice_index}
use Rattle.std.specs.Result.{result_map_both}
use Rattle.protocol.specs.declared.refusal.Refusal.{Refusal}
use Rattle.protocol.specs.declared.refusal.Refusal.TheVariants as no
use Rattle.resource.specs.Meaning.{Meaning}
use Rattle.protocol.specs.Results.{refuse_if}
use Rattle.protocol.specs.SlotRecord.{new_slot}
use Rattle.protocol.specs.SlotCalls.{SlotState, SlotCall, CallAnswer, done, ServedCall, set_share, call_outcome}

pub data HostCall : Type 0 where
  clock : List ℕ → HostCall
  at : ℕ → SlotCall → HostCall

-- a byte of two decimal digits, of a number that is at most this
abbrev pub decimal_byte_fits : ℕ → ℕ → Bool
decimal_byte_fits most b = nat_le (b / 16) 9 && nat_le (b % 16) 9 && nat_le (b / 16 * 10 + b % 16) most

-- five bytes: a day number of two, which may be any, then hour, minute and second
abbrev pub time_fits : List ℕ → Bool
time_fits t = length t == 5 && decimal_byte_fits 23 (slice_index t 2) && decimal_byte_fits 59 (slice_index t 3) && decimal_byte_fits 59 (slice_index t 4)

-- whether a call is a clock call or names the slot
abbrev pub concerns : ℕ → HostCall → Bool
concerns s (clock t) = true
concerns s (at i a) = s == i

abbrev pub calls_concerning : ℕ → List HostCall → List HostCall
calls_concerning s [] = []
calls_concerning s (c ∷ cs) = if concerns s c then c ∷ calls_concerning s cs else calls_concerning s cs

-- the time of the last clock call that is served, after a time told before
abbrev pub last_time_told : Option (List ℕ) → List HostCall → Option (List ℕ)
last_time_told t [] = t
last_time_told t (clock u ∷ cs) = last_time_told (if time_fits u then Some u else t) cs
last_time_told t (at s a ∷ cs) = last_time_told t cs

abbrev pub clock_alone : Option (List ℕ) → List HostCall
clock_alone None = []
clock_alone (Some t) = clock t ∷ []

abbrev pub answer_of : {A : Type 0} → Result (ServedCall A) Refusal → Result CallAnswer Refusal
answer_of r = result_map_both (λ x. x.answer) (λ e. e) r

-- what is left: a refused call changes nothing
abbrev pub state_after : {A : Type 0} → SlotState A → Result (ServedCall A) Refusal → SlotState A
state_after st (Ok x) = x.left
state_after st (Err e) = st

module _ {S : Type 0} (M : Meaning S) (made : M.Made) where
  -- all slots, by number
  abbrev pub HostState : Type 0
  HostState = ℕ → SlotState M.Share

  abbrev pub new_host : HostState
  new_host s = record { slot = new_slot; share = M.beginning made None }

  abbrev pub answer : HostCall → HostState → Result CallAnswer Refusal
  answer (clock t) h = refuse_if (not (time_fits t)) no.Clock (Ok done)
  answer (at s a) h = refuse_if (nat_lt 3 s) no.Slot (answer_of (call_outcome M made s a (h s)))

  abbrev pub tell : List ℕ → SlotState M.Share → SlotState M.Share
  tell t st = set_share (M.told made t st.share) st

  abbrev pub step : HostCall → HostState → HostState
  step (clock t) h s = if time_fits t then tell t (h s) else h s
  step (at i a) h s = if s == i && nat_le i 3 then state_after (h i) (call_outcome M made i a (h i)) else h s

  abbrev pub run : List HostCall → HostState → HostState
  run [] h = h
  run (c ∷ cs) h = run cs (step c h)

  -- the answers to the calls that are clock calls or name the slot
  abbrev pub answers : ℕ → List HostCall → HostState → List (Result CallAnswer Refusal)
  answers s [] h = []
  answers s (c ∷ cs) h = let rest = answers s cs (step c h) in if concerns s c then answer c h ∷ rest else rest
