-- A slot's record in the code beside its share of a resource, and what is done to both.
use Rattle.std.specs.Prelude.{◌≡◌, ℕ, Ok, Err, Result}
use Rattle.protocol.specs.declared.refusal.Refusal.{Refusal}
use Rattle.resource.specs.Meaning.{Meaning}
use Rattle.resource.specs.CallEffects.{OthersStay}
use Rattle.protocol.specs.SlotCalls.{SlotCall, SlotState, CallAnswer, ServedCall, done, call_outcome}
use Rattle.protocol.specs.Runs.{answer_of, state_after}
use Rattle.slot.specs.declared.record.Record.{Record}
use Rattle.slot.specs.RecordViews.{slot_of}

-- what comes of a step that tells no more than that it was made
abbrev pub left_or_refusal : {A : Type 0} → Result (Unit {0}) Refusal → SlotState A → Result (SlotState A) Refusal
left_or_refusal (Ok u) st = Ok st
left_or_refusal (Err e) st = Err e

-- a refused step changes nothing
abbrev pub UnchangedIfRefused : {A : Type 0} → Result (Unit {0}) Refusal → SlotState A → SlotState A → Type 0
UnchangedIfRefused (Ok u) before after = Unit {0}
UnchangedIfRefused (Err e) before after = after ≡ before

module _ {S : Type 0} (M : Meaning S) (at : ℕ) where
  abbrev pub state_at : Record → S → SlotState M.Share
  state_at b s = record { slot = slot_of b; share = M.share s at }

  -- a step: what it leaves of the slot is this function of what was, and nothing else of the resource is altered
  pub record RefinesStep (f : M.Made → ℕ → SlotState M.Share → SlotState M.Share) (b : Record) (s : S) (b' : Record) (s' : S) : Type 0 where
    pub after : state_at b' s' ≡ f (M.made s) at (state_at b s)
    pub kept : OthersStay M at s s'

  -- a step that may be refused: what it leaves of the slot, or the refusal, is this function of what was; refused, it changes nothing
  pub record RefinesAttempt (f : M.Made → ℕ → SlotState M.Share → Result (SlotState M.Share) Refusal) (r : Result (Unit {0}) Refusal) (b : Record) (s : S) (b' : Record) (s' : S) : Type 0 where
    pub after : left_or_refusal r (state_at b' s') ≡ f (M.made s) at (state_at b s)
    pub refused : UnchangedIfRefused r (state_at b s) (state_at b' s')
    pub kept : OthersStay M at s s'

  -- a call: the answer and what is left are the definition's, and nothing else of the resource is altered
  pub record RefinesServing (f : M.Made → ℕ → SlotState M.Share → Result (ServedCall M.Share) Refusal) (r : Result CallAnswer Refusal) (b : Record) (s : S) (b' : Record) (s' : S) : Type 0 where
    pub answer : r ≡ answer_of (f (M.made s) at (state_at b s))
    pub after : state_at b' s' ≡ state_after (state_at b s) (f (M.made s) at (state_at b s))
    pub kept : OthersStay M at s s'

  abbrev pub RefinesCall : SlotCall → Result CallAnswer Refusal → Record → S → Record → S → Type 0
  RefinesCall a = RefinesServing (λ made k. call_outcome M made k a)

-- the answer of a call that tells no more than that it is served
abbrev pub plain_answer : Result (Unit {0}) Refusal → Result CallAnswer Refusal
plain_answer (Ok u) = Ok done
plain_answer (Err e) = Err e
