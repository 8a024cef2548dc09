-- A context before and after: the same references and number, and what is done to them as in Refinement.
use Rattle.std.specs.Prelude.{◌≡◌, ℕ, Result}
use Rattle.protocol.specs.declared.refusal.Refusal.{Refusal}
use Rattle.resource.specs.Meaning.{Meaning}
use Rattle.protocol.specs.SlotCalls.{SlotCall, SlotState, CallAnswer, ServedCall, call_outcome}
use Rattle.slot.specs.declared.context.SlotContext.{SlotContext}
use Rattle.slot.specs.Refinement.{RefinesStep, RefinesAttempt, RefinesServing}

-- the same references and the same number
pub record SameContext {S : Type 0} (p p' : SlotContext S) : Type 0 where
  pub slot : p'.slot.ghost_name ≡ p.slot.ghost_name
  pub resource : p'.resource.ghost_name ≡ p.resource.ghost_name
  pub at : p'.at ≡ p.at

module _ {S : Type 0} (M : Meaning S) where
  pub record ContextRefinesStep (f : M.Made → ℕ → SlotState M.Share → SlotState M.Share) (p p' : SlotContext S) : Type 0 where
    pub same : SameContext p p'
    pub step : RefinesStep M p.at f p.slot.now p.resource.now p'.slot.now p'.resource.now

  pub record ContextRefinesAttempt (f : M.Made → ℕ → SlotState M.Share → Result (SlotState M.Share) Refusal) (r : Result (Unit {0}) Refusal) (p p' : SlotContext S) : Type 0 where
    pub same : SameContext p p'
    pub tried : RefinesAttempt M p.at f r p.slot.now p.resource.now p'.slot.now p'.resource.now

  pub record ContextRefinesServing (f : M.Made → ℕ → SlotState M.Share → Result (ServedCall M.Share) Refusal) (r : Result CallAnswer Refusal) (p p' : SlotContext S) : Type 0 where
    pub same : SameContext p p'
    pub serves : RefinesServing M p.at f r p.slot.now p.resource.now p'.slot.now p'.resource.now

  abbrev pub ContextRefinesCall : SlotCall → Result CallAnswer Refusal → SlotContext S → SlotContext S → Type 0
  ContextRefinesCall a = ContextRefinesServing (λ made k. call_outcome M made k a)
