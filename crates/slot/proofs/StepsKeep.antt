-- What steps in a row keep of a resource, and of a context.
use Rattle.std.proofs.Common.{ℕ, refl, ◌∙◌, subst}
use Rattle.resource.specs.Meaning.{Meaning}
use Rattle.resource.specs.CallEffects.{OthersStay}
use Rattle.protocol.specs.SlotCalls.{SlotState}
use Rattle.slot.specs.declared.context.SlotContext.{SlotContext}
use Rattle.slot.specs.Refinement.{RefinesStep}
use Rattle.slot.specs.ContextRefinement.{SameContext, ContextRefinesStep}

pub kept_same : {S : Type 0} (M : Meaning S) (at : ℕ) (s : S) → OthersStay M at s s
kept_same M at s = record { made = refl; others = λ k ne. refl }

pub kept_then : {S : Type 0} (M : Meaning S) (at : ℕ) (a b c : S) → OthersStay M at a b → OthersStay M at b c → OthersStay M at a c
kept_then M at a b c p q = record { made = q.made ∙ p.made; others = λ k ne. q.others k ne ∙ p.others k ne }

pub same_context : {S : Type 0} (p : SlotContext S) → SameContext p p
same_context p = record { slot = refl; resource = refl; at = refl }

pub same_then : {S : Type 0} (p q r : SlotContext S) → SameContext p q → SameContext q r → SameContext p r
same_then p q r a b = record { slot = b.slot ∙ a.slot; resource = b.resource ∙ a.resource; at = b.at ∙ a.at }

-- a step of a context that is the same as an earlier one
pub step_on : {S : Type 0} (M : Meaning S) (f : M.Made → ℕ → SlotState M.Share → SlotState M.Share) (p q r : SlotContext S) → SameContext p q → ContextRefinesStep M f q r
    → RefinesStep M p.at f q.slot.now q.resource.now r.slot.now r.resource.now
step_on M f p q r a b = subst (λ (k : ℕ). RefinesStep M k f q.slot.now q.resource.now r.slot.now r.resource.now) a.at b.step
