-- Every call leaves a sound record sound.
use Rattle.std.proofs.Common.{ℕ, ◌<◌, Result, sym, subst, arith}
use mathlib.Core.Logic.{∥∥₁_map}
use Rattle.std.proofs.lemmas.Bool.{le-leb}
use Rattle.protocol.specs.declared.refusal.Refusal.{Refusal}
use Rattle.resource.specs.Meaning.{Meaning}
use Rattle.resource.specs.Lawful.{Lawful}
use Rattle.protocol.specs.Sound.{Sound}
use Rattle.protocol.specs.SlotCalls.{SlotCall, CallAnswer}
use Rattle.protocol.proofs.EveryCall.{act_sound}
use Rattle.slot.specs.declared.record.Record.{Record}
use Rattle.slot.specs.RecordViews.{slot_of}
use Rattle.slot.specs.Refinement.{state_at, RefinesCall}

pub stays : {S : Type 0} {M : Meaning S} {r : Result CallAnswer Refusal} {b b' : Record} {s s' : S} (law : Lawful M) (at : ℕ) (a : SlotCall) → RefinesCall M at a r b s b' s' → at < 4 → ∥ Sound (slot_of b) ∥₁ → ∥ Sound (slot_of b') ∥₁
stays {M = M} {b = b} {s = s} law at a d lt k = ∥∥₁_map k (λ sound. subst (λ z. Sound z.slot) (sym d.after) (act_sound M (M.made s) at law a (state_at M at b s) (le-leb at 3 (omega arith)) sound))
