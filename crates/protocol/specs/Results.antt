-- Answers of steps that may refuse.
use Rattle.std.specs.Prelude.{Bool, true, false, Ok, Err, Result}
use Rattle.std.specs.Result.{result_map_both}

-- go on with what was answered, or end at the refusal
abbrev pub and_then : {A B E : Type 0} → Result A E → (A → Result B E) → Result B E
and_then (Ok a) f = f a
and_then (Err e) f = Err e

-- refuse where a test holds
abbrev pub refuse_if : {A E : Type 0} → Bool → E → Result A E → Result A E
refuse_if true e r = Err e
refuse_if false e r = r

-- a fault as the refusal that carries it
abbrev pub fault_as_refusal : {A E F : Type 0} → (F → E) → Result A F → Result A E
fault_as_refusal f r = result_map_both (λ a. a) f r
