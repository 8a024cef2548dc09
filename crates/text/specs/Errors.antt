-- Answers that may fail for want of memory.
use Rattle.std.specs.Prelude.{◌≡◌, Bool, true, false, Ok, Err, Result}
use Rattle.text.specs.declared.error.LineError.{LineError}
use Rattle.text.specs.declared.error.LineError.TheVariants.{Bad, Memory}

-- the answer is the one that is meant, unless memory may run out and did
abbrev pub MeantOrNoMemory : {X Y R : Type 0} → Bool → Result X R → (Y → X) → Result Y (LineError R) → Type 0
MeantOrNoMemory may meant f (Ok y) = meant ≡ Ok (f y)
MeantOrNoMemory may meant f (Err (Bad reason)) = meant ≡ Err reason
MeantOrNoMemory may meant f (Err Memory) = may ≡ true

-- whether memory ran out
abbrev pub memory_ran_out : {Y R : Type 0} → Result Y (LineError R) → Bool
memory_ran_out (Err Memory) = true
memory_ran_out _ = false
