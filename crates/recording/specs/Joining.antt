-- What is kept of a unit until it is whole.
use Rattle.std.specs.Prelude.{ℕ, ◌-◌, Bool, true, false, if◌then◌else◌, List, [], ◌++◌, length, Some, None, Option, Ok, Err, Result, nat_lt}
use Rattle.recording.specs.declared.joiner.JoinError.{JoinError}
use Rattle.recording.specs.declared.joiner.JoinError.TheVariants.{Limit, Memory}

-- the most bytes that may be kept, and the unit's bytes so far, if it was not dropped
pub record UnitState : Type 0 where
  pub limit : ℕ
  pub unit : Option (List ℕ)

abbrev pub unit_state : ℕ → Option (List ℕ) → UnitState
unit_state n unit = record { limit = n; unit = unit }

-- nothing of a unit yet
abbrev pub empty_unit : ℕ → UnitState
empty_unit n = unit_state n (Some [])

-- what there is of a unit: nothing of one that was dropped
abbrev of_unit : Option (List ℕ) → List ℕ
of_unit None = []
of_unit (Some bs) = bs

abbrev pub unit_bytes : UnitState → List ℕ
unit_bytes h = of_unit h.unit

-- whether memory ran out
abbrev pub memory_ran_out : Result (Unit {0}) JoinError → Bool
memory_ran_out (Ok u) = false
memory_ran_out (Err Limit) = false
memory_ran_out (Err Memory) = true

-- one part more: a unit that goes past its limit is dropped with all that follows, and for want of memory all stays as it was
abbrev added_to : Bool → List ℕ → ℕ → Option (List ℕ) → Result (Unit {0}) JoinError × UnitState
added_to no_memory part n None = (Err Limit, unit_state n None)
added_to no_memory part n (Some bs) =
    if nat_lt (n - length bs) (length part) then (Err Limit, unit_state n None)
    else if no_memory then (Err Memory, unit_state n (Some bs))
    else (Ok tt, unit_state n (Some (bs ++ part)))

abbrev pub after_add : Bool → List ℕ → UnitState → Result (Unit {0}) JoinError × UnitState
after_add no_memory part h = added_to no_memory part h.limit h.unit
