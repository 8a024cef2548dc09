-- Which numbers a set of session numbers has.
use Rattle.std.specs.Prelude.{ℕ, zero, suc, Bool, false, slice_index_or}
use Rattle.standard.specs.declared.session_set.SessionSet.{SessionSet}

-- the flag of a number from 1 stands at the index one lower
unfoldable pub contains_number : SessionSet → ℕ → Bool
contains_number m zero = false
contains_number m (suc k) = slice_index_or m.flags k false
