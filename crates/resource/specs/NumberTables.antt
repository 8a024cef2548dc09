-- Tables by number, and the numbers that sessions have.
use Rattle.std.specs.Prelude.{ℕ, zero, suc, ◌+◌, Bool, if◌then◌else◌, List, [], ◌∷◌, Some, None, Option, ◌==◌}

-- a table with the entry of one number changed
abbrev pub put : {A : Type 0} → ℕ → A → (ℕ → A) → ℕ → A
put i a f k = if k == i then a else f k

-- a number and those after it, so many in all
abbrev pub numbers_from : ℕ → ℕ → List ℕ
numbers_from n zero = []
numbers_from n (suc k) = n ∷ numbers_from (n + 1) k

-- how many sessions a slot may have, and the numbers that they get
abbrev pub session_limit : ℕ
session_limit = 16

unfoldable pub session_numbers : List ℕ
session_numbers = numbers_from 1 session_limit

-- the first number of a list that passes
abbrev pub first : (ℕ → Bool) → List ℕ → Option ℕ
first p [] = None
first p (n ∷ ns) = if p n then Some n else first p ns

-- how many numbers of a list pass
abbrev pub tally : (ℕ → Bool) → List ℕ → ℕ
tally p [] = 0
tally p (n ∷ ns) = (if p n then 1 else 0) + tally p ns
