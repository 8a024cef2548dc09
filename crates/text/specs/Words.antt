-- The words of a line, and the bytes that words write.
use Rattle.std.specs.Prelude.{ℕ, ◌+◌, ◌*◌, Bool, ◌||◌, List, [], ◌∷◌, length, Option, Some, None, Ok, Err, Result, ◌==◌, nat_lt, if◌then◌else◌}
use Rattle.std.specs.Char.{digit_value, is_digit}
use Rattle.std.specs.List.{filter, slice_split}
use Rattle.text.specs.declared.error.LineError.{LineError}
use Rattle.text.specs.declared.error.LineError.TheVariants.{Bad, Memory}

-- a space or a tab
abbrev pub is_blank : ℕ → Bool
is_blank c = c == 32 || c == 9

-- what stands between blanks
abbrev pub words : List ℕ → List (List ℕ)
words text = filter (λ w. nat_lt 0 (length w)) (slice_split is_blank text)

-- a hexadecimal digit, in either case
abbrev pub digit : ℕ → Option ℕ
digit c = if is_digit c 16 then Some (digit_value c) else None

abbrev pair : Option ℕ → Option ℕ → Option ℕ
pair (Some high) (Some low) = Some (high * 16 + low)
pair _ _ = None

-- the byte that two digits write, the high one first
abbrev pub byte : List ℕ → Option ℕ
byte (high ∷ low ∷ []) = pair (digit high) (digit low)
byte _ = None

abbrev cons : Option ℕ → Option (List ℕ) → Option (List ℕ)
cons (Some b) (Some bs) = Some (b ∷ bs)
cons _ _ = None

-- the bytes that all words write
abbrev pub bytes : List (List ℕ) → Option (List ℕ)
bytes [] = Some []
bytes (w ∷ ws) = cons (byte w) (bytes ws)

abbrev answer : {R : Type 0} → R → Option (List ℕ) → Result (Unit {0}) (LineError R) × List ℕ
answer reason (Some bs) = (Ok tt, bs)
answer reason None = (Err (Bad reason), [])

-- what is answered, and the bytes that are left: none where a word writes none, or memory ran out
abbrev pub filled : {R : Type 0} → Bool → R → List (List ℕ) → Result (Unit {0}) (LineError R) × List ℕ
filled no_memory reason ws = if no_memory then (Err Memory, []) else answer reason (bytes ws)
