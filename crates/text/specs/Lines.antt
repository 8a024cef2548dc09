-- Reading lines, each cut to a limit, from an input whose bytes are known or not.
use Rattle.std.specs.Prelude.{◌≡◌, ℕ, ◌+◌, ◌-◌, ◌≤◌, Bool, not, List, [], ◌∷◌, ◌++◌, length, take, Option, Some, None, Result, IfSome, IfOk, MatchOption, if◌then◌else◌, ◌==◌}
use Rattle.std.specs.Io.KnownBytes.{Consumes, IsAtEnd}
use Rattle.std.specs.Io.BufRead.{drop_through}
use Rattle.std.specs.Io.Buffered.{reader_remaining}
use Rattle.text.specs.declared.lines.Lines.{Lines}
use Rattle.text.specs.declared.lines.Piece.{Piece}
use Rattle.text.specs.declared.lines.Piece.TheVariants.{Part, Whole, End}

-- the most bytes that a line may have
abbrev pub limit : {R : Type 0} → Lines R → ℕ
limit lines = lines.limit

-- the bytes that are still to be read, where they are known: none after the end; what there is once it has given up is not known
abbrev pub left : {R : Type 0} → (R → Option (List ℕ)) → Lines R → Option (List ℕ)
left remaining lines =
    if lines.turns == 0 then (if lines.ended then Some [] else None) else reader_remaining remaining lines.input

-- how many more pieces of the input may come
abbrev pub count : {R : Type 0} → Lines R → ℕ
count lines = lines.turns

-- another byte than a line feed
abbrev pub in_line : ℕ → Bool
in_line c = not (c == 10)

-- the bytes up to the first line feed, or all of them
abbrev pub first_line : List ℕ → List ℕ
first_line [] = []
first_line (c ∷ text) = if c == 10 then [] else c ∷ first_line text

-- a line with more bytes, of which no more are held than the limit and one byte
abbrev pub with_bytes : ℕ → List ℕ → List ℕ → List ℕ
with_bytes limit line bytes = line ++ take (limit + 1 - length line) bytes

-- what a piece of the input adds to a line: bytes with no line feed among them, then the line feed if it is there; at the end nothing
abbrev pub Adds : ℕ → Piece → List ℕ → List ℕ → Option (List ℕ) → Option (List ℕ) → Type 0
Adds limit Part line grown old new = (bytes : List ℕ) × (first_line bytes ≡ bytes) × (grown ≡ with_bytes limit line bytes) × Consumes old new bytes
Adds limit Whole line grown old new = (bytes : List ℕ) × (first_line bytes ≡ bytes) × (grown ≡ with_bytes limit line bytes) × Consumes old new (bytes ++ 10 ∷ [])
Adds limit End line grown old new = (grown ≡ line) × IsAtEnd old

-- a line: one byte more than the limit at most; where the bytes are known it is the first of them, which are gone with their line feed
abbrev pub IsLine : ℕ → Option (List ℕ) → List ℕ → Option (List ℕ) → Type 0
IsLine limit old line new =
    (length line ≤ limit + 1)
    × IfSome old (λ text. (line ≡ take (limit + 1) (first_line text)) × (new ≡ Some (drop_through 10 text)))

-- a line, or none at the end
abbrev pub Reads : {V : Type 0} → (V → List ℕ) → ℕ → Option (List ℕ) → Option V → Option (List ℕ) → Type 0
Reads items limit old line new = MatchOption line (IsAtEnd old) (λ v. IsLine limit old (items v) new)

-- the same of an iterator's answer, in which an error tells nothing
abbrev pub Yields : {V E : Type 0} → (V → List ℕ) → ℕ → Option (List ℕ) → Option (Result V E) → Option (List ℕ) → Type 0
Yields items limit old line new = MatchOption line (IsAtEnd old) (λ read. IfOk read (λ v. IsLine limit old (items v) new))
