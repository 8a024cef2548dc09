-- How a transport unit is cut into link units.
use Rattle.std.specs.Prelude.{ℕ, zero, suc, ◌+◌, ◌-◌, if◌then◌else◌, List, [], ◌∷◌, ◌++◌, length, take, drop, Err, Result, nat_le, nat_lt}
use Rattle.std.specs.List.{flat_map}
use Rattle.wire.specs.declared.writer.WriteFault.{WriteFault}
use Rattle.wire.specs.declared.writer.WriteFault.TheVariants.{Size}
use Rattle.wire.specs.Writing.{write_front}
use Rattle.wire.specs.LpduTags.{last, more}

-- at most this many link units with at most so many bytes of the transport unit in each
abbrev pub cut : ℕ → ℕ → ℕ → List ℕ → List (List ℕ)
cut zero id most bs = []
cut (suc k) id most bs =
    if nat_le (length bs) most then (id ∷ last ∷ bs) ∷ []
    else (id ∷ more ∷ take most bs) ∷ cut k id most (drop most bs)

-- the bytes of such link units, one after another
abbrev pub cut_bytes : ℕ → ℕ → List ℕ → List ℕ
cut_bytes id most bs = flat_map (λ x. x) (cut (length bs) id most bs)

abbrev pub lpdus_bytes : ℕ → ℕ → List ℕ → List ℕ
lpdus_bytes id size bs = cut_bytes id (size - 2) bs

-- what a slice holds after bytes were written from an offset on
abbrev pub behind : ℕ → List ℕ → List ℕ → List ℕ
behind at xs out = take at out ++ (xs ++ drop (at + length xs) out)

-- these written to the front of a slice, where the size leaves room for a fragment
abbrev pub write_lpdus_front : ℕ → ℕ → List ℕ → List ℕ → Result ℕ WriteFault × List ℕ
write_lpdus_front id size bs out = if nat_lt size 3 then (Err Size, out) else write_front (lpdus_bytes id size bs) out
