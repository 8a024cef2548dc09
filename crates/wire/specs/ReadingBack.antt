-- What reading back means: what was read, by its bytes alone; link units joined again; where a body lies.
use Rattle.std.specs.Prelude.{◌≡◌, ℕ, zero, suc, ◌+◌, ◌<◌, ◌≤◌, Bool, true, false, if◌then◌else◌, List, [], ◌∷◌, ◌++◌, length, take, drop, Ok, Err, Result, nat_lt}
use Rattle.wire.specs.declared.fault.Fault.{Fault}
use Rattle.wire.specs.declared.fault.LinkFault.{LinkFault}
use Rattle.wire.specs.declared.fault.LinkFault.TheVariants.{Short, Long}
use Rattle.wire.specs.Reading.{Located}
use Rattle.wire.specs.declared.lpdu.Fragment.{Fragment}
use Rattle.wire.specs.LpduReading.{read_fragment}

-- all are bytes
abbrev pub AllBytes : List ℕ → Type 0
AllBytes [] = Unit {0}
AllBytes (b ∷ bs) = (b < 256) × AllBytes bs

abbrev pub result_map : {A B : Type 0} → (A → B) → Result A Fault → Result B Fault
result_map f (Ok a) = Ok (f a)
result_map f (Err e) = Err e

-- the bytes of a body, wherever they lie
abbrev pub bytes_of : Located → List ℕ
bytes_of p = p.bytes

-- a last link unit ends the transport unit, and nothing may follow it; otherwise the rest is joined
abbrev with_rest : List ℕ → Result (List ℕ) LinkFault → Result (List ℕ) LinkFault
with_rest bs (Ok rest) = Ok (bs ++ rest)
with_rest bs (Err e) = Err e

abbrev ended : Bool → List ℕ → Result (List ℕ) LinkFault
ended true bs = Err Long
ended false bs = Ok bs

abbrev join : Result (Fragment Located) LinkFault → Bool → Result (List ℕ) LinkFault → Result (List ℕ) LinkFault
join (Ok f) over rest = if f.more then with_rest f.bytes.bytes rest else ended over f.bytes.bytes
join (Err e) over rest = Err e

-- link units one after another, of which all but the last have the agreed size, joined to a transport unit
abbrev pub read_lpdus : ℕ → ℕ → ℕ → List ℕ → Result (List ℕ) LinkFault
read_lpdus zero size id bs = Err Short
read_lpdus (suc k) size id bs = join (read_fragment size id (take size bs)) (nat_lt size (length bs)) (read_lpdus k size id (drop size bs))

-- a body is the part of the bytes given that its offset and length say, and ends within them
pub record LiesWithin (bs : List ℕ) (p : Located) : Type 0 where
  pub part : p.bytes ≡ take (length p.bytes) (drop p.offset bs)
  pub inside : p.offset + length p.bytes ≤ length bs
