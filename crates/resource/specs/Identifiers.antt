-- Identifiers of resources: kind 2 bits, class 14, type 10, version 6. After kind 3 come definer 10 and identity 20.
use Rattle.std.specs.Prelude.{◌≡◌, ℕ, ◌/◌, ◌%◌, Bool, false, if◌then◌else◌, not, ◌&&◌, ◌||◌, List, [], ◌∷◌, Some, None, Option, ◌==◌, nat_lt}

abbrev pub kind : ℕ → ℕ
kind i = i / 0x40000000

abbrev pub class : ℕ → ℕ
class i = i / 0x10000 % 0x4000

abbrev pub resource_type : ℕ → ℕ
resource_type i = i / 64 % 1024

abbrev pub version : ℕ → ℕ
version i = i % 64

abbrev pub definer : ℕ → ℕ
definer i = i / 0x100000 % 1024

abbrev pub identity : ℕ → ℕ
identity i = i % 0x100000

abbrev pub private : ℕ → Bool
private i = kind i == 3

-- all but the version
abbrev pub without_version : ℕ → ℕ
without_version i = i / 64

-- two identifiers match when all but the version is equal; of kind 3 when all is
abbrev pub matches : ℕ → ℕ → Bool
matches i j = if private i then i == j else without_version i == without_version j

-- whether the version listed is lower than the one asked for
abbrev pub older : ℕ → ℕ → Bool
older listed asked = not (private listed) && nat_lt (version listed) (version asked)

-- the first of a list that matches
abbrev pub first_match : List ℕ → ℕ → Option ℕ
first_match [] i = None
first_match (j ∷ js) i = if matches j i then Some j else first_match js i

-- whether it is one of a list
abbrev pub is_listed : List ℕ → ℕ → Bool
is_listed [] i = false
is_listed (j ∷ js) i = i == j || is_listed js i

-- no two of a list match
abbrev pub NoTwoMatch : List ℕ → Type 0
NoTwoMatch [] = Unit {0}
NoTwoMatch (j ∷ js) = (first_match js j ≡ None) × NoTwoMatch js
