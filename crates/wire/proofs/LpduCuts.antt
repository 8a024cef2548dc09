-- How a transport unit falls into link units.
use Rattle.std.proofs.Common.{◌≡◌, ℕ, zero, suc, ◌+◌, ◌-◌, ◌*◌, ◌/◌, ◌%◌, min, ◌<◌, ◌≤◌, Bool, true, false, cond, leb, List, [], ◌∷◌, ◌++◌, length, take, drop, refl, ap, ◌∙◌, arith}
use Rattle.std.proofs.Math.Nat.{add-div_right, div-eq_of_lt, div_self, mod_self, mod-eq_of_lt, mod-eq-sub-mod}
use Rattle.std.specs.Int.{div_ceil}
use Rattle.std.specs.List.{flat_map}
use Rattle.std.proofs.lemmas.List.{append-nil, length-append, length-drop, length-take-le}
use Rattle.std.proofs.lemmas.Bool.{le-leb, lt-leb, leb-true, leb-false}
use Rattle.wire.specs.LpduTags.{last, more}
use Rattle.wire.specs.LpduWriting.{cut, cut_bytes}

-- how many bytes the link units of n bytes take, with at most so many of these in each
abbrev lpdus_length : ℕ → ℕ → ℕ
lpdus_length n most = n + 2 * div_ceil n most

-- any bound that is not below the unit's length does
pub any_bound : (k l id most : ℕ) (bs : List ℕ) → 1 ≤ most → 1 ≤ length bs → length bs ≤ k → length bs ≤ l → cut k id most bs ≡ cut l id most bs
any_bound zero l id most bs m n a b = let z : ⊥ = omega arith in absurd z
any_bound (suc k) zero id most bs m n a b = let z : ⊥ = omega arith in absurd z
any_bound (suc k) (suc l) id most bs m n a b =
    go (leb (length bs) most) refl (λ long. let rest = length-drop most bs in any_bound k l id most (drop most bs) m (omega arith) (omega arith) (omega arith))
  where
    go : (t : Bool) → leb (length bs) most ≡ t → (most < length bs → cut k id most (drop most bs) ≡ cut l id most (drop most bs)) → cond t ((id ∷ last ∷ bs) ∷ []) ((id ∷ more ∷ take most bs) ∷ cut k id most (drop most bs)) ≡ cond t ((id ∷ last ∷ bs) ∷ []) ((id ∷ more ∷ take most bs) ∷ cut l id most (drop most bs))
    go true t next = refl
    go false t next = ap (λ r. (id ∷ more ∷ take most bs) ∷ r) (next (leb-false (length bs) most t))

pub cut_last : (id most : ℕ) (bs : List ℕ) → 1 ≤ length bs → length bs ≤ most → cut_bytes id most bs ≡ id ∷ last ∷ bs
cut_last id most [] n le = let z : ⊥ = omega arith in absurd z
cut_last id most (b ∷ bs) n le = rw (le-leb (suc (length bs)) most le) (ap (λ r. id ∷ last ∷ r) (append-nil (b ∷ bs)))

pub cut_more : (id most : ℕ) (bs : List ℕ) → 1 ≤ most → most < length bs → cut_bytes id most bs ≡ (id ∷ more ∷ take most bs) ++ cut_bytes id most (drop most bs)
cut_more id most [] m lt = let z : ⊥ = omega arith in absurd z
cut_more id most (b ∷ bs) m lt =
    let rest = length-drop most (b ∷ bs) in
    rw (lt-leb (suc (length bs)) most lt)
    (ap (λ r. (id ∷ more ∷ take most (b ∷ bs)) ++ flat_map (λ x. x) r) (any_bound (length bs) (length (drop most (b ∷ bs))) id most (drop most (b ∷ bs)) m (omega arith) (omega arith) (omega arith)))

-- one link unit, and one more for each step
one : (n most : ℕ) → 1 ≤ most → 1 ≤ n → n ≤ most → div_ceil n most ≡ 1
one n most m low high = go (leb most n) refl
  where
    go : (t : Bool) → leb most n ≡ t → div_ceil n most ≡ 1
    go true t =
        let same : n ≡ most = omega (arith, leb-true most n t) in
        rw (same, div_self {n = most} m, mod_self most)
    go false t =
        let under = leb-false most n t in
        rw (div-eq_of_lt under, mod-eq_of_lt under) (omega arith)

one_more : (n most : ℕ) → 1 ≤ most → most < n → div_ceil n most ≡ div_ceil (n - most) most + 1
one_more n most m lt =
    let step : n ≡ n - most + most = omega arith in
    let whole : n / most ≡ (n - most) / most + 1 = ap (λ k. k / most) step ∙ add-div_right (n - most) m in
    let part : n % most ≡ (n - most) % most = mod-eq-sub-mod (omega arith) in
    omega (arith, whole, part, ap (λ k. min 1 k) part)

pub length_cut : (k id most : ℕ) (bs : List ℕ) → 1 ≤ most → 1 ≤ length bs → length bs ≤ k → length (cut_bytes id most bs) ≡ lpdus_length (length bs) most
length_cut zero id most bs m n a = let z : ⊥ = omega arith in absurd z
length_cut (suc k) id most bs m n a =
    go (leb (length bs) most) refl (λ long. let rest = length-drop most bs in length_cut k id most (drop most bs) m (omega arith) (omega arith))
  where
    go : (t : Bool) → leb (length bs) most ≡ t → (most < length bs → length (cut_bytes id most (drop most bs)) ≡ lpdus_length (length (drop most bs)) most) → length (cut_bytes id most bs) ≡ lpdus_length (length bs) most
    go true t next =
        let short = leb-true (length bs) most t in
        omega (arith, one (length bs) most m n short, ap length (cut_last id most bs n short))
    go false t next =
        let long = leb-false (length bs) most t in
        let rest = length-drop most bs in
        let front = length-take-le most bs (omega arith) in
        let steps = one_more (length bs) most m long in
        let here = ap length (cut_more id most bs m long) ∙ length-append (id ∷ more ∷ take most bs) (cut_bytes id most (drop most bs)) in
        let same = ap (λ j. div_ceil j most) rest in
        omega (arith, next long, here, steps, front, same)

-- whether they fit, told by their number
pub room_by_count : (id most room : ℕ) (bs : List ℕ) → 1 ≤ most → 1 ≤ length bs → leb (length (cut_bytes id most bs)) room ≡ leb (length bs + 2 * div_ceil (length bs) most) room
room_by_count id most room bs m n = ap (λ k. leb k room) (length_cut (length bs) id most bs m n (omega arith))
