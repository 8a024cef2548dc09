-- Sets of session numbers read, changed and counted.
use Rattle.std.proofs.Common.{◌≡◌, ℕ, zero, suc, ◌+◌, ◌-◌, ◌<◌, ◌≤◌, Bool, false, cond, eqb, List, [], ◌∷◌, length, get_or, set, replicate, take, sym, refl, ap, ◌∙◌, add-zero, arith}
use mathlib.Core.Path.{fun_ext}
use Rattle.std.specs.List.{count_by}
use Rattle.std.proofs.lemmas.Bool.{cond_both, eqb-true, eqb-false}
use Rattle.std.proofs.lemmas.List.{get_or-set_same, get_or-set_other, get_or_past, take_all}
use Rattle.std.proofs.lemmas.List.Sums.{sum_by-cons}
use Rattle.resource.specs.NumberTables.{put, numbers_from, tally, session_numbers}
use Rattle.standard.specs.declared.session_set.SessionSet.{SessionSet}
use Rattle.standard.specs.SetContents.{contains_number}

abbrev marks : List Bool → SessionSet
marks bs = record { flags = bs }

-- a number from 1 is one more than the index of its flag
place : (n : ℕ) → 1 ≤ n → n ≡ suc (n - 1)
place n h = omega arith

pub contains_at : (m : SessionSet) (n : ℕ) → 1 ≤ n → get_or m.flags (n - 1) false ≡ contains_number m n
unfolding contains_number
contains_at m n h = ap (contains_number m) (sym (place n h))

pub contains_outside : (m : SessionSet) (n : ℕ) → length m.flags ≡ 16 → (1 ≤ n → n ≤ 16 → ⊥) → false ≡ contains_number m n
unfolding contains_number
contains_outside m zero long out = refl
contains_outside m (suc k) long out =
    let past : length m.flags ≤ k = omega (arith, out) in
    sym (get_or_past m.flags k false past)

none_at : (n k : ℕ) → get_or (replicate n false) k false ≡ false
none_at zero k = refl
none_at (suc n) zero = refl
none_at (suc n) (suc k) = none_at n k

marked_replicated : (n : ℕ) → contains_number (marks (replicate n false)) ≡ (λ _. false)
unfolding contains_number
marked_replicated n = fun_ext go
  where
    go : (k : ℕ) → contains_number (marks (replicate n false)) k ≡ false
    go zero = refl
    go (suc k) = none_at n k

pub contains_in_empty : contains_number (marks (replicate 16 false)) ≡ (λ _. false)
contains_in_empty = marked_replicated 16

set_at : (bs : List Bool) (b : Bool) (k n : ℕ) → k < length bs → contains_number (marks (set bs k b)) n ≡ put (suc k) b (contains_number (marks bs)) n
unfolding contains_number
set_at bs b k zero lt = cond_both (eqb 0 (suc k)) b false (λ v. false ≡ v) (λ t. (let z : ⊥ = let e : ◌≡◌ {A = ℕ} 0 (suc k) = eqb-true 0 (suc k) t in omega arith in absurd z)) (λ _. refl)
set_at bs b k (suc n) lt =
    cond_both (eqb (suc n) (suc k)) b (get_or bs n false) (λ v. get_or (set bs k b) n false ≡ v)
    (λ t. let same : n ≡ k = let e : suc n ≡ suc k = eqb-true (suc n) (suc k) t in omega arith in ap (λ j. get_or (set bs k b) j false) same ∙ get_or-set_same bs k b false lt)
    (λ t. get_or-set_other bs k n b false (λ e. eqb-false (suc n) (suc k) t (ap suc e)))

pub contains_after_set : (m : SessionSet) (b : Bool) (n : ℕ) → 1 ≤ n → n - 1 < length m.flags → contains_number (marks (set m.flags (n - 1) b)) ≡ put n b (contains_number m)
contains_after_set m b n h lt = fun_ext (λ k. set_at m.flags b (n - 1) k lt) ∙ ap (λ k. put k b (contains_number m)) (sym (place n h))

-- the elements that are true are as many as the numbers that pass from the first element's number on
counted_from : (f : ℕ → Bool) (bs : List Bool) (k : ℕ) → ((i : ℕ) → f (k + i) ≡ get_or bs i false) → count_by (λ b. b) bs ≡ tally f (numbers_from k (length bs))
counted_from f [] k h = refl
counted_from f (b ∷ bs) k h =
    sum_by-cons (λ c. cond c 1 0) b bs
    ∙ ap (λ c. cond c 1 0 + count_by (λ d. d) bs) (sym (h 0) ∙ ap f (add-zero k))
    ∙ ap (λ n. cond (f k) 1 0 + n) (counted_from f bs (k + 1) (λ i. let e : k + 1 + i ≡ k + suc i = omega arith in ap f e ∙ h (suc i)))

pub len_is_tally : (m : SessionSet) → length m.flags ≡ 16 → count_by (λ b. b) m.flags ≡ tally (contains_number m) session_numbers
unfolding contains_number session_numbers
len_is_tally m long =
    counted_from (contains_number m) m.flags 1 (λ i. let e : 1 + i ≡ suc i = omega arith in ap (contains_number m) e) ∙ ap (λ n. tally (contains_number m) (numbers_from 1 n)) long

-- the same of the first so many flags, where these are all
pub sum_is_tally : (m : SessionSet) (k : ℕ) → length m.flags ≡ 16 → 16 ≤ k → count_by (λ b. b) (take k m.flags) ≡ tally (contains_number m) session_numbers
sum_is_tally m k long past = ap (count_by (λ b. b)) (take_all k m.flags (omega arith)) ∙ len_is_tally m long
