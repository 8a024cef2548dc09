-- How many of the numbers of sessions pass, when one more or one fewer does.
use Rattle.std.specs.Prelude.{◌≡◌, ℕ, zero, suc, ◌+◌, ◌<◌, ◌≤◌, Bool, true, false, cond, List, [], ◌∷◌, ◌==◌, nat_eq, refl}
use Rattle.std.proofs.Common.{sym, ap, ◌∙◌, ⊎_elim, arith}
use Rattle.std.proofs.lemmas.Bool.{eqb-true, and_parts, cases_eq}
use Rattle.resource.specs.NumberTables.{put, numbers_from, session_limit, session_numbers, tally}
use Rattle.resource.proofs.TableLemmas.{put_at, put_same, put_put, every}

-- the numbers of a list that are counted, when one that was not is added
tally_put : (f : ℕ → Bool) (n : ℕ) (ns : List ℕ) → f n ≡ false → tally (put n true f) ns ≡ tally f ns + tally (λ k. nat_eq k n) ns
tally_put f n [] e = refl
tally_put f n (k ∷ ns) e = omega (arith, go (k == n) refl, tally_put f n ns e)
  where
    go : (d : Bool) → (k == n) ≡ d → cond (cond d true (f k)) 1 0 ≡ cond (f k) 1 0 + cond d 1 0
    go true t = rw (ap f (eqb-true k n t) ∙ e)
    go false t = omega arith

-- what passes from one number on passes at each number of those
every_from : (q : ℕ → Bool) (k m n : ℕ) → every q (numbers_from m k) ≡ true → m ≤ n → n < m + k → q n ≡ true
every_from q zero m n e a b = absurd (omega arith)
every_from q (suc k) m n e a b =
    let parts = and_parts (q m) (every q (numbers_from (m + 1) k)) e in
    ⊎_elim (λ (same : m ≡ n). rw same at parts.0) (λ (h : m ≡ n → ⊥). every_from q k (m + 1) n parts.1 (omega arith) (omega arith)) (cases_eq m n)

every_within : (q : ℕ → Bool) (n : ℕ) → every q session_numbers ≡ true → 1 ≤ n → n ≤ session_limit → q n ≡ true
unfolding session_numbers
every_within q n e a b = every_from q session_limit 1 n e a (omega arith)

counted_once : (n : ℕ) → 1 ≤ n → n ≤ session_limit → tally (λ k. nat_eq k n) session_numbers ≡ 1
unfolding session_numbers
counted_once n a b = eqb-true _ _ (every_within (λ m. nat_eq (tally (λ k. nat_eq k m) session_numbers) 1) n refl a b)

-- one more and one fewer
pub tally_more : (f : ℕ → Bool) (n : ℕ) → 1 ≤ n → n ≤ session_limit → f n ≡ false → tally (put n true f) session_numbers ≡ tally f session_numbers + 1
tally_more f n a b e = tally_put f n session_numbers e ∙ ap (λ k. tally f session_numbers + k) (counted_once n a b)

pub tally_fewer : (f : ℕ → Bool) (n : ℕ) → 1 ≤ n → n ≤ session_limit → f n ≡ true → tally (put n false f) session_numbers + 1 ≡ tally f session_numbers
tally_fewer f n a b e =
    sym (tally_more (put n false f) n a b (put_at n false f))
    ∙ ap (λ g. tally g session_numbers) (put_put n true false f ∙ put_same n true f (sym e))

pub tally_none : (ns : List ℕ) → tally (λ _. false) ns ≡ 0
tally_none [] = refl
tally_none (n ∷ ns) = ap (λ k. 0 + k) (tally_none ns)
