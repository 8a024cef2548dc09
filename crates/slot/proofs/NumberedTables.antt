-- One element changed, in the table of a list.
use Rattle.std.proofs.Common.{◌≡◌, ℕ, zero, suc, ◌-◌, ◌<◌, ◌≤◌, eqb, List, length, get_or, set, sym, refl, ap, ◌∙◌, arith}
use mathlib.Core.Path.{fun_ext}
use Rattle.std.proofs.lemmas.Bool.{eqb-true, eqb-false, cond_both}
use Rattle.std.proofs.lemmas.List.{get_or-set_same, get_or-set_other}
use Rattle.resource.specs.NumberTables.{put}
use Rattle.slot.specs.RecordViews.{table}

-- a number from 1 is one more than its index
pub place : (c : ℕ) → 1 ≤ c → c ≡ suc (c - 1)
place c h = omega arith

set_at : {A : Type 0} (d x : A) (xs : List A) (k n : ℕ) → k < length xs → table d (set xs k x) n ≡ put (suc k) x (table d xs) n
set_at d x xs k zero lt = cond_both (eqb 0 (suc k)) x d (λ v. d ≡ v) (λ t. (let z : ⊥ = let e : ◌≡◌ {A = ℕ} 0 (suc k) = eqb-true 0 (suc k) t in omega arith in absurd z)) (λ _. refl)
set_at d x xs k (suc n) lt =
    cond_both (eqb (suc n) (suc k)) x (get_or xs n d) (λ v. get_or (set xs k x) n d ≡ v)
    (λ t. let same : n ≡ k = let e : suc n ≡ suc k = eqb-true (suc n) (suc k) t in omega arith in ap (λ j. get_or (set xs k x) j d) same ∙ get_or-set_same xs k x d lt)
    (λ t. get_or-set_other xs k n x d (λ e. eqb-false (suc n) (suc k) t (ap suc e)))

pub table_set : {A : Type 0} (d x : A) (xs : List A) (c : ℕ) → 1 ≤ c → c - 1 < length xs → table d (set xs (c - 1) x) ≡ put c x (table d xs)
table_set d x xs c h lt = fun_ext (λ n. set_at d x xs (c - 1) n lt) ∙ ap (λ k. put k x (table d xs)) (sym (place c h))

pub table_at : {A : Type 0} (d : A) (xs : List A) (c : ℕ) → 1 ≤ c → table d xs c ≡ get_or xs (c - 1) d
table_at d xs c h = ap (table d xs) (place c h)
