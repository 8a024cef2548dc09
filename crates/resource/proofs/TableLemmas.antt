-- Tables with the entry of one number changed, and small facts on tests and options.
use Rattle.std.specs.Prelude.{◌≡◌, ℕ, Bool, true, false, cond, ◌&&◌, List, [], ◌∷◌, Some, None, ◌==◌, refl}
use Rattle.std.proofs.Common.{sym, ap, ◌∙◌, arith}
use Rattle.std.proofs.Math.Path.{fun_ext}
use Rattle.std.proofs.lemmas.Bool.{cond_both, cond-true, cond-false, eqb-true, eq-eqb, and_parts, true≢false}
use Rattle.resource.specs.NumberTables.{put, first}

pub put_cases : {A : Type 0} (P : A → Type 0) (c k : ℕ) (a : A) (f : ℕ → A) → ((k == c) ≡ true → P a) → ((k == c) ≡ false → P (f k)) → P (put c a f k)
put_cases P c k a f = cond_both (k == c) a (f k) P

pub put_at : {A : Type 0} (c : ℕ) (a : A) (f : ℕ → A) → put c a f c ≡ a
put_at c a f = cond-true (c == c) a (f c) (eq-eqb c c refl)

pub put_off : {A : Type 0} (c k : ℕ) (a : A) (f : ℕ → A) → (k == c) ≡ false → put c a f k ≡ f k
put_off c k a f = cond-false (k == c) a (f k)

pub put_same : {A : Type 0} (c : ℕ) (a : A) (f : ℕ → A) → a ≡ f c → put c a f ≡ f
put_same c a f e = fun_ext (λ k. put_cases (λ v. v ≡ f k) c k a f (λ t. e ∙ ap f (sym (eqb-true k c t))) (λ _. refl))

pub put_put : {A : Type 0} (c : ℕ) (a b : A) (f : ℕ → A) → put c a (put c b f) ≡ put c a f
put_put c a b f = fun_ext (λ k. elim (k == c) as (λ t. cond t a (cond t b (f k)) ≡ cond t a (f k)) [ true ↦ refl | false ↦ refl ])

pub put_map : {A B : Type 0} (g : A → B) (c : ℕ) (a : A) (f : ℕ → A) → ◌≡◌ {A = ℕ → B} (λ k. g (put c a f k)) (put c (g a) (λ k. g (f k)))
put_map g c a f = fun_ext (λ k. elim (k == c) as (λ t. g (cond t a (f k)) ≡ cond t (g a) (g (f k))) [ true ↦ refl | false ↦ refl ])

pub no_some : {A B : Type 0} (a : A) → None ≡ Some a → B
no_some a e = (let z : ◌≡◌ {A = ℕ} 0 1 = cc in absurd (omega arith))

pub not_both : {B : Type 0} (t : Bool) → t ≡ true → t ≡ false → B
not_both t e f = absurd (true≢false (sym e ∙ f))

-- a number that a list is found to have passes any test that the whole list passes
abbrev pub every : (ℕ → Bool) → List ℕ → Bool
every q [] = true
every q (n ∷ ns) = q n && every q ns

pub first_every : (p q : ℕ → Bool) (ns : List ℕ) (n : ℕ) → first p ns ≡ Some n → every q ns ≡ true → q n ≡ true
first_every p q [] n e h = no_some n e
first_every p q (m ∷ ns) n e h = go (p m) e (and_parts (q m) (every q ns) h) (first_every p q ns n)
  where
    go : (b : Bool) → cond b (Some m) (first p ns) ≡ Some n → (q m ≡ true) × (every q ns ≡ true) → (first p ns ≡ Some n → every q ns ≡ true → q n ≡ true) → q n ≡ true
    go true f k next = (let same : m ≡ n = cc in rw (← same) k.0)
    go false f k next = next f k.1

pub first_passes : (p : ℕ → Bool) (ns : List ℕ) (n : ℕ) → first p ns ≡ Some n → p n ≡ true
first_passes p [] n e = no_some n e
first_passes p (m ∷ ns) n e = go (p m) refl e (first_passes p ns n)
  where
    go : (b : Bool) → p m ≡ b → cond b (Some m) (first p ns) ≡ Some n → (first p ns ≡ Some n → p n ≡ true) → p n ≡ true
    go true t f next = (let same : m ≡ n = cc in rw (← same) t)
    go false t f next = next f
