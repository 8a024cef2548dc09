-- To match is to be alike: each identifier matches itself, and one that matches a second matches what that one does.
use Rattle.std.specs.Prelude.{◌≡◌, ℕ, Bool, true, false, cond, ◌==◌, nat_eq, refl}
use Rattle.std.proofs.Common.{sym, ap, ◌∙◌, arith}
use Rattle.std.proofs.lemmas.Bool.{cond_both, eqb-true, eq-eqb}
use Rattle.resource.specs.Identifiers.{kind, private, without_version, matches}
use Rattle.resource.proofs.TableLemmas.{not_both}

same_kind : (i j : ℕ) → without_version i ≡ without_version j → private i ≡ private j
same_kind i j e = ap (λ k. nat_eq k 3) (let same : kind i ≡ kind j = omega arith in same)

-- what a match tells: all but the version is equal, and of private ones all is
matches_means : (i j : ℕ) → matches i j ≡ true → (without_version i ≡ without_version j) × (private i ≡ true → i ≡ j)
matches_means i j e = go (private i) refl e
  where
    go : (b : Bool) → private i ≡ b → cond b (i == j) (without_version i == without_version j) ≡ true → (without_version i ≡ without_version j) × (private i ≡ true → i ≡ j)
    go true f g = (ap without_version (eqb-true i j g), λ _. eqb-true i j g)
    go false f g = (eqb-true (without_version i) (without_version j) g, λ h. not_both (private i) h f)

matches_from : (i j : ℕ) → without_version i ≡ without_version j → (private i ≡ true → i ≡ j) → matches i j ≡ true
matches_from i j q h = cond_both (private i) (i == j) (without_version i == without_version j) (λ y. y ≡ true) (λ e. eq-eqb i j (h e)) (λ _. eq-eqb (without_version i) (without_version j) q)

pub matches_self : (i : ℕ) → matches i i ≡ true
matches_self i = matches_from i i refl (λ _. refl)

pub matches_back : (i j : ℕ) → matches i j ≡ true → matches j i ≡ true
matches_back i j e =
    let k = matches_means i j e in
    matches_from j i (sym k.0) (λ h. sym (k.1 (same_kind i j k.0 ∙ h)))

pub matches_on : (i j k : ℕ) → matches i j ≡ true → matches j k ≡ true → matches i k ≡ true
matches_on i j k e f =
    let a = matches_means i j e in
    let b = matches_means j k f in
    matches_from i k (a.0 ∙ b.0) (λ h. a.1 h ∙ b.1 (sym (same_kind i j a.0) ∙ h))
