-- The first word of a text, and those after it.
use Rattle.std.proofs.Common.{◌≡◌, ℕ, suc, ◌+◌, Bool, true, false, not, cond, List, [], ◌∷◌, length, take, drop, sym, ap, refl, ◌∙◌, arith, nat_lt, ◌==◌}
use Rattle.std.proofs.lemmas.Bool.Decides.{nat_tests}
use Rattle.std.proofs.lemmas.List.Folds.{length-prefix_len}
use Rattle.std.specs.List.{filter, slice_split, onto_first, prefix_len, take_while}
use Rattle.text.specs.Words.{is_blank, words}

abbrev some : List ℕ → Bool
some w = nat_lt 0 (length w)

-- another character than a blank
abbrev pub in_word : ℕ → Bool
in_word c = not (is_blank c)

drop_more : (n c : ℕ) (t : List ℕ) → drop (1 + n) (c ∷ t) ≡ drop n t
drop_more n c t = let e : 1 + n ≡ suc n = omega arith in ap (λ k. drop k (c ∷ t)) e

take_more : (n c : ℕ) (t : List ℕ) → take (1 + n) (c ∷ t) ≡ c ∷ take n t
take_more n c t = let e : 1 + n ≡ suc n = omega arith in ap (λ k. take k (c ∷ t)) e

abbrev pub begun : List ℕ → List ℕ
begun t = drop (prefix_len is_blank t) t

abbrev one_more : Bool → ℕ → List ℕ → List (List ℕ)
one_more b c t = cond b ([] ∷ slice_split is_blank t) (onto_first c (slice_split is_blank t))

begun_cons : (b : Bool) (c : ℕ) (t : List ℕ) → is_blank c ≡ b → words (begun t) ≡ words t → words (drop (cond b (1 + prefix_len is_blank t) 0) (c ∷ t)) ≡ filter some (one_more b c t)
begun_cons true c t e h = ap words (drop_more (prefix_len is_blank t) c t) ∙ h
begun_cons false c t e h = ap (λ b. filter some (one_more b c t)) e

-- blanks before a text change no word
pub words-begun : (t : List ℕ) → words (begun t) ≡ words t
words-begun [] = refl
words-begun (c ∷ t) = begun_cons (is_blank c) c t refl (words-begun t)

stops_cons : (b : Bool) (c : ℕ) (t : List ℕ) → is_blank c ≡ b → (prefix_len in_word (begun t) ≡ 0 → begun t ≡ []) → prefix_len in_word (drop (cond b (1 + prefix_len is_blank t) 0) (c ∷ t)) ≡ 0 → drop (cond b (1 + prefix_len is_blank t) 0) (c ∷ t) ≡ []
stops_cons true c t e h z = let d = drop_more (prefix_len is_blank t) c t in d ∙ h (ap (prefix_len in_word) (sym d) ∙ z)
stops_cons false c t e h z = let bad : 1 + prefix_len in_word t ≡ 0 = ap (λ b. cond (not b) (1 + prefix_len in_word t) 0) (sym e) ∙ z in let no : ⊥ = omega (arith, bad) in absurd no

-- where no word begins, nothing is left
pub begun_stops : (t : List ℕ) → prefix_len in_word (begun t) ≡ 0 → begun t ≡ []
begun_stops [] z = refl
begun_stops (c ∷ t) z = stops_cons (is_blank c) c t refl (begun_stops t) z

-- the parts of a text: its first, and those whose words stand in the rest
record Parts (n : ℕ) (u : List ℕ) (all : List (List ℕ)) : Type 0 where
  more : List (List ℕ)
  parted : all ≡ take n u ∷ more
  same : filter some more ≡ words (drop n u)

abbrev parts_of : List ℕ → Type 0
parts_of u = Parts (prefix_len in_word u) u (slice_split is_blank u)

parts_cons : (b : Bool) (c : ℕ) (u : List ℕ) → is_blank c ≡ b → parts_of u → Parts (cond (not b) (1 + prefix_len in_word u) 0) (c ∷ u) (one_more b c u)
parts_cons true c u e p = record {
  more = slice_split is_blank u;
  parted = refl;
  same = ap (λ b. filter some (one_more b c u)) (sym e);
}
parts_cons false c u e p = record {
  more = p.more;
  parted = ap (onto_first c) p.parted ∙ ap (λ w. w ∷ p.more) (sym (take_more (prefix_len in_word u) c u));
  same = p.same ∙ ap words (sym (drop_more (prefix_len in_word u) c u));
}

parts : (u : List ℕ) → parts_of u
parts [] = record { more = []; parted = refl; same = refl }
parts (c ∷ u) = parts_cons (is_blank c) c u refl (parts u)

kept : (w : List ℕ) (ws : List (List ℕ)) → (length w == 0) ≡ false → filter some (w ∷ ws) ≡ w ∷ filter some ws
kept [] ws h = cc
kept (c ∷ w) ws h = let e : some (c ∷ w) ≡ true = grind (arith, nat_tests) in rw e refl

-- a text without the blanks in front, its first word, and what is left
module _ (n m : ℕ) (t u w left : List ℕ) (blanks : n ≡ length (take_while is_blank t)) (begins : u ≡ drop n t) (letters : m ≡ length (take_while in_word u)) (front : w ≡ take m u) (back : left ≡ drop m u) where
  begins_so : u ≡ begun t
  begins_so = begins ∙ ap (λ k. drop k t) (blanks ∙ length-prefix_len is_blank t)

  long : m ≡ prefix_len in_word u
  long = letters ∙ length-prefix_len in_word u

  same : words t ≡ words u
  same = sym (words-begun t) ∙ ap words (sym begins_so)

  pub words-none : length w ≡ 0 → words t ≡ []
  words-none z =
      let none : prefix_len in_word u ≡ 0 = sym (length-prefix_len in_word u) ∙ ap (λ k. length (take k u)) (sym long) ∙ ap length (sym front) ∙ z in
      same ∙ ap words (begins_so ∙ begun_stops t (ap (prefix_len in_word) (sym begins_so) ∙ none))

  pub words-next : (length w == 0) ≡ false → words t ≡ w ∷ words left
  words-next some_w =
      let p = parts u in
      same ∙ ap (filter some) (p.parted ∙ ap (λ x. x ∷ p.more) (ap (λ k. take k u) (sym long) ∙ sym front)) ∙ kept w p.more some_w ∙ ap (λ ws. w ∷ ws) (p.same ∙ ap (λ k. words (drop k u)) (sym long) ∙ ap words (sym back))
