-- The list of a pair: what it has, what it finds, and that no two of it match.
use Rattle.std.specs.Prelude.{◌≡◌, ℕ, Bool, true, false, cond, not, ◌&&◌, ◌||◌, List, [], ◌∷◌, ◌++◌, is_some, Some, None, ◌==◌, nat_le, refl}
use Rattle.std.proofs.Common.{sym, ap, ◌∙◌}
use Rattle.std.proofs.lemmas.Bool.{cond_both, eqb-true, eq-eqb, or_left, or_right}
use Rattle.resource.specs.Identifiers.{matches, first_match, is_listed, NoTwoMatch}
use Rattle.resource.specs.NumberTables.{session_limit}
use Rattle.resource.specs.Lawful.{nameable}
use Rattle.standard.specs.PairMeaning.{has_match, unmatched}
use Rattle.standard.specs.Matching.{matches_self, matches_back, matches_on}
use Rattle.resource.proofs.TableLemmas.{no_some, not_both}

-- what matches a listed one has a match
member_ours : (js : List ℕ) (i k : ℕ) → is_listed js i ≡ true → matches i k ≡ true → has_match js k ≡ true
member_ours [] i k e m = not_both false e refl
member_ours (j ∷ js) i k e m = go (matches j k) refl (i == j) refl e (λ h. member_ours js i k h m)
  where
    go : (b : Bool) → matches j k ≡ b → (d : Bool) → (i == j) ≡ d → (d || is_listed js i) ≡ true → (is_listed js i ≡ true → has_match js k ≡ true) → is_some (cond b (Some j) (first_match js k)) ≡ true
    go true f d g h next = refl
    go false f true g h next = not_both (matches j k) (rw (← eqb-true i j g) m) f
    go false f false g h next = next h

listed_ours : (js : List ℕ) (i : ℕ) → is_listed js i ≡ true → has_match js i ≡ true
listed_ours js i e = member_ours js i i e (matches_self i)

lists_append : (js ks : List ℕ) (i : ℕ) → is_listed (js ++ ks) i ≡ (is_listed js i || is_listed ks i)
lists_append [] ks i = refl
lists_append (j ∷ js) ks i = elim (i == j) as (λ b. (b || is_listed (js ++ ks) i) ≡ ((b || is_listed js i) || is_listed ks i)) [ true ↦ refl | false ↦ lists_append js ks i ]

lists_beside : (js ks : List ℕ) (i : ℕ) → is_listed (unmatched js ks) i ≡ (not (has_match js i) && is_listed ks i)
lists_beside js [] i = elim (has_match js i) as (λ b. false ≡ (not b && false)) [ true ↦ refl | false ↦ refl ]
lists_beside js (k ∷ ks) i = go (has_match js k) (has_match js i) (i == k) refl (λ e. ap (has_match js) (eqb-true i k e)) (lists_beside js ks i)
  where
    go : (b o d : Bool) → (i == k) ≡ d → (d ≡ true → o ≡ b) → is_listed (unmatched js ks) i ≡ (not o && is_listed ks i) → is_listed (cond b (unmatched js ks) (k ∷ unmatched js ks)) i ≡ (not o && (d || is_listed ks i))
    go true true true t h e = e
    go true false true t h e = not_both false (h refl) refl
    go true o false t h e = e
    go false true true t h e = not_both true refl (h refl)
    go false false true t h e = rw t
    go false o false t h e = rw t e

-- the list of a pair has what the first lists, or what the second does if it has no match in the first
pub lists_pair : (js ks : List ℕ) (i : ℕ) → is_listed (js ++ unmatched js ks) i ≡ cond (has_match js i) (is_listed js i) (is_listed ks i)
lists_pair js ks i = lists_append js (unmatched js ks) i ∙ ap (λ b. is_listed js i || b) (lists_beside js ks i) ∙ go (has_match js i) (is_listed js i) (listed_ours js i)
  where
    go : (o a : Bool) → (a ≡ true → o ≡ true) → (a || (not o && is_listed ks i)) ≡ cond o a (is_listed ks i)
    go true true h = refl
    go true false h = refl
    go false true h = not_both false (h refl) refl
    go false false h = refl

pub nameable_pair : (js ks : List ℕ) (slot i n : ℕ) → nameable (js ++ unmatched js ks) slot i n ≡ cond (has_match js i) (nameable js slot i n) (nameable ks slot i n)
nameable_pair js ks slot i n = ap (λ b. nat_le slot 3 && b && nat_le 1 n && nat_le n session_limit) (lists_pair js ks i) ∙ go (has_match js i)
  where
    go : (o : Bool) → (nat_le slot 3 && cond o (is_listed js i) (is_listed ks i) && nat_le 1 n && nat_le n session_limit) ≡ cond o (nameable js slot i n) (nameable ks slot i n)
    go true = refl
    go false = refl

-- no two identifiers of the pair's list match
found_append : (js ks : List ℕ) (i : ℕ) → first_match js i ≡ None → first_match ks i ≡ None → first_match (js ++ ks) i ≡ None
found_append [] ks i e f = f
found_append (j ∷ js) ks i e f = go (matches j i) e (λ g. found_append js ks i g f)
  where
    go : (b : Bool) → cond b (Some j) (first_match js i) ≡ None → (first_match js i ≡ None → first_match (js ++ ks) i ≡ None) → cond b (Some j) (first_match (js ++ ks) i) ≡ None
    go true g next = no_some j (sym g)
    go false g next = next g

found_beside : (js ks : List ℕ) (i : ℕ) → first_match ks i ≡ None → first_match (unmatched js ks) i ≡ None
found_beside js [] i e = refl
found_beside js (k ∷ ks) i e = go (has_match js k) (matches k i) refl e (found_beside js ks i)
  where
    go : (o b : Bool) → matches k i ≡ b → cond b (Some k) (first_match ks i) ≡ None → (first_match ks i ≡ None → first_match (unmatched js ks) i ≡ None) → first_match (cond o (unmatched js ks) (k ∷ unmatched js ks)) i ≡ None
    go o true t g next = no_some k (sym g)
    go true false t g next = next g
    go false false t g next = rw t (next g)

found_across : (js ks : List ℕ) (j : ℕ) → is_listed js j ≡ true → first_match (unmatched js ks) j ≡ None
found_across js [] j h = refl
found_across js (k ∷ ks) j h = go (has_match js k) refl (matches k j) refl (found_across js ks j h)
  where
    go : (o : Bool) → has_match js k ≡ o → (b : Bool) → matches k j ≡ b → first_match (unmatched js ks) j ≡ None → first_match (cond o (unmatched js ks) (k ∷ unmatched js ks)) j ≡ None
    go true e b t next = next
    go false e true t next = not_both (has_match js k) (member_ours js j k h (matches_back k j t)) e
    go false e false t next = rw t next

apart_beside : (js ks : List ℕ) → NoTwoMatch ks → NoTwoMatch (unmatched js ks)
apart_beside js [] a = tt
apart_beside js (k ∷ ks) a = cond_both (has_match js k) (unmatched js ks) (k ∷ unmatched js ks) NoTwoMatch (λ _. apart_beside js ks a.1) (λ _. (found_beside js ks k a.0, apart_beside js ks a.1))

apart_append : (js ks : List ℕ) → NoTwoMatch js → NoTwoMatch ks → ((j : ℕ) → is_listed js j ≡ true → first_match ks j ≡ None) → NoTwoMatch (js ++ ks)
apart_append [] ks a b h = b
apart_append (j ∷ js) ks a b h =
    (found_append js ks j a.0 (h j (or_left (j == j) (is_listed js j) (eq-eqb j j refl))), apart_append js ks a.1 b (λ i e. h i (or_right (i == j) (is_listed js i) e)))

pub apart_pair : (js ks : List ℕ) → NoTwoMatch js → NoTwoMatch ks → NoTwoMatch (js ++ unmatched js ks)
apart_pair js ks a b = apart_append js (unmatched js ks) a (apart_beside js ks b) (found_across js ks)

-- the pair finds what the first finds, or else what the second does
ours_on : (js : List ℕ) (k i : ℕ) → has_match js k ≡ true → matches k i ≡ true → has_match js i ≡ true
ours_on [] k i e m = not_both false e refl
ours_on (j ∷ js) k i e m = go (matches j i) refl (matches j k) refl e (λ h. ours_on js k i h m)
  where
    go : (b : Bool) → matches j i ≡ b → (d : Bool) → matches j k ≡ d → is_some (cond d (Some j) (first_match js k)) ≡ true → (has_match js k ≡ true → has_match js i ≡ true) → is_some (cond b (Some j) (first_match js i)) ≡ true
    go true f d g h next = refl
    go false f true g h next = not_both (matches j i) (matches_on j k i g m) f
    go false f false g h next = next h

beside_finds : (js ks : List ℕ) (i : ℕ) → has_match js i ≡ false → first_match (unmatched js ks) i ≡ first_match ks i
beside_finds js [] i e = refl
beside_finds js (k ∷ ks) i e = go (has_match js k) refl (matches k i) refl (beside_finds js ks i e)
  where
    go : (o : Bool) → has_match js k ≡ o → (b : Bool) → matches k i ≡ b → first_match (unmatched js ks) i ≡ first_match ks i → first_match (cond o (unmatched js ks) (k ∷ unmatched js ks)) i ≡ cond b (Some k) (first_match ks i)
    go true f true g next = not_both (has_match js i) (ours_on js k i f g) e
    go true f false g next = next
    go false f b g next = rw g (ap (cond b (Some k)) next)

append_finds : (js ks : List ℕ) (i : ℕ) → first_match (js ++ ks) i ≡ cond (has_match js i) (first_match js i) (first_match ks i)
append_finds [] ks i = refl
append_finds (j ∷ js) ks i = elim (matches j i) as (λ b. cond b (Some j) (first_match (js ++ ks) i) ≡ cond (is_some (cond b (Some j) (first_match js i))) (cond b (Some j) (first_match js i)) (first_match ks i)) [ true ↦ refl | false ↦ append_finds js ks i ]

pub pair_finds : (js ks : List ℕ) (i : ℕ) → first_match (js ++ unmatched js ks) i ≡ cond (has_match js i) (first_match js i) (first_match ks i)
pair_finds js ks i = append_finds js (unmatched js ks) i ∙ go (has_match js i) refl
  where
    go : (o : Bool) → has_match js i ≡ o → cond o (first_match js i) (first_match (unmatched js ks) i) ≡ cond o (first_match js i) (first_match ks i)
    go true e = refl
    go false e = beside_finds js ks i e

-- of two identifiers with a match in the first and without, one is not the other
not_one : (js : List ℕ) (i j : ℕ) (x : Bool) → has_match js i ≡ x → has_match js j ≡ not x → (j == i) ≡ false
not_one js i j x e f = cond_both (j == i) true false (λ y. (j == i) ≡ false) (λ t. go x (sym e ∙ ap (has_match js) (sym (eqb-true j i t)) ∙ f)) (λ t. t)
  where
    go : (b : Bool) → b ≡ not b → (j == i) ≡ false
    go true h = not_both true refl h
    go false h = not_both true refl (sym h)

pub not_added : (js : List ℕ) (i j : ℕ) (x y z : Bool) → has_match js i ≡ x → has_match js j ≡ not x → z ≡ ((y && j == i) || z)
not_added js i j x y z e f = rw (not_one js i j x e f) (elim y as (λ b. z ≡ ((b && false) || z)) [ true ↦ refl | false ↦ refl ])

pub not_taken : (js : List ℕ) (i j : ℕ) (x y z : Bool) → has_match js i ≡ x → has_match js j ≡ not x → z ≡ (not (y && j == i) && z)
not_taken js i j x y z e f = rw (not_one js i j x e f) (elim y as (λ b. z ≡ (not (b && false) && z)) [ true ↦ refl | false ↦ refl ])
