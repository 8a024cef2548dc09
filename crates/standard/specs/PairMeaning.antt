-- A pair of resources: the first of the two that has a match serves.
use Rattle.std.specs.Prelude.{ℕ, ◌+◌, Bool, true, false, if◌then◌else◌, List, [], ◌∷◌, ◌++◌, is_some}
use Rattle.resource.specs.Identifiers.{first_match}
use Rattle.resource.specs.Meaning.{Meaning, Outcome, outcome}

-- whether an identifier has a match in a list
abbrev pub has_match : List ℕ → ℕ → Bool
has_match js i = is_some (first_match js i)

-- those of a second list that have none in the first
abbrev pub unmatched : List ℕ → List ℕ → List ℕ
unmatched js [] = []
unmatched js (k ∷ ks) = if has_match js k then unmatched js ks else k ∷ unmatched js ks

-- the share of one of the two is changed
abbrev pub on_side : {A B : Type 0} → Bool → (A → A) → (B → B) → A × B → A × B
on_side true f g s = (f s.0, s.1)
on_side false f g s = (s.0, g s.1)

abbrev pub answers_on : {A B : Type 0} → Bool → (A → Outcome A) → (B → Outcome B) → A × B → Outcome (A × B)
answers_on true f g s = outcome (f s.0).reaction ((f s.0).left, s.1)
answers_on false f g s = outcome (g s.1).reaction (s.0, (g s.1).left)

-- its meaning, of anything that holds two resources; its list is the first's, then those of the second that match none of these
module _ {S T U : Type 0} (one : U → S) (two : U → T) (M : Meaning S) (N : Meaning T) where
  abbrev pub pair_of : Meaning U
  pair_of = record {
    Made = M.Made × N.Made;
    Share = M.Share × N.Share;
    made = λ u. (M.made (one u), N.made (two u));
    share = λ u slot. (M.share (one u) slot, N.share (two u) slot);
    listed = λ m. M.listed m.0 ++ unmatched (M.listed m.0) (N.listed m.1);
    holds = λ m s n i. if has_match (M.listed m.0) i then M.holds m.0 s.0 n i else N.holds m.1 s.1 n i;
    beginning = λ m t. (M.beginning m.0 t, N.beginning m.1 t);
    ready = λ m slot i s. if has_match (M.listed m.0) i then M.ready m.0 slot i s.0 else N.ready m.1 slot i s.1;
    greeting = λ m i. if has_match (M.listed m.0) i then M.greeting m.0 i else N.greeting m.1 i;
    count = λ m slot s. M.count m.0 slot s.0 + N.count m.1 slot s.1;
    opened = λ m slot i n s. on_side (has_match (M.listed m.0) i) (M.opened m.0 slot i n) (N.opened m.1 slot i n) s;
    closed = λ m slot i n s. on_side (has_match (M.listed m.0) i) (M.closed m.0 slot i n) (N.closed m.1 slot i n) s;
    object = λ m slot i n a s. answers_on (has_match (M.listed m.0) i) (M.object m.0 slot i n a) (N.object m.1 slot i n a) s;
    gone = λ m slot s. (M.gone m.0 slot s.0, N.gone m.1 slot s.1);
    told = λ m t s. (M.told m.0 t s.0, N.told m.1 t s.1);
  }
