-- The number that a session gets: it is free, and from 1 to 16.
use Rattle.std.proofs.Common.{◌≡◌, ℕ, Bool, true, false, cond, not, ◌&&◌, eqb, leb, List, [], ◌∷◌, is_some, Some, None, Option, refl, ap}
use mathlib.Core.Path.{fun_ext}
use Rattle.std.proofs.lemmas.Bool.{eq-eqb, or_left, or_right}
use Rattle.resource.specs.NumberTables.{session_limit, session_numbers, first}
use Rattle.resource.specs.Identifiers.{first_match, is_listed, matches}
use Rattle.resource.proofs.TableLemmas.{no_some, not_both, first_every, first_passes}
use Rattle.protocol.specs.declared.state.SessionRow.{SessionRow}
use Rattle.protocol.specs.SlotRecord.{first_free_number}
use Rattle.protocol.specs.HostLaws.{ledger_session}

-- what is found is listed
pub found_listed : (js : List ℕ) (i j : ℕ) → first_match js i ≡ Some j → is_listed js j ≡ true
found_listed [] i j e = no_some j e
found_listed (k ∷ js) i j e = go (matches k i) e (found_listed js i j)
  where
    go : (b : Bool) → cond b (Some k) (first_match js i) ≡ Some j → (first_match js i ≡ Some j → is_listed js j ≡ true) → is_listed (k ∷ js) j ≡ true
    go true f next = (let same : j ≡ k = cc in or_left (eqb j k) (is_listed js j) (eq-eqb j k same))
    go false f next = or_right (eqb j k) (is_listed js j) (next f)

none_there : {A : Type 0} (x : Option A) → not (is_some x) ≡ true → x ≡ None
none_there None h = refl
none_there (Some a) h = not_both false h refl

pub free_none : {A : Type 0} (rows : ℕ → Option A) (n : ℕ) → first_free_number rows ≡ Some n → rows n ≡ None
free_none rows n e = none_there (rows n) (first_passes (λ k. not (is_some (rows k))) session_numbers n e)

pub free_within : {A : Type 0} (rows : ℕ → Option A) (n : ℕ) → first_free_number rows ≡ Some n → (leb 1 n && leb n session_limit) ≡ true
unfolding session_numbers
free_within rows n e = first_every (λ k. not (is_some (rows k))) (λ k. leb 1 k && leb k session_limit) session_numbers n e refl

pub free_numbered : {A : Type 0} (rows : ℕ → Option A) (n : ℕ) → first_free_number rows ≡ Some n → is_listed session_numbers n ≡ true
unfolding session_numbers
free_numbered rows n e = first_every (λ k. not (is_some (rows k))) (is_listed session_numbers) session_numbers n e refl

-- a row is there where the ledger has a session
pub same_some : (x : Option SessionRow) → is_some x ≡ is_some (ledger_session x)
same_some None = refl
same_some (Some r) = refl

pub free_same : (rows : ℕ → Option SessionRow) → first_free_number rows ≡ first_free_number (λ n. ledger_session (rows n))
free_same rows = ap (λ f. first f session_numbers) (fun_ext (λ n. ap not (same_some (rows n))))
