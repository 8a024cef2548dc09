-- Pieces one after another, and those of them that a loop has passed.
use Rattle.std.proofs.Common.{◌≡◌, ℕ, ◌+◌, ◌<◌, ◌≤◌, true, leb, List, [], ◌∷◌, ◌++◌, length, get_or, take, drop, sym, refl, ap, ◌∙◌, arith, Bor}
use borrow.Rule.Slice.PartMut.{put_mid}
use Rattle.std.proofs.lemmas.Bool.{leb-true}
use Rattle.std.specs.List.{flat_map}
use Rattle.std.proofs.lemmas.List.{append_assoc, length-append, take_more, take-append-drop, flat_map_more, take_at, drop-drop, drop_at}

-- what stands where there is no piece
abbrev pub no_piece : Bor (List ℕ)
no_piece = record { ref_ptr = (0, 0); now = [] }

module _ {X A : Type 0} (f : X → List A) where
  pub joined_append : (xs ys : List X) → flat_map f (xs ++ ys) ≡ flat_map f xs ++ flat_map f ys
  joined_append [] ys = refl
  joined_append (x ∷ xs) ys = ap (λ r. f x ++ r) (joined_append xs ys) ∙ sym (append_assoc (f x) (flat_map f xs) (flat_map f ys))

  pub joined_next : (xs : List X) (i : ℕ) (d : X) → i < length xs → flat_map f (take (i + 1) xs) ≡ flat_map f (take i xs) ++ f (get_or xs i d)
  joined_next xs i d lt = ap (flat_map f) (take_more xs i d lt) ∙ sym (flat_map_more f [] (take i xs) (get_or xs i d))

  pub length_next : (xs : List X) (i : ℕ) (d : X) → i < length xs → length (flat_map f (take (i + 1) xs)) ≡ length (flat_map f (take i xs)) + length (f (get_or xs i d))
  length_next xs i d lt = ap length (joined_next xs i d lt) ∙ length-append (flat_map f (take i xs)) (f (get_or xs i d))

  pub length_passed : (xs : List X) (i : ℕ) → length (flat_map f (take i xs)) ≤ length (flat_map f xs)
  length_passed xs i =
      let all = ap (λ ys. length (flat_map f ys)) (sym (take-append-drop i xs)) ∙ ap length (joined_append (take i xs) (drop i xs)) ∙ length-append (flat_map f (take i xs)) (flat_map f (drop i xs)) in
      omega arith

-- bytes at the front of a slice, and more of them written behind
pub more_written : (pre ys out now_out : List ℕ) (at n k : ℕ) → at ≡ length pre → n ≡ length ys → k ≡ n → at + n ≤ length out → now_out ≡ pre ++ drop at out → put_mid at k now_out ys ≡ (pre ++ ys) ++ drop (at + n) out
more_written pre ys out now_out at n k e m same fits is =
    rw (is, same, take_at pre (drop at out) at (sym e), drop_at pre (drop at out) at (sym e), drop-drop n at out) (sym (append_assoc pre ys (drop (at + n) out)))

-- the next piece fits where all do
pub next_fits : {X A : Type 0} (f : X → List A) (xs : List X) (i at room : ℕ) (d : X) → i < length xs → at ≡ length (flat_map f (take i xs)) → true ≡ leb (length (flat_map f xs)) room → at + length (f (get_or xs i d)) ≤ room
next_fits f xs i at room d lt e all =
    omega (arith, length_next f xs i d lt, length_passed f xs (i + 1), leb-true (length (flat_map f xs)) room (sym all))
