-- Bytes written into a slice behind those that stand there.
use Rattle.std.proofs.Common.{◌≡◌, ℕ, ◌+◌, ◌≤◌, List, [], ◌++◌, length, take, drop, Ok, Result, sym, ap, ◌∙◌, arith}
use Rattle.std.proofs.lemmas.List.{append-nil, append_assoc, length-append, length-take-le, length-drop, take_at, drop_at, drop-drop, take-append-drop}
use Rattle.std.proofs.lemmas.Bool.{le-leb}
use Rattle.wire.specs.declared.writer.WriteFault.{WriteFault}
use Rattle.wire.specs.Writing.{write_front}
use Rattle.wire.specs.LpduWriting.{behind}

-- the part of the slice from an offset on got them
pub put_behind : (xs out part : List ℕ) (at : ℕ) (r : Result ℕ WriteFault) → at + length xs ≤ length out → write_front xs (drop at out) ≡ (r, part) → take at out ++ part ≡ behind at xs out
put_behind xs out part at r fits e =
    let room : length xs ≤ length (drop at out) = omega (arith, length-drop at out) in
    let is : xs ++ drop (length xs) (drop at out) ≡ part = rw (le-leb (length xs) (length (drop at out)) room) at (ap (λ z. z.1) e) in
    rw (← is, drop-drop (length xs) at out)

pub take_behind : (xs out : List ℕ) (at n : ℕ) → at ≤ length out → n ≡ at + length xs → take n (behind at xs out) ≡ take at out ++ xs
take_behind xs out at n le e =
    ap (take n) (sym (append_assoc (take at out) xs (drop (at + length xs) out)))
    ∙ take_at (take at out ++ xs) (drop (at + length xs) out) n (omega (arith, length-append (take at out) xs, length-take-le at out le))

pub drop_behind : (xs out : List ℕ) (at n : ℕ) → at ≤ length out → n ≡ at + length xs → drop n (behind at xs out) ≡ drop n out
drop_behind xs out at n le e =
    ap (drop n) (sym (append_assoc (take at out) xs (drop (at + length xs) out)))
    ∙ drop_at (take at out ++ xs) (drop (at + length xs) out) n (omega (arith, length-append (take at out) xs, length-take-le at out le))
    ∙ ap (λ k. drop k out) (sym e)

pub length_behind : (xs out : List ℕ) (at : ℕ) → at + length xs ≤ length out → length (behind at xs out) ≡ length out
length_behind xs out at fits =
    let front = length-take-le at out (omega arith) in
    let back = length-drop (at + length xs) out in
    let middle = length-append xs (drop (at + length xs) out) in
    let all = length-append (take at out) (xs ++ drop (at + length xs) out) in
    omega (arith, front, back, middle, all)

-- the next bytes of those that are to stand at the front, where all of these fit
pub next_fits : (xs rest all out : List ℕ) (at : ℕ) → at ≤ length out → take at out ++ (xs ++ rest) ≡ all → length all ≤ length out → at + length xs ≤ length out
next_fits xs rest all out at le is room =
    omega (arith, ap length is, length-append (take at out) (xs ++ rest), length-append xs rest, length-take-le at out le)

pub record Goes_on (rest all out was : List ℕ) (at : ℕ) : Type 0 where
  pub front : take at out ++ rest ≡ all
  pub back : drop at out ≡ drop at was
  pub inside : at ≤ length out

pub next_written : (xs rest all out was : List ℕ) (at n : ℕ) → n ≡ at + length xs → Goes_on (xs ++ rest) all out was at → length all ≤ length out → Goes_on rest all (behind at xs out) was n
next_written xs rest all out was at n e g room =
    let fits = next_fits xs rest all out at g.inside g.front room in
    let same : drop n out ≡ drop n was = ap (λ k. drop k out) e ∙ sym (drop-drop (length xs) at out) ∙ ap (drop (length xs)) g.back ∙ drop-drop (length xs) at was ∙ ap (λ k. drop k was) (sym e) in
    record {
      front = ap (λ ys. ys ++ rest) (take_behind xs out at n g.inside e) ∙ append_assoc (take at out) xs rest ∙ g.front;
      back = drop_behind xs out at n g.inside e ∙ same;
      inside = omega (arith, length_behind xs out at fits);
    }

-- nothing is left to write
pub all_written : (all out was : List ℕ) (at n : ℕ) → length all ≤ length was → n ≡ at → Goes_on [] all out was at → write_front all was ≡ (Ok n, out)
all_written all out was at n room e g =
    let whole : take at out ≡ all = sym (append-nil (take at out)) ∙ g.front in
    let long : length all ≡ at = sym (ap length whole) ∙ length-take-le at out g.inside in
    let is : all ++ drop at was ≡ out = ap (λ xs. xs ++ drop at was) (sym whole) ∙ ap (λ ys. take at out ++ ys) (sym g.back) ∙ take-append-drop at out in
    rw (le-leb (length all) (length was) room, long, is, e)
