-- A line while it is read: what it holds, and what of the known bytes is left.
use Rattle.std.proofs.Common.{◌≡◌, ℕ, suc, ◌+◌, ◌-◌, ◌<◌, ◌≤◌, Bool, true, false, not, cond, if◌then◌else◌, List, [], ◌∷◌, ◌++◌, length, take, get_or, Option, Some, None, sym, ap, refl, ◌∙◌, arith, append_assoc, ◌==◌, length-append, length-take, length-take-le, nat_le}
use Rattle.std.specs.Bool.{⊤}
use Rattle.std.specs.List.{prefix_len, take_while}
use Rattle.std.specs.Io.BufRead.{drop_through}
use Rattle.std.specs.Io.Buffered.{reader_remaining}
use Rattle.std.specs.Io.KnownBytes.{Consumes}
use Rattle.std.proofs.lemmas.Bool.{ne_eqb, eqb-true}
use Rattle.std.proofs.lemmas.Bool.Decides.{nat_tests}
use Rattle.std.proofs.lemmas.List.{append-nil, take_all, take_at, take-append-le, take_more}
use Rattle.std.proofs.Math.Seq.{take-append-add}
use Rattle.std.proofs.lemmas.List.Folds.{length-prefix_len}
use Rattle.std.proofs.lemmas.List.Sums.{prefix_len_stops}
use Rattle.text.specs.Lines.{left, in_line, first_line, with_bytes, IsLine}
use Rattle.text.specs.declared.lines.Lines.{Lines}

-- with the bytes that are left the line is that of all the bytes; an empty one has taken none of them
pub record IsFront (limit : ℕ) (line all rest : List ℕ) : Type 0 where
  pub same : take (limit + 1) (first_line all) ≡ take (limit + 1) (line ++ first_line rest)
  pub after : drop_through 10 all ≡ drop_through 10 rest
  pub none : line ≡ [] → all ≡ rest

abbrev pub IsFrontKnown : ℕ → List ℕ → Option (List ℕ) → Option (List ℕ) → Type 0
IsFrontKnown limit line None new = ⊤
IsFrontKnown limit line (Some all) None = ⊥
IsFrontKnown limit line (Some all) (Some rest) = IsFront limit line all rest

-- how many pieces were still to come and how many now are: fewer once the line has a byte
pub record IsFewer (line : List ℕ) (old new : ℕ) : Type 0 where
  pub within : new ≤ old
  pub fewer : 0 < length line → new < old

pub record IsRead (limit : ℕ) (line : List ℕ) (old new : Option (List ℕ)) : Type 0 where
  pub small : length line ≤ limit + 1
  pub front : IsFrontKnown limit line old new

pub no_bytes : (line : List ℕ) → length line ≡ 0 → line ≡ []
no_bytes [] e = refl
no_bytes (c ∷ line) e = let bad : ⊥ = omega (arith, e) in absurd bad

first_cons : (test : Bool) (c : ℕ) (text : List ℕ) → (c == 10) ≡ test → first_line (c ∷ text) ≡ (if test then [] else c ∷ first_line text)
first_cons test c text e = ap (λ t. if t then [] else c ∷ first_line text) e

after_cons : (test : Bool) (c : ℕ) (text : List ℕ) → (c == 10) ≡ test → drop_through 10 (c ∷ text) ≡ (if test then text else drop_through 10 text)
after_cons test c text e = ap (λ t. if t then text else drop_through 10 text) e

-- bytes with no line feed, one by one
module _ (c : ℕ) (bytes : List ℕ) where
  head_so : (test : Bool) → (c == 10) ≡ test → (if test then [] else c ∷ first_line bytes) ≡ c ∷ bytes → ((c == 10) ≡ false) × (first_line bytes ≡ bytes)
  head_so true e h = cc
  head_so false e h = (e, cc)

  head : first_line (c ∷ bytes) ≡ c ∷ bytes → ((c == 10) ≡ false) × (first_line bytes ≡ bytes)
  head h = head_so (c == 10) refl h

first_line-append : (bytes rest : List ℕ) → first_line bytes ≡ bytes → first_line (bytes ++ rest) ≡ bytes ++ first_line rest
first_line-append [] rest h = refl
first_line-append (c ∷ bytes) rest h =
    let p = head c bytes h in
    first_cons false c (bytes ++ rest) p.0 ∙ ap (λ l. c ∷ l) (first_line-append bytes rest p.1)

drop_through-append : (bytes rest : List ℕ) → first_line bytes ≡ bytes → drop_through 10 (bytes ++ rest) ≡ drop_through 10 rest
drop_through-append [] rest h = refl
drop_through-append (c ∷ bytes) rest h =
    let p = head c bytes h in
    after_cons false c (bytes ++ rest) p.0 ∙ drop_through-append bytes rest p.1

take_cons : (n c : ℕ) (t : List ℕ) → take (1 + n) (c ∷ t) ≡ c ∷ take n t
take_cons n c t = let e : 1 + n ≡ suc n = omega arith in ap (λ k. take k (c ∷ t)) e

front_cons : (test : Bool) (c : ℕ) (t : List ℕ) → (c == 10) ≡ test → first_line (take (prefix_len in_line t) t) ≡ take (prefix_len in_line t) t → first_line (take (cond (not test) (1 + prefix_len in_line t) 0) (c ∷ t)) ≡ take (cond (not test) (1 + prefix_len in_line t) 0) (c ∷ t)
front_cons true c t e h = refl
front_cons false c t e h =
    let taken = take_cons (prefix_len in_line t) c t in
    ap first_line taken ∙ first_cons false c (take (prefix_len in_line t) t) e ∙ ap (λ l. c ∷ l) h ∙ sym taken

front : (text : List ℕ) → first_line (take (prefix_len in_line text) text) ≡ take (prefix_len in_line text) text
front [] = refl
front (c ∷ text) = front_cons (c == 10) c text refl (front text)

is_feed : (c : ℕ) (test : Bool) → (c == 10) ≡ test → not test ≡ false → c ≡ 10
is_feed c true e h = eqb-true c 10 e
is_feed c false e h = cc

-- the bytes before the first line feed, and that line feed
module _ (text : List ℕ) (n : ℕ) (counted : n ≡ length (take_while in_line text)) where
  counted_so : n ≡ prefix_len in_line text
  counted_so = counted ∙ length-prefix_len in_line text

  pub no_feed : first_line (take n text) ≡ take n text
  no_feed = rw counted_so (front text)

  pub then_feed : n < length text → take (n + 1) text ≡ take n text ++ 10 ∷ []
  then_feed more =
      let stops = prefix_len_stops in_line text 0 (rw (sym counted_so) more) in
      take_more text n 0 more ∙ ap (λ c. take n text ++ c ∷ []) (ap (λ k. get_or text k 0) counted_so ∙ is_feed (get_or text (prefix_len in_line text) 0) (get_or text (prefix_len in_line text) 0 == 10) refl stops)

take_nothing : (n : ℕ) → take {A = ℕ} n [] ≡ []
take_nothing n = no_bytes (take n []) (omega (arith, length-take {A = ℕ} n []))

pub nothing_more : (limit : ℕ) (line : List ℕ) → line ≡ with_bytes limit line []
nothing_more limit line = sym (ap (λ l. line ++ l) (take_nothing (limit + 1 - length line)) ∙ append-nil line)

take_front : (room : ℕ) (bytes p : List ℕ) (short : Bool) → nat_le (length bytes) room ≡ short → take room (bytes ++ p) ≡ take room (take room bytes ++ p)
take_front room bytes p true e = ap (λ b. take room (b ++ p)) (sym (take_all room bytes (grind (arith, nat_tests))))
take_front room bytes p false e =
    let long : room ≤ length bytes = grind (arith, nat_tests) in
    take-append-le room bytes p long ∙ sym (take_at (take room bytes) p room (length-take-le room bytes long))

past_line : (limit : ℕ) (line p : List ℕ) → length line ≤ limit + 1 → take (limit + 1) (line ++ p) ≡ line ++ take (limit + 1 - length line) p
past_line limit line p small =
    let reaches : limit + 1 ≡ length line + (limit + 1 - length line) = omega (arith, small) in
    ap (λ k. take k (line ++ p)) reaches ∙ take-append-add line p (limit + 1 - length line)

added : (limit : ℕ) (line bytes p : List ℕ) → length line ≤ limit + 1 → take (limit + 1) (line ++ (bytes ++ p)) ≡ take (limit + 1) (with_bytes limit line bytes ++ p)
added limit line bytes p small =
    let room = limit + 1 - length line in
    past_line limit line (bytes ++ p) small ∙ ap (λ l. line ++ l) (take_front room bytes p (nat_le (length bytes) room) refl) ∙ sym (past_line limit line (take room bytes ++ p) small) ∙ ap (take (limit + 1)) (sym (append_assoc line (take room bytes) p))

still_small : (limit : ℕ) (line bytes : List ℕ) → length line ≤ limit + 1 → length (with_bytes limit line bytes) ≤ limit + 1
still_small limit line bytes small = omega (arith, small, length-append line (take (limit + 1 - length line) bytes), length-take (limit + 1 - length line) bytes)

none_before : (limit : ℕ) (line bytes : List ℕ) → with_bytes limit line bytes ≡ [] → (line ≡ []) × (bytes ≡ [])
none_before limit line bytes e =
    let long = length-append line (take (limit + 1 - length line) bytes) in
    let cut = length-take (limit + 1 - length line) bytes in
    let zero : length (with_bytes limit line bytes) ≡ 0 = ap length e in
    (no_bytes line (omega (arith, long, zero)), no_bytes bytes (omega (arith, long, cut, zero)))

front_more : (limit : ℕ) (line all rest new bytes : List ℕ) → length line ≤ limit + 1 → first_line bytes ≡ bytes → IsFront limit line all rest → rest ≡ bytes ++ new → IsFront limit (with_bytes limit line bytes) all new
front_more limit line all rest new bytes small plain f h = record {
  same = f.same ∙ ap (λ t. take (limit + 1) (line ++ first_line t)) h ∙ ap (λ p. take (limit + 1) (line ++ p)) (first_line-append bytes new plain) ∙ added limit line bytes (first_line new) small;
  after = f.after ∙ ap (drop_through 10) h ∙ drop_through-append bytes new plain;
  none = λ z. let e = none_before limit line bytes z in f.none e.0 ∙ h ∙ ap (λ b. b ++ new) e.1;
}

known_more : (limit : ℕ) (line : List ℕ) (old now new : Option (List ℕ)) (bytes : List ℕ) → length line ≤ limit + 1 → first_line bytes ≡ bytes → IsFrontKnown limit line old now → Consumes now new bytes → IsFrontKnown limit (with_bytes limit line bytes) old new
known_more limit line None now new bytes small plain f h = tt
known_more limit line (Some all) None new bytes small plain f h = absurd f
known_more limit line (Some all) (Some rest) None bytes small plain f h = absurd h
known_more limit line (Some all) (Some rest) (Some last) bytes small plain f h = front_more limit line all rest last bytes small plain f h

pub more : (limit : ℕ) (line grown : List ℕ) (old now new : Option (List ℕ)) (bytes : List ℕ) → first_line bytes ≡ bytes → grown ≡ with_bytes limit line bytes → IsRead limit line old now → Consumes now new bytes → IsRead limit grown old new
more limit line grown old now new bytes plain e r h = rw e (record {
  small = still_small limit line bytes r.small;
  front = known_more limit line old now new bytes r.small plain r.front h;
})

whole : (limit : ℕ) (line all rest new bytes : List ℕ) → length line ≤ limit + 1 → first_line bytes ≡ bytes → IsFront limit line all rest → rest ≡ (bytes ++ 10 ∷ []) ++ new → (with_bytes limit line bytes ≡ take (limit + 1) (first_line all)) × (new ≡ drop_through 10 all)
whole limit line all rest new bytes small plain f h =
    let g = front_more limit line all rest (10 ∷ new) bytes small plain f (h ∙ append_assoc bytes (10 ∷ []) new) in
    let long = still_small limit line bytes small in
    let held = with_bytes limit line bytes in
    (sym (g.same ∙ ap (take (limit + 1)) (append-nil held) ∙ take_all (limit + 1) held long), sym g.after)

known_whole : (limit : ℕ) (line : List ℕ) (old now new : Option (List ℕ)) (bytes : List ℕ) → first_line bytes ≡ bytes → IsRead limit line old now → Consumes now new (bytes ++ 10 ∷ []) → IsLine limit old (with_bytes limit line bytes) new
known_whole limit line None now new bytes plain r h = (still_small limit line bytes r.small, tt)
known_whole limit line (Some all) None new bytes plain r h = absurd r.front
known_whole limit line (Some all) (Some rest) None bytes plain r h = absurd h
known_whole limit line (Some all) (Some rest) (Some last) bytes plain r h =
    let w = whole limit line all rest last bytes r.small plain r.front h in
    (still_small limit line bytes r.small, (w.0, ap Some w.1))

pub at_feed : (limit : ℕ) (line grown : List ℕ) (old now new : Option (List ℕ)) (bytes : List ℕ) → first_line bytes ≡ bytes → grown ≡ with_bytes limit line bytes → IsRead limit line old now → Consumes now new (bytes ++ 10 ∷ []) → IsLine limit old grown new
at_feed limit line grown old now new bytes plain e r h = rw e (known_whole limit line old now new bytes plain r h)

pub left_open : {R : Type 0} (remaining : R → Option (List ℕ)) (lines : Lines R) → (lines.turns ≡ 0 → ⊥) → left remaining lines ≡ reader_remaining remaining lines.input
left_open remaining lines h = ap (λ b. if b then (if lines.ended then Some [] else None) else reader_remaining remaining lines.input) (ne_eqb lines.turns 0 h)

pub one_fewer : (old now : ℕ) (line grown : List ℕ) → IsFewer line old now → 0 < now → IsFewer grown old (now - 1)
one_fewer old now line grown f some =
    let within : now ≤ old = f.within in
    record { within = omega (arith, some, within); fewer = λ l. omega (arith, some, within) }
