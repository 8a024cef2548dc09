-- A resource of one identifier is lawful, where what it says is in order.
use Rattle.std.specs.Prelude.{◌≡◌, ℕ, ◌+◌, Bool, true, false, cond, not, ◌&&◌, ◌||◌, leb, List, [], ◌∷◌, Some, None, ◌==◌, nat_le, refl, Ok, Err}
use Rattle.std.proofs.Common.{sym, ap, ◌∙◌, arith}
use Rattle.std.proofs.lemmas.Bool.{cond_both, eqb-true, eq-eqb, leb-true, and_parts, and_right, not-true, not-false}
use Rattle.wire.specs.declared.apdu.Apdu.{Apdu}
use Rattle.resource.specs.NumberTables.{put, session_limit, session_numbers, tally}
use Rattle.resource.specs.Identifiers.{is_listed}
use Rattle.resource.specs.ShortApdu.{IsShortApdu}
use Rattle.resource.specs.Meaning.{Meaning, Outcome, outcome}
use Rattle.resource.specs.Lawful.{Lawful, nameable, is_readiness, names, can_open, is_held}
use Rattle.standard.specs.SingleMeaning.{SingleShare, single_share, SingleRules, LawfulRules, single_of, noting}
use Rattle.resource.proofs.TableLemmas.{no_some, not_both}
use Rattle.resource.proofs.TallyLemmas.{tally_more, tally_fewer, tally_none}

-- the tests of a session's name: identifier, number from 1, number up to the limit, held
known_bits : (a l u h : Bool) → (a && l && u && h) ≡ true → ((a || false) && l && u) ≡ true
known_bits true true true h e = refl
known_bits true true false h e = e
known_bits true false u h e = e
known_bits false l u h e = e

added_bits : (a l u h d : Bool) → (d ≡ true → (l ≡ true) × (u ≡ true) × (h ≡ false)) → (a && l && u && cond d true h) ≡ ((true && d && a) || (a && l && u && h))
added_bits true l u h true f = (let k = f refl in rw (k.0, k.1))
added_bits false l u h true f = refl
added_bits a l u h false f = refl

taken_bits : (a l u h d : Bool) → (a && l && u && cond d false h) ≡ (not (true && d && a) && (a && l && u && h))
taken_bits true true true h true = refl
taken_bits true true false h true = refl
taken_bits true false u h true = refl
taken_bits false l u h true = refl
taken_bits a l u h false = refl

held_bits : (q d x y : Bool) → (q ≡ true → d ≡ true → x ≡ true → y ≡ true) → y ≡ ((q && d && x) || y)
held_bits true true true y h = h refl refl refl
held_bits true true false y h = refl
held_bits true false x y h = refl
held_bits false d x y h = refl

free_bits : (q d x y : Bool) → (q ≡ true → d ≡ true → x ≡ true → y ≡ false) → y ≡ (not (q && d && x) && y)
free_bits true true true y h = h refl refl refl
free_bits true true false y h = refl
free_bits true false x y h = refl
free_bits false d x y h = refl

-- what the tests tell of a slot, an identifier and a number that may name a session
record Named (id slot i n : ℕ) : Type 0 where
  placed : leb slot 3 ≡ true
  same : i ≡ id
  from : leb 1 n ≡ true
  to : leb n session_limit ≡ true

named : (id slot i n : ℕ) → nameable (id ∷ []) slot i n ≡ true → Named id slot i n
named id slot i n e =
    let x = and_parts _ (nat_le n session_limit) e in
    let y = and_parts _ (nat_le 1 n) x.0 in
    let z = and_parts (nat_le slot 3) _ y.0 in
    record { placed = z.0; same = eqb-true i id (go (i == id) z.1); from = y.1; to = x.1 }
  where
    go : (b : Bool) → (b || false) ≡ true → b ≡ true
    go true h = refl
    go false h = h

module _ {U : Type 0} (P : SingleRules) (made : U → P.Made) (share : U → ℕ → SingleShare P.Note) where
  abbrev whole : Meaning U
  whole = single_of P made share

  abbrev id : ℕ
  id = P.identifier

  abbrev holds : SingleShare P.Note → ℕ → ℕ → Bool
  holds s n i = i == id && nat_le 1 n && nat_le n session_limit && s.held n

  -- a session that these may name is held where its number is
  held_number : (slot i n : ℕ) (s : SingleShare P.Note) → Named id slot i n → holds s n i ≡ s.held n
  held_number slot i n s k = rw (eq-eqb i id k.same, k.from, k.to)

  module _ (m : P.Made) (slot i n : ℕ) (s : SingleShare P.Note) where
    abbrev opens : Bool
    opens = can_open whole m slot i n s

    abbrev closes : Bool
    closes = is_held whole m slot i n s

    abbrev wider : SingleShare P.Note
    wider = single_share s.time (put n true s.held) (P.begins n s.note)

    abbrev narrower : SingleShare P.Note
    narrower = single_share s.time (put n false s.held) s.note

    -- what an opening finds, and a closing
    opens_named : opens ≡ true → Named id slot i n
    opens_named e = named id slot i n (and_parts _ (not (holds s n i)) e).0

    opens_free : opens ≡ true → s.held n ≡ false
    opens_free e = sym (held_number slot i n s (opens_named e)) ∙ not-true _ (and_parts _ (not (holds s n i)) e).1

    closes_named : closes ≡ true → Named id slot i n
    closes_named e = named id slot i n (and_parts _ (holds s n i) e).0

    closes_held : closes ≡ true → s.held n ≡ true
    closes_held e = sym (held_number slot i n s (closes_named e)) ∙ (and_parts _ (holds s n i) e).1

    opened_holds : (k j : ℕ) → holds (cond opens wider s) k j ≡ (names whole m slot i n k j || holds s k j)
    opened_holds k j = go opens refl
      where
        go : (b : Bool) → opens ≡ b → holds (cond b wider s) k j ≡ (names whole m slot i n k j || holds s k j)
        go true e =
            let nm = opens_named e in
            added_bits (j == id) (nat_le 1 k) (nat_le k session_limit) (s.held k) (k == n)
            (λ d. let same = eqb-true k n d in (ap (leb 1) same ∙ nm.from, ap (λ x. leb x session_limit) same ∙ nm.to, ap s.held same ∙ opens_free e))
            ∙ (λ t. (sym (and_parts _ (not (holds s n i)) e).0 t && k == n && j == sym nm.same t) || holds s k j)
        go false e = held_bits (nameable (id ∷ []) slot i n) (k == n) (j == i) (holds s k j)
            (λ q d x. (λ t. holds s (eqb-true k n d t) (eqb-true j i x t)) ∙ not-false _ (ap (λ b. b && not (holds s n i)) (sym q) ∙ e))

    closed_holds : (k j : ℕ) → holds (cond closes narrower s) k j ≡ (not (names whole m slot i n k j) && holds s k j)
    closed_holds k j = go closes refl
      where
        go : (b : Bool) → closes ≡ b → holds (cond b narrower s) k j ≡ (not (names whole m slot i n k j) && holds s k j)
        go true e =
            taken_bits (j == id) (nat_le 1 k) (nat_le k session_limit) (s.held k) (k == n)
            ∙ (λ t. not (sym (and_parts _ (holds s n i) e).0 t && k == n && j == sym (closes_named e).same t) && holds s k j)
        go false e = free_bits (nameable (id ∷ []) slot i n) (k == n) (j == i) (holds s k j)
            (λ q d x. (λ t. holds s (eqb-true k n d t) (eqb-true j i x t)) ∙ ap (λ b. b && holds s n i) (sym q) ∙ e)

    opened_count : opens ≡ true → whole.count m slot (whole.opened m slot i n s) ≡ whole.count m slot s + 1
    opened_count e =
        let nm = opens_named e in
        ap (λ b. whole.count m slot (cond b wider s)) e ∙ rw nm.placed (tally_more s.held n (leb-true 1 n nm.from) (leb-true n session_limit nm.to) (opens_free e))

    closed_count : closes ≡ true → whole.count m slot (whole.closed m slot i n s) + 1 ≡ whole.count m slot s
    closed_count e =
        let nm = closes_named e in
        ap (λ b. whole.count m slot (cond b narrower s) + 1) e ∙ rw nm.placed (tally_fewer s.held n (leb-true 1 n nm.from) (leb-true n session_limit nm.to) (closes_held e))

    -- above slot 3 nothing is opened, closed or answered
    unplaced_opens : leb slot 3 ≡ false → opens ≡ false
    unplaced_opens e = rw e

    unplaced_closes : leb slot 3 ≡ false → closes ≡ false
    unplaced_closes e = rw e

    -- whatever a call leaves, what is put back is the same
    same_gone : (p t : Bool) (f : ℕ → Bool) (x : P.Note) → (p ≡ false → t ≡ false)
        → (let after = cond t (single_share s.time f x) s in cond p (single_share after.time (λ _. false) P.start) after) ≡ cond p (single_share s.time (λ _. false) P.start) s
    same_gone true true f x h = refl
    same_gone true false f x h = refl
    same_gone false true f x h = not_both true refl (h refl)
    same_gone false false f x h = refl

  -- an object keeps the numbers held, alters nothing where it is refused, and is answered by the resource
  module _ (good : LawfulRules P) (m : P.Made) (n : ℕ) (a : Apdu (List ℕ)) (s : SingleShare P.Note) where
    abbrev answered : Bool → Outcome (SingleShare P.Note)
    answered b = cond b (noting P made share s (P.reacts m s.time n a s.note)) (outcome (Ok None) s)

    same_held : (b : Bool) → (answered b).left.held ≡ s.held
    same_held true = refl
    same_held false = refl

    refused_same : (b : Bool) (e : ℕ) → (answered b).reaction ≡ Err e → (answered b).left ≡ s
    refused_same true e h = ap (single_share s.time s.held) ((good.reacts m s.time n a s.note).refuses e h)
    refused_same false e h = refl

    reply_object : (b : Bool) (bs : List ℕ) → (answered b).reaction ≡ Ok (Some bs) → IsShortApdu bs
    reply_object true bs h = (good.reacts m s.time n a s.note).replies bs h
    reply_object false bs h = (let z : ◌≡◌ {A = ℕ} 0 1 = cc in absurd (omega arith))

    gone_answered : (p t : Bool) → (p ≡ false → t ≡ false)
        → cond p (single_share (answered t).left.time (λ _. false) P.start) (answered t).left ≡ cond p (single_share s.time (λ _. false) P.start) s
    gone_answered true true h = refl
    gone_answered true false h = refl
    gone_answered false true h = not_both true refl (h refl)
    gone_answered false false h = refl

  pub single_lawful : LawfulRules P → Lawful whole
  single_lawful good = record {
    sessions = λ m. record {
      apart = (refl, tt);
      known = λ s n i. known_bits (i == id) (nat_le 1 n) (nat_le n session_limit) (s.held n);
      opened = opened_holds m;
      opened_same = λ slot i n s e. rw e;
      closed = closed_holds m;
      closed_same = λ slot i n s e. rw e;
      object = λ slot i n a s k j. ap (λ f. (j == id) && nat_le 1 k && nat_le k session_limit && f k) (same_held good m n a s _);
      told = λ t s n i. refl;
    };
    counts = λ m. record {
      opened = opened_count m;
      closed = closed_count m;
      object = λ slot i n a s. ap (λ f. cond (nat_le slot 3) (tally f session_numbers) 0) (same_held good m n a s _);
      told = λ slot t s. refl;
      gone = λ slot s. elim (nat_le slot 3) as (λ b. cond b (tally (cond b (single_share s.time (λ _. false) P.start) s).held session_numbers) 0 ≡ 0) [ true ↦ tally_none session_numbers | false ↦ refl ];
      beyond = λ slot s e. rw e;
    };
    gone = λ m. record {
      holds = λ slot s n i h. rw h (and_right (i == id && nat_le 1 n && nat_le n session_limit) false refl);
      beyond = λ slot s h. rw h;
      beginning = λ slot t. cond_both (nat_le slot 3) _ _ (λ y. y ≡ whole.beginning m t) (λ _. refl) (λ _. refl);
      gone = λ slot s. elim (nat_le slot 3) as (λ b. let after = cond b (single_share s.time (λ _. false) P.start) s in cond b (single_share after.time (λ _. false) P.start) after ≡ after) [ true ↦ refl | false ↦ refl ];
      opened = λ slot i n s. same_gone m slot i n s (nat_le slot 3) _ _ _ (unplaced_opens m slot i n s);
      closed = λ slot i n s. same_gone m slot i n s (nat_le slot 3) _ _ _ (unplaced_closes m slot i n s);
      object = λ slot i n a s. gone_answered good m n a s (nat_le slot 3) _ (unplaced_closes m slot i n s);
      told = λ slot t s. elim (nat_le slot 3) as (λ b. cond b (single_share (Some t) (λ _. false) P.start) (single_share (Some t) s.held s.note) ≡ whole.told m t (cond b (single_share s.time (λ _. false) P.start) s)) [ true ↦ refl | false ↦ refl ];
      told_beginning = λ t u. refl;
    };
    answers = λ m. record {
      refused = λ slot i n e a s. refused_same good m n a s _ e;
      not_held = λ slot i n a s e. rw e;
      ready = λ slot i s. cond_both (nat_le slot 3 && is_listed (id ∷ []) i) 0 0xf1 (λ y. is_readiness y ≡ true) (λ _. refl) (λ _. refl);
      unready = λ slot i s e. rw e;
      no_greeting = λ i e. rw e;
      greeting = λ i bs. cond_both (is_listed (id ∷ []) i) P.greeting None (λ g. g ≡ Some bs → IsShortApdu bs) (λ _. good.greets bs) (λ _ e. no_some bs e);
      reply = λ slot i n a s bs. reply_object good m n a s _ bs;
    };
  }
