-- A pair of lawful resources is lawful.
use Rattle.std.specs.Prelude.{◌≡◌, ℕ, ◌+◌, Bool, true, false, cond, not, ◌&&◌, ◌||◌, List, Some, None, ◌==◌, nat_le, refl, Ok, Err}
use Rattle.std.proofs.Common.{sym, ap, ◌∙◌, arith}
use Rattle.std.proofs.lemmas.Bool.{cond_both}
use Rattle.wire.specs.declared.apdu.Apdu.{Apdu}
use Rattle.resource.specs.Identifiers.{is_listed}
use Rattle.resource.specs.ShortApdu.{IsShortApdu}
use Rattle.resource.specs.NumberTables.{session_limit}
use Rattle.resource.specs.Meaning.{Meaning, Outcome, outcome}
use Rattle.resource.specs.Lawful.{Lawful, nameable, is_readiness, names, can_open, is_held}
use Rattle.standard.specs.PairMeaning.{pair_of, has_match, on_side, answers_on}
use Rattle.standard.specs.PairLists.{lists_pair, nameable_pair, apart_pair, not_added, not_taken}

module _ {S T U : Type 0} (one : U → S) (two : U → T) (M : Meaning S) (N : Meaning T) (lawM : Lawful M) (lawN : Lawful N) where
  -- the first's and the second's identifiers
  abbrev js : M.Made × N.Made → List ℕ
  js m = M.listed m.0

  abbrev ks : M.Made × N.Made → List ℕ
  ks m = N.listed m.1

  abbrev P : Meaning U
  P = pair_of one two M N

  held_known : (m : P.Made) (s : P.Share) (n i : ℕ) → P.holds m s n i ≡ true → (is_listed (P.listed m) i && nat_le 1 n && nat_le n session_limit) ≡ true
  held_known m s n i h = ap (λ b. b && nat_le 1 n && nat_le n session_limit) (lists_pair (js m) (ks m) i) ∙ go (has_match (js m) i) h
    where
      go : (o : Bool) → cond o (M.holds m.0 s.0 n i) (N.holds m.1 s.1 n i) ≡ true → (cond o (is_listed (js m) i) (is_listed (ks m) i) && nat_le 1 n && nat_le n session_limit) ≡ true
      go true e = (lawM.sessions m.0).known s.0 n i e
      go false e = (lawN.sessions m.1).known s.1 n i e

  opened_holds : (m : P.Made) (slot i n : ℕ) (s : P.Share) (k j : ℕ) → P.holds m (P.opened m slot i n s) k j ≡ (names P m slot i n k j || P.holds m s k j)
  opened_holds m slot i n s k j = go (has_match (js m) i) refl (has_match (js m) j) refl ∙ ap (λ b. (b && k == n && j == i) || P.holds m s k j) (sym (nameable_pair (js m) (ks m) slot i n))
    where
      go : (x : Bool) → has_match (js m) i ≡ x → (y : Bool) → has_match (js m) j ≡ y → let w = on_side x (M.opened m.0 slot i n) (N.opened m.1 slot i n) s in
          cond y (M.holds m.0 w.0 k j) (N.holds m.1 w.1 k j) ≡ ((cond x (nameable (js m) slot i n) (nameable (ks m) slot i n) && k == n && j == i) || cond y (M.holds m.0 s.0 k j) (N.holds m.1 s.1 k j))
      go true e true f = (lawM.sessions m.0).opened slot i n s.0 k j
      go true e false f = not_added (js m) i j true (nameable (js m) slot i n && k == n) (N.holds m.1 s.1 k j) e f
      go false e true f = not_added (js m) i j false (nameable (ks m) slot i n && k == n) (M.holds m.0 s.0 k j) e f
      go false e false f = (lawN.sessions m.1).opened slot i n s.1 k j

  closed_holds : (m : P.Made) (slot i n : ℕ) (s : P.Share) (k j : ℕ) → P.holds m (P.closed m slot i n s) k j ≡ (not (names P m slot i n k j) && P.holds m s k j)
  closed_holds m slot i n s k j = go (has_match (js m) i) refl (has_match (js m) j) refl ∙ ap (λ b. not (b && k == n && j == i) && P.holds m s k j) (sym (nameable_pair (js m) (ks m) slot i n))
    where
      go : (x : Bool) → has_match (js m) i ≡ x → (y : Bool) → has_match (js m) j ≡ y → let w = on_side x (M.closed m.0 slot i n) (N.closed m.1 slot i n) s in
          cond y (M.holds m.0 w.0 k j) (N.holds m.1 w.1 k j) ≡ (not (cond x (nameable (js m) slot i n) (nameable (ks m) slot i n) && k == n && j == i) && cond y (M.holds m.0 s.0 k j) (N.holds m.1 s.1 k j))
      go true e true f = (lawM.sessions m.0).closed slot i n s.0 k j
      go true e false f = not_taken (js m) i j true (nameable (js m) slot i n && k == n) (N.holds m.1 s.1 k j) e f
      go false e true f = not_taken (js m) i j false (nameable (ks m) slot i n && k == n) (M.holds m.0 s.0 k j) e f
      go false e false f = (lawN.sessions m.1).closed slot i n s.1 k j

  -- a fact on the side that serves
  module _ (m : P.Made) (slot i n : ℕ) (s : P.Share) where
    abbrev named : Bool → Bool
    named x = cond x (nameable (js m) slot i n) (nameable (ks m) slot i n)

    abbrev holding : Bool → Bool
    holding x = cond x (M.holds m.0 s.0 n i) (N.holds m.1 s.1 n i)

    same_named : nameable (P.listed m) slot i n ≡ named (has_match (js m) i)
    same_named = nameable_pair (js m) (ks m) slot i n

    opened_again : can_open P m slot i n s ≡ false → P.opened m slot i n s ≡ s
    opened_again h = go (has_match (js m) i) (ap (λ b. b && not (P.holds m s n i)) (sym same_named) ∙ h)
      where
        go : (x : Bool) → (named x && not (holding x)) ≡ false → on_side x (M.opened m.0 slot i n) (N.opened m.1 slot i n) s ≡ s
        go true e = λ d. ((lawM.sessions m.0).opened_same slot i n s.0 e d, s.1)
        go false e = λ d. (s.0, (lawN.sessions m.1).opened_same slot i n s.1 e d)

    closed_again : is_held P m slot i n s ≡ false → P.closed m slot i n s ≡ s
    closed_again h = go (has_match (js m) i) (ap (λ b. b && P.holds m s n i) (sym same_named) ∙ h)
      where
        go : (x : Bool) → (named x && holding x) ≡ false → on_side x (M.closed m.0 slot i n) (N.closed m.1 slot i n) s ≡ s
        go true e = λ d. ((lawM.sessions m.0).closed_same slot i n s.0 e d, s.1)
        go false e = λ d. (s.0, (lawN.sessions m.1).closed_same slot i n s.1 e d)

    opened_count : can_open P m slot i n s ≡ true → P.count m slot (P.opened m slot i n s) ≡ P.count m slot s + 1
    opened_count h = go (has_match (js m) i) (ap (λ b. b && not (P.holds m s n i)) (sym same_named) ∙ h)
      where
        go : (x : Bool) → (named x && not (holding x)) ≡ true → P.count m slot (on_side x (M.opened m.0 slot i n) (N.opened m.1 slot i n) s) ≡ P.count m slot s + 1
        go true e = rw ((lawM.counts m.0).opened slot i n s.0 e) (omega arith)
        go false e = rw ((lawN.counts m.1).opened slot i n s.1 e) (omega arith)

    closed_count : is_held P m slot i n s ≡ true → P.count m slot (P.closed m slot i n s) + 1 ≡ P.count m slot s
    closed_count h = go (has_match (js m) i) (ap (λ b. b && P.holds m s n i) (sym same_named) ∙ h)
      where
        go : (x : Bool) → (named x && holding x) ≡ true → P.count m slot (on_side x (M.closed m.0 slot i n) (N.closed m.1 slot i n) s) + 1 ≡ P.count m slot s
        go true e = omega (arith, (lawM.counts m.0).closed slot i n s.0 e)
        go false e = omega (arith, (lawN.counts m.1).closed slot i n s.1 e)

    -- a change of one share leaves what is put back
    gone_side : (f : M.Share → M.Share) (g : N.Share → N.Share) → M.gone m.0 slot (f s.0) ≡ M.gone m.0 slot s.0 → N.gone m.1 slot (g s.1) ≡ N.gone m.1 slot s.1
        → (x : Bool) → P.gone m slot (on_side x f g s) ≡ P.gone m slot s
    gone_side f g e h true = λ d. (e d, N.gone m.1 slot s.1)
    gone_side f g e h false = λ d. (M.gone m.0 slot s.0, h d)

    gone_opened : P.gone m slot (P.opened m slot i n s) ≡ P.gone m slot s
    gone_opened = gone_side (M.opened m.0 slot i n) (N.opened m.1 slot i n) ((lawM.gone m.0).opened slot i n s.0) ((lawN.gone m.1).opened slot i n s.1) (has_match (js m) i)

    gone_closed : P.gone m slot (P.closed m slot i n s) ≡ P.gone m slot s
    gone_closed = gone_side (M.closed m.0 slot i n) (N.closed m.1 slot i n) ((lawM.gone m.0).closed slot i n s.0) ((lawN.gone m.1).closed slot i n s.1) (has_match (js m) i)

    module _ (a : Apdu (List ℕ)) where
      abbrev answering : Bool → Outcome P.Share
      answering x = answers_on x (M.object m.0 slot i n a) (N.object m.1 slot i n a) s

      gone_object : P.gone m slot (P.object m slot i n a s).left ≡ P.gone m slot s
      gone_object = go (has_match (js m) i)
        where
          go : (x : Bool) → P.gone m slot (answering x).left ≡ P.gone m slot s
          go true = λ d. ((lawM.gone m.0).object slot i n a s.0 d, N.gone m.1 slot s.1)
          go false = λ d. (M.gone m.0 slot s.0, (lawN.gone m.1).object slot i n a s.1 d)

      object_count : P.count m slot (P.object m slot i n a s).left ≡ P.count m slot s
      object_count = go (has_match (js m) i)
        where
          go : (x : Bool) → P.count m slot (answering x).left ≡ P.count m slot s
          go true = ap (λ c. c + N.count m.1 slot s.1) ((lawM.counts m.0).object slot i n a s.0)
          go false = ap (λ c. M.count m.0 slot s.0 + c) ((lawN.counts m.1).object slot i n a s.1)

      object_holds : (k j : ℕ) → P.holds m (P.object m slot i n a s).left k j ≡ P.holds m s k j
      object_holds k j = go (has_match (js m) i) (has_match (js m) j)
        where
          go : (x y : Bool) → let w = (answering x).left in cond y (M.holds m.0 w.0 k j) (N.holds m.1 w.1 k j) ≡ cond y (M.holds m.0 s.0 k j) (N.holds m.1 s.1 k j)
          go true true = (lawM.sessions m.0).object slot i n a s.0 k j
          go true false = refl
          go false true = refl
          go false false = (lawN.sessions m.1).object slot i n a s.1 k j

      refused_same : (e : ℕ) → (P.object m slot i n a s).reaction ≡ Err e → (P.object m slot i n a s).left ≡ s
      refused_same e = go (has_match (js m) i)
        where
          go : (x : Bool) → (answering x).reaction ≡ Err e → (answering x).left ≡ s
          go true h = λ d. ((lawM.answers m.0).refused slot i n e a s.0 h d, s.1)
          go false h = λ d. (s.0, (lawN.answers m.1).refused slot i n e a s.1 h d)

      not_held : is_held P m slot i n s ≡ false → P.object m slot i n a s ≡ outcome (Ok None) s
      not_held h = go (has_match (js m) i) (ap (λ b. b && P.holds m s n i) (sym same_named) ∙ h)
        where
          go : (x : Bool) → (named x && holding x) ≡ false → answering x ≡ outcome (Ok None) s
          go true e = ap (λ o. outcome o.reaction (o.left, s.1)) ((lawM.answers m.0).not_held slot i n a s.0 e)
          go false e = ap (λ o. outcome o.reaction (s.0, o.left)) ((lawN.answers m.1).not_held slot i n a s.1 e)

      reply_object : (bs : List ℕ) → (P.object m slot i n a s).reaction ≡ Ok (Some bs) → IsShortApdu bs
      reply_object bs = go (has_match (js m) i)
        where
          go : (x : Bool) → (answering x).reaction ≡ Ok (Some bs) → IsShortApdu bs
          go true e = (lawM.answers m.0).reply slot i n a s.0 bs e
          go false e = (lawN.answers m.1).reply slot i n a s.1 bs e

  -- a fact that one of the two shows, whichever serves
  either : {A : Type 0} (Q : A → Type 0) (b : Bool) (x y : A) → Q x → Q y → Q (cond b x y)
  either Q b x y f g = cond_both b x y Q (λ _. f) (λ _. g)

  ready_known : (m : P.Made) (slot i : ℕ) (s : P.Share) → (nat_le slot 3 && is_listed (P.listed m) i) ≡ false → P.ready m slot i s ≡ 0xf1
  ready_known m slot i s h = go (has_match (js m) i) (ap (λ b. nat_le slot 3 && b) (sym (lists_pair (js m) (ks m) i)) ∙ h)
    where
      go : (x : Bool) → (nat_le slot 3 && cond x (is_listed (js m) i) (is_listed (ks m) i)) ≡ false → cond x (M.ready m.0 slot i s.0) (N.ready m.1 slot i s.1) ≡ 0xf1
      go true e = (lawM.answers m.0).unready slot i s.0 e
      go false e = (lawN.answers m.1).unready slot i s.1 e

  greeting_known : (m : P.Made) (i : ℕ) → is_listed (P.listed m) i ≡ false → P.greeting m i ≡ None
  greeting_known m i h = go (has_match (js m) i) (sym (lists_pair (js m) (ks m) i) ∙ h)
    where
      go : (x : Bool) → cond x (is_listed (js m) i) (is_listed (ks m) i) ≡ false → cond x (M.greeting m.0 i) (N.greeting m.1 i) ≡ None
      go true e = (lawM.answers m.0).no_greeting i e
      go false e = (lawN.answers m.1).no_greeting i e

  pub pair_lawful : Lawful (pair_of one two M N)
  pair_lawful = record {
    sessions = λ m. record {
      apart = apart_pair (js m) (ks m) ((lawM.sessions m.0).apart) ((lawN.sessions m.1).apart);
      known = held_known m;
      opened = opened_holds m;
      opened_same = opened_again m;
      closed = closed_holds m;
      closed_same = closed_again m;
      object = λ slot i n a s. object_holds m slot i n s a;
      told = λ t s n i. either₂ (has_match (js m) i) ((lawM.sessions m.0).told t s.0 n i) ((lawN.sessions m.1).told t s.1 n i);
    };
    counts = λ m. record {
      opened = opened_count m;
      closed = closed_count m;
      object = λ slot i n a s. object_count m slot i n s a;
      told = λ slot t s d. (lawM.counts m.0).told slot t s.0 d + (lawN.counts m.1).told slot t s.1 d;
      gone = λ slot s d. (lawM.counts m.0).gone slot s.0 d + (lawN.counts m.1).gone slot s.1 d;
      beyond = λ slot s h d. (lawM.counts m.0).beyond slot s.0 h d + (lawN.counts m.1).beyond slot s.1 h d;
    };
    gone = λ m. record {
      holds = λ slot s n i h. either (λ b. b ≡ false) (has_match (js m) i) _ _ ((lawM.gone m.0).holds slot s.0 n i h) ((lawN.gone m.1).holds slot s.1 n i h);
      beyond = λ slot s h d. ((lawM.gone m.0).beyond slot s.0 h d, (lawN.gone m.1).beyond slot s.1 h d);
      beginning = λ slot t d. ((lawM.gone m.0).beginning slot t d, (lawN.gone m.1).beginning slot t d);
      gone = λ slot s d. ((lawM.gone m.0).gone slot s.0 d, (lawN.gone m.1).gone slot s.1 d);
      opened = gone_opened m;
      closed = gone_closed m;
      object = λ slot i n a s. gone_object m slot i n s a;
      told = λ slot t s d. ((lawM.gone m.0).told slot t s.0 d, (lawN.gone m.1).told slot t s.1 d);
      told_beginning = λ t u d. ((lawM.gone m.0).told_beginning t u d, (lawN.gone m.1).told_beginning t u d);
    };
    answers = λ m. record {
      refused = λ slot i n e a s. refused_same m slot i n s a e;
      not_held = λ slot i n a s. not_held m slot i n s a;
      ready = λ slot i s. either (λ y. is_readiness y ≡ true) (has_match (js m) i) _ _ ((lawM.answers m.0).ready slot i s.0) ((lawN.answers m.1).ready slot i s.1);
      unready = ready_known m;
      no_greeting = greeting_known m;
      greeting = λ i bs. either (λ g. g ≡ Some bs → IsShortApdu bs) (has_match (js m) i) _ _ ((lawM.answers m.0).greeting i bs) ((lawN.answers m.1).greeting i bs);
      reply = λ slot i n a s. reply_object m slot i n s a;
    };
  }
    where
      either₂ : {A : Type 0} {x y u v : A} (b : Bool) → x ≡ u → y ≡ v → cond b x y ≡ cond b u v
      either₂ true f g = f
      either₂ false f g = g
