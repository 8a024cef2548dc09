-- What Resource Manager, Application Information and Date-Time say is in order, so that they are lawful by SingleLaws.
use Rattle.std.specs.Prelude.{◌≡◌, ℕ, suc, ◌*◌, ◌%◌, ◌≤◌, Bool, true, false, cond, ◌&&◌, ltb, List, [], ◌∷◌, ◌++◌, length, take, drop, is_ok, Some, None, Ok, Err, Option, ◌==◌, nat_le, nat_lt, refl}
use Rattle.std.proofs.Common.{ap, ◌∙◌, subst, arith}
use Rattle.std.proofs.lemmas.Bool.{cond_both, cond-true, lt-ltb, le-leb}
use Rattle.std.proofs.lemmas.List.{length-take, drop_all}
use Rattle.wire.specs.declared.fault.Fault.TheVariants.{Length}
use Rattle.wire.specs.declared.cursor.FieldLength.TheVariants.{AtLeast}
use Rattle.wire.specs.Reading.{Position, Located, and_then, with_left, next_bytes, allows_length, read_field, read_end, read_rest}
use Rattle.wire.specs.declared.apdu.Apdu.{Apdu}
use Rattle.wire.specs.ApduReading.{read_apdu}
use Rattle.standard.specs.ObjectTags as tag
use Rattle.resource.specs.ShortApdu.{object_limit, is_short_apdu, IsShortApdu}
use Rattle.resource.specs.Meaning.{Reaction, Outcome, outcome}
use Rattle.standard.specs.StandardRules.{apdu_bytes, if_right_length, identifier_bytes, profile_answer, manager_rules, is_information, information_rules, time_answer, date_time_rules}
use Rattle.resource.proofs.TableLemmas.{no_some}
use Rattle.resource.specs.Lawful.{Lawful}
use Rattle.standard.specs.SingleMeaning.{LawfulOutcome, LawfulRules, SingleShare, single_of}
use Rattle.standard.specs.SingleLaws.{single_lawful}

-- a length below 80, and that many bytes to the end
whole_field : (body : List ℕ) (end : ℕ) → nat_lt (length body) 0x80 ≡ true
    → read_field (AtLeast 0) (record { left = length body ∷ body; end = end }) ≡ (Ok (next_bytes (length body) (record { left = body; end = end })), record { left = []; end = end })
whole_field body end short =
    let q : Position = record { left = body; end = end } in
    let n : ℕ = length body in
    ap (λ s. and_then s λ m r. cond (allows_length (AtLeast 0) m && nat_le m (length r.left)) (Ok (next_bytes m r), with_left (drop m r.left) r) (Err Length, r)) (cond-true (nat_lt n 0x80) (Ok n, q) _ short)
    ∙ cond-true (nat_le 0 n && nat_le n n) _ _ (ap (λ b. b && nat_le n n) (le-leb 0 n (omega arith)) ∙ le-leb n n (omega arith))
    ∙ ap (λ l. (Ok (next_bytes n q), record { left = l; end = end })) (drop_all n body (omega arith))

-- a profile of at most thirty identifiers is an object
profile_is : (body : List ℕ) → length body ≤ 120 → IsShortApdu (apdu_bytes tag.profile_reply body)
profile_is body h =
    let n : ℕ = length body in
    let short : ltb n 0x80 ≡ true = lt-ltb n 0x80 (omega arith) in
    ap (λ l. is_short_apdu (0x9f ∷ 0x80 ∷ 0x11 ∷ l ++ body)) (cond-true (nat_lt n 0x80) (n ∷ []) _ short)
    ∙ ap (λ b. b && is_ok (read_apdu (0x9f ∷ 0x80 ∷ 0x11 ∷ n ∷ body))) (le-leb (suc (suc (suc (suc n)))) object_limit (omega arith))
    ∙ ap (λ s. is_ok {T = Apdu Located} (and_then s (λ part r. and_then (read_end r, r) (λ _ z. (Ok (record { tag = tag.profile_reply; body = read_rest part }), z)))).0) (whole_field body (suc (suc (suc (suc n)))) short)

-- a reaction that is no refusal, and whose reply, if it is one, is an object
abbrev Good : Reaction → Type 0
Good (Err e) = ⊥
Good (Ok None) = Unit {0}
Good (Ok (Some bs)) = IsShortApdu bs

-- an answer that is not a refusal is in order, whatever it notes
fine_answer : {N : Type 0} (note left : N) (r : Reaction) → Good r → LawfulOutcome note (outcome r left)
fine_answer note left r g = record { replies = λ bs e. subst Good e g; refuses = λ e h. absurd (subst Good h g) }

fine_refused : {N : Type 0} (note : N) (e : ℕ) → LawfulOutcome note (outcome (Err e) note)
fine_refused note e = record { replies = λ bs h. (let z : ◌≡◌ {A = ℕ} 0 1 = cc in absurd (omega arith)); refuses = λ _ _. refl }

fine_cond : {N : Type 0} (note : N) (b : Bool) (x y : Outcome N) → LawfulOutcome note x → LawfulOutcome note y → LawfulOutcome note (cond b x y)
fine_cond note b x y f g = cond_both b x y (LawfulOutcome note) (λ _. f) (λ _. g)

fine_fits : {N : Type 0} (note : N) (b : Bool) (x : Outcome N) → LawfulOutcome note x → LawfulOutcome note (if_right_length b note x)
fine_fits note b x f = fine_cond note b x _ f (fine_refused note 1)

some_is : {A : Type 0} (P : A → Type 0) (x y : A) → P x → Some x ≡ Some y → P y
some_is P x y h e = (let same : x ≡ y = cc in rw same at h)

words_length : (js : List ℕ) → length (identifier_bytes js) ≡ 4 * length js
words_length [] = refl
words_length (i ∷ js) = omega (arith, words_length js)

announced : (js : List ℕ) → length (identifier_bytes (take 16 js)) ≤ 120
announced js = omega (arith, words_length (take 16 js), length-take 16 js)

profile_good : (b : Bool) → Good (profile_answer b)
profile_good true = tt
profile_good false = refl

pub manager_rules_lawful : LawfulRules manager_rules
manager_rules_lawful = record {
  greets = λ bs. some_is IsShortApdu (apdu_bytes tag.profile_enquiry []) bs refl;
  reacts = λ m t n a f.
      fine_cond f (a.tag == tag.profile_enquiry) _ _ (fine_fits f (length a.body == 0) _ (fine_answer f _ _ (profile_is (identifier_bytes (take 16 m)) (announced m))))
      (fine_cond f (a.tag == tag.profile_reply) _ _ (fine_fits f (length a.body % 4 == 0) _ (fine_answer f _ _ (profile_good (f n))))
      (fine_cond f (a.tag == tag.profile_changed) _ _ (fine_fits f (length a.body == 0) _ (fine_answer f _ _ refl))
      (fine_answer f _ _ tt)));
}

pub information_rules_lawful : LawfulRules information_rules
information_rules_lawful = record {
  greets = λ bs. some_is IsShortApdu (apdu_bytes tag.application_info_enquiry []) bs refl;
  reacts = λ m t n a f.
      fine_cond f (a.tag == tag.application_info) _ _ (fine_fits f (is_information a.body) _ (fine_answer f _ _ tt))
      (fine_answer f _ _ tt);
}

time_good : (t : Option (List ℕ)) → Good (time_answer t)
time_good None = tt
time_good (Some t) = refl

pub date_time_rules_lawful : LawfulRules date_time_rules
date_time_rules_lawful = record {
  greets = λ bs e. no_some bs e;
  reacts = λ m t n a f.
      fine_cond f (a.tag == tag.date_time_enquiry) _ _ (fine_fits f (length a.body == 1) _ (fine_answer f _ _ (time_good t)))
      (fine_answer f _ _ tt);
}

-- each of the three is lawful, whatever it is made of and wherever its shares are kept
module _ {U : Type 0} where
  pub manager_lawful : (made : U → List ℕ) (share : U → ℕ → SingleShare (ℕ → Bool)) → Lawful (single_of manager_rules made share)
  manager_lawful made share = single_lawful manager_rules made share manager_rules_lawful

  pub information_lawful : (made : U → Unit {0}) (share : U → ℕ → SingleShare (Option (List ℕ))) → Lawful (single_of information_rules made share)
  information_lawful made share = single_lawful information_rules made share information_rules_lawful

  pub date_time_lawful : (made : U → Unit {0}) (share : U → ℕ → SingleShare (Unit {0})) → Lawful (single_of date_time_rules made share)
  date_time_lawful made share = single_lawful date_time_rules made share date_time_rules_lawful
