-- The bytes of a profile.
use Rattle.std.proofs.Common.{◌≡◌, ℕ, ◌+◌, ◌*◌, ◌/◌, ◌%◌, ◌^◌, ◌<◌, ◌≤◌, false, List, [], ◌∷◌, ◌++◌, length, get_or, take, None, refl, ap, ◌∙◌, arith}
use Rattle.std.specs.Int.{to_be_bytes, w32}
use Rattle.std.proofs.lemmas.List.{take_more, length-take}
use Rattle.wire.specs.declared.apdu.Apdu.{Apdu}
use Rattle.wire.specs.Writing.{four_bytes}
use Rattle.standard.specs.ObjectTags as tag
use Rattle.resource.specs.ShortApdu.{IsShortApdu}
use Rattle.standard.specs.StandardRules.{identifier_bytes}
use Rattle.standard.specs.StandardRulesLawful.{manager_rules_lawful}
use Rattle.standard.specs.ManagerHandling.{profile_object}

pub be_bytes_are_four : (n : ℕ) → n < 2 ^ 32 → to_be_bytes w32 n ≡ four_bytes n
be_bytes_are_four n h =
    let a : n / 16777216 % 256 ≡ n / 65536 / 256 = omega arith in
    let b : n / 65536 % 256 ≡ n / 65536 % 256 = refl in
    let c : n / 256 % 256 ≡ n % 65536 / 256 = omega arith in
    let d : n % 256 ≡ n % 65536 % 256 = omega arith in
    λ i. a i ∷ b i ∷ c i ∷ d i ∷ []

words_append : (js ks : List ℕ) → identifier_bytes (js ++ ks) ≡ identifier_bytes js ++ identifier_bytes ks
words_append [] ks = refl
words_append (j ∷ js) ks = ap (λ l. four_bytes j ++ l) (words_append js ks)

words_length : (js : List ℕ) → length (identifier_bytes js) ≡ 4 * length js
words_length [] = refl
words_length (j ∷ js) = omega (arith, words_length js)

-- tag and length, and then the first so many identifiers
abbrev pub begun : List ℕ → ℕ → List ℕ
begun js i = (0x9f ∷ 0x80 ∷ 0x11 ∷ length js * 4 ∷ []) ++ identifier_bytes (take i js)

pub begun_length : (js : List ℕ) (i : ℕ) → i ≤ length js → length (begun js i) ≡ 4 + 4 * i
begun_length js i le = omega (arith, words_length (take i js), length-take i js)

pub begun_more : (js : List ℕ) (i : ℕ) → i < length js → begun js (i + 1) ≡ begun js i ++ four_bytes (get_or js i 0)
begun_more js i lt =
    let more : identifier_bytes (take (i + 1) js) ≡ identifier_bytes (take i js) ++ four_bytes (get_or js i 0) = ap identifier_bytes (take_more js i 0 lt) ∙ words_append (take i js) (get_or js i 0 ∷ []) in
    ap (λ l. 0x9f ∷ 0x80 ∷ 0x11 ∷ length js * 4 ∷ l) more

-- the object that is sent is one
pub announced : (js : List ℕ) → IsShortApdu (profile_object (take 16 js))
announced js =
    let asks : Apdu (List ℕ) = record { tag = tag.profile_enquiry; body = [] } in
    (manager_rules_lawful.reacts js None 1 asks (λ _. false)).replies (profile_object (take 16 js)) refl
