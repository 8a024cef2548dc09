-- Resource Manager, Application Information and Date-Time.
use Rattle.std.specs.Prelude.{ℕ, ◌+◌, ◌/◌, ◌%◌, Bool, true, false, if◌then◌else◌, List, [], ◌∷◌, ◌++◌, length, take, Some, None, Option, ◌==◌, slice_index, Ok, Err}
use Rattle.wire.specs.Writing.{length_bytes, four_bytes}
use Rattle.resource.specs.NumberTables.{put}
use Rattle.standard.specs.ObjectTags as tag
use Rattle.resource.specs.Meaning.{Reaction, Outcome, outcome}
use Rattle.standard.specs.SingleMeaning.{SingleRules}

-- an application object: the three bytes of its tag, its length and its body
abbrev pub apdu_bytes : ℕ → List ℕ → List ℕ
apdu_bytes tag body = tag / 0x10000 ∷ tag / 0x100 % 0x100 ∷ tag % 0x100 ∷ length_bytes (length body) ++ body

-- an object whose length is another than its tag asks for is refused with 01
abbrev pub if_right_length : {N : Type 0} → Bool → N → Outcome N → Outcome N
if_right_length b f o = if b then o else outcome (Err 1) f

-- identifiers, each in four bytes
abbrev pub identifier_bytes : List ℕ → List ℕ
identifier_bytes [] = []
identifier_bytes (i ∷ js) = four_bytes i ++ identifier_bytes js

-- the first profile of a session is answered by a profile change, later ones by none
abbrev pub profile_answer : Bool → Reaction
profile_answer before = if before then Ok None else Ok (Some (apdu_bytes tag.profile_changed []))

-- Resource Manager announces the first sixteen identifiers that it is made with, and notes which sessions sent a profile
abbrev pub manager_rules : SingleRules
manager_rules = record {
  Made = List ℕ;
  Note = ℕ → Bool;
  identifier = 0x00010041;
  greeting = Some (apdu_bytes tag.profile_enquiry []);
  start = λ _. false;
  begins = λ n f. put n false f;
  reacts = λ own t n a f.
      if a.tag == tag.profile_enquiry
      then if_right_length (length a.body == 0) f (outcome (Ok (Some (apdu_bytes tag.profile_reply (identifier_bytes (take 16 own))))) f)
      else (if a.tag == tag.profile_reply
      then if_right_length (length a.body % 4 == 0) f (outcome (profile_answer (f n)) (put n true f))
      else (if a.tag == tag.profile_changed
      then if_right_length (length a.body == 0) f (outcome (Ok (Some (apdu_bytes tag.profile_enquiry []))) f)
      else outcome (Ok None) f));
}

-- six bytes, the sixth of which tells how many follow
abbrev pub is_information : List ℕ → Bool
is_information bs = length bs == 6 + slice_index bs 5

-- Application Information keeps the latest of a slot
abbrev pub information_rules : SingleRules
information_rules = record {
  Made = Unit {0};
  Note = Option (List ℕ);
  identifier = 0x00020041;
  greeting = Some (apdu_bytes tag.application_info_enquiry []);
  start = None;
  begins = λ n f. f;
  reacts = λ m t n a f.
      if a.tag == tag.application_info
      then if_right_length (is_information a.body) f (outcome (Ok None) (Some a.body))
      else outcome (Ok None) f;
}

-- the five bytes of the time last told, or none before any
abbrev pub time_answer : Option (List ℕ) → Reaction
time_answer None = Ok None
time_answer (Some t) =
    Ok (Some (apdu_bytes tag.date_time
    (slice_index t 0 ∷ slice_index t 1 ∷ slice_index t 2 ∷ slice_index t 3 ∷ slice_index t 4 ∷ [])))

-- Date-Time tells the time
abbrev pub date_time_rules : SingleRules
date_time_rules = record {
  Made = Unit {0};
  Note = Unit {0};
  identifier = 0x00240041;
  greeting = None;
  start = tt;
  begins = λ n f. f;
  reacts = λ m t n a f.
      if a.tag == tag.date_time_enquiry
      then if_right_length (length a.body == 1) f (outcome (time_answer t) f)
      else outcome (Ok None) f;
}
