-- A resource of one identifier that is always ready.
use Rattle.std.specs.Prelude.{◌≡◌, ℕ, Bool, true, false, if◌then◌else◌, not, ◌&&◌, List, [], ◌∷◌, Some, None, Option, ◌==◌, nat_le, Ok, Err}
use Rattle.wire.specs.declared.apdu.Apdu.{Apdu}
use Rattle.resource.specs.NumberTables.{put, session_limit, session_numbers, tally}
use Rattle.resource.specs.Identifiers.{is_listed}
use Rattle.resource.specs.ShortApdu.{IsShortApdu}
use Rattle.resource.specs.Meaning.{Meaning, Outcome, outcome}
use Rattle.resource.specs.Lawful.{nameable}

-- what it keeps for a slot: the time last told, the numbers of its sessions, and what else it notes
pub record SingleShare (N : Type 0) : Type 0 where
  pub time : Option (List ℕ)
  pub held : ℕ → Bool
  pub note : N

abbrev pub single_share : {N : Type 0} → Option (List ℕ) → (ℕ → Bool) → N → SingleShare N
single_share t f n = record { time = t; held = f; note = n }

pub record SingleRules : Type 1 where
  pub Made : Type 0
  pub Note : Type 0
  pub identifier : ℕ
  pub greeting : Option (List ℕ)
  -- what it notes at first, and when a session of this number opens
  pub start : Note
  pub begins : ℕ → Note → Note
  -- what an object comes to at this time in the session of this number
  pub reacts : Made → Option (List ℕ) → ℕ → Apdu (List ℕ) → Note → Outcome Note

-- an outcome in order, of what was noted before: a reply is an object, and a refusal alters nothing
pub record LawfulOutcome {N : Type 0} (note : N) (o : Outcome N) : Type 0 where
  pub replies : (bs : List ℕ) → o.reaction ≡ Ok (Some bs) → IsShortApdu bs
  pub refuses : (e : ℕ) → o.reaction ≡ Err e → o.left ≡ note

-- what it says must be in order
pub record LawfulRules (P : SingleRules) : Type 0 where
  pub greets : (bs : List ℕ) → P.greeting ≡ Some bs → IsShortApdu bs
  pub reacts : (m : P.Made) (t : Option (List ℕ)) (n : ℕ) (a : Apdu (List ℕ)) (note : P.Note) → LawfulOutcome note (P.reacts m t n a note)

-- its meaning, of anything that holds what it is made of and what it keeps for each slot
module _ {U : Type 0} (P : SingleRules) (made : U → P.Made) (share : U → ℕ → SingleShare P.Note) where
  abbrev pub own : List ℕ
  own = P.identifier ∷ []

  abbrev pub held_by : SingleShare P.Note → ℕ → ℕ → Bool
  held_by s n i = i == P.identifier && nat_le 1 n && nat_le n session_limit && s.held n

  abbrev pub noting : SingleShare P.Note → Outcome P.Note → Outcome (SingleShare P.Note)
  noting s o = outcome o.reaction (single_share s.time s.held o.left)

  abbrev pub single_of : Meaning U
  single_of = record {
    Made = P.Made;
    Share = SingleShare P.Note;
    made = made;
    share = share;
    listed = λ m. own;
    holds = λ m. held_by;
    beginning = λ m t. single_share t (λ _. false) P.start;
    ready = λ m slot i s. if nat_le slot 3 && is_listed own i then 0 else 0xf1;
    greeting = λ m i. if is_listed own i then P.greeting else None;
    count = λ m slot s. if nat_le slot 3 then tally s.held session_numbers else 0;
    opened = λ m slot i n s.
        if nameable own slot i n && not (held_by s n i) then single_share s.time (put n true s.held) (P.begins n s.note) else s;
    closed = λ m slot i n s. if nameable own slot i n && held_by s n i then single_share s.time (put n false s.held) s.note else s;
    object = λ m slot i n a s.
        if nameable own slot i n && held_by s n i then noting s (P.reacts m s.time n a s.note) else outcome (Ok None) s;
    gone = λ m slot s. if nat_le slot 3 then single_share s.time (λ _. false) P.start else s;
    told = λ m t s. single_share (Some t) s.held s.note;
  }
