-- A private resource that notes nothing, and whose reply is as long as one may be.
use Rattle.std.specs.Prelude.{◌≡◌, ℕ, Bool, true, false, if◌then◌else◌, List, None, Some, ◌==◌, Ok, refl}
use Rattle.std.specs.List.{range_with_len}
use Rattle.std.proofs.Common.{subst, arith}
use Rattle.resource.specs.ShortApdu.{IsShortApdu}
use Rattle.resource.specs.Meaning.{Meaning, outcome}
use Rattle.standard.specs.StandardRules.{apdu_bytes}
use Rattle.standard.specs.SingleMeaning.{SingleRules, LawfulOutcome, LawfulRules}
use Rattle.resource.proofs.TableLemmas.{no_some}
use Rattle.standard.specs.declared.single.SingleResource.{SingleResource}
use Rattle.standard.specs.Handling.{Handling}
use Rattle.standard.specs.SingleShares.{single_meaning}
use Rattle.limits.specs.declared.longest.LongestReply.{LongestReply}

abbrev pub enquiry_tag : ℕ
enquiry_tag = 0x9fff00

abbrev pub reply_tag : ℕ
reply_tag = 0x9fff01

-- 124 bytes in all
abbrev pub longest_reply : List ℕ
longest_reply = apdu_bytes reply_tag (range_with_len 0 120)

-- an enquiry of any length is answered
abbrev pub longest_rules : SingleRules
longest_rules = record {
  Made = Unit {0};
  Note = Unit {0};
  identifier = 0xc0100001;
  greeting = None;
  start = tt;
  begins = λ n f. f;
  reacts = λ m t n a f.
      if a.tag == enquiry_tag then outcome (Ok (Some longest_reply)) f else outcome (Ok None) f;
}

-- whatever comes, the reply is an object
answers : (b : Bool) (f : Unit {0}) → LawfulOutcome f (if b then outcome (Ok (Some longest_reply)) f else outcome (Ok None) f)
answers true f = record { replies = λ bs e. (let same : longest_reply ≡ bs = cc in subst IsShortApdu same refl); refuses = λ e h. refl }
answers false f = record { replies = λ bs e. (let z : ◌≡◌ {A = ℕ} 0 1 = cc in absurd (omega arith)); refuses = λ e h. refl }

pub longest_rules_lawful : LawfulRules longest_rules
longest_rules_lawful = record {
  greets = λ bs e. no_some bs e;
  reacts = λ m t n a f. answers (a.tag == enquiry_tag) f;
}

abbrev pub longest_handling : Handling LongestReply
longest_handling = record {
  rules = longest_rules;
  lawful = longest_rules_lawful;
  made = λ _. tt;
  note = λ _ _. tt;
}

abbrev pub longest_meaning : Meaning (SingleResource LongestReply)
longest_meaning = single_meaning longest_handling
