-- What Resource Manager is: it is made with identifiers, and notes which sessions sent a profile.
use Rattle.std.specs.Prelude.{ℕ, List, slice_index_or}
use Rattle.standard.specs.ObjectTags as tag
use Rattle.standard.specs.StandardRules.{manager_rules, apdu_bytes, identifier_bytes}
use Rattle.standard.specs.StandardRulesLawful.{manager_rules_lawful}
use Rattle.resource.specs.Meaning.{Meaning}
use Rattle.standard.specs.SetContents.{contains_number}
use Rattle.standard.specs.declared.single.SingleResource.{SingleResource}
use Rattle.standard.specs.Handling.{Handling}
use Rattle.standard.specs.SingleShares.{single_meaning, empty_set}
use Rattle.standard.specs.declared.manager.Manager.{Manager}

abbrev pub manager_handling : Handling Manager
manager_handling = record {
  rules = manager_rules;
  lawful = manager_rules_lawful;
  made = λ k. k.own.items;
  note = λ k slot. contains_number (slice_index_or k.profiles slot empty_set);
}

abbrev pub manager_meaning : Meaning (SingleResource Manager)
manager_meaning = single_meaning manager_handling

-- the object that announces identifiers
abbrev pub profile_object : List ℕ → List ℕ
profile_object js = apdu_bytes tag.profile_reply (identifier_bytes js)
