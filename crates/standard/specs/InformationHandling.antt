-- What Application Information is: it notes what a slot's module last told of itself.
use Rattle.std.specs.Prelude.{ℕ, List, None, Option, slice_index_or}
use Rattle.std.specs.Option.{option_map}
use Rattle.standard.specs.StandardRules.{information_rules}
use Rattle.standard.specs.StandardRulesLawful.{information_rules_lawful}
use Rattle.resource.specs.Meaning.{Meaning}
use Rattle.standard.specs.declared.single.SingleResource.{SingleResource}
use Rattle.standard.specs.Handling.{Handling}
use Rattle.standard.specs.SingleShares.{single_meaning}
use Rattle.standard.specs.declared.information.Information.{Information}

abbrev pub latest_information : Information → ℕ → Option (List ℕ)
latest_information k slot = option_map (λ body. body.items) (slice_index_or k.latest slot None)

abbrev pub information_handling : Handling Information
information_handling = record {
  rules = information_rules;
  lawful = information_rules_lawful;
  made = λ _. tt;
  note = latest_information;
}

abbrev pub information_meaning : Meaning (SingleResource Information)
information_meaning = single_meaning information_handling
