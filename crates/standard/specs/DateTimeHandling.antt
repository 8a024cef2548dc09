-- What Date-Time is: it notes nothing.
use Rattle.standard.specs.StandardRules.{date_time_rules}
use Rattle.standard.specs.StandardRulesLawful.{date_time_rules_lawful}
use Rattle.resource.specs.Meaning.{Meaning}
use Rattle.standard.specs.declared.single.SingleResource.{SingleResource}
use Rattle.standard.specs.Handling.{Handling}
use Rattle.standard.specs.SingleShares.{single_meaning}
use Rattle.standard.specs.declared.date_time.DateTime.{DateTime}

abbrev pub date_time_handling : Handling DateTime
date_time_handling = record {
  rules = date_time_rules;
  lawful = date_time_rules_lawful;
  made = λ _. tt;
  note = λ _ _. tt;
}

abbrev pub date_time_meaning : Meaning (SingleResource DateTime)
date_time_meaning = single_meaning date_time_handling
