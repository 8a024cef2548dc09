-- What Resource Manager, Application Information and Date-Time mean together, and under a quota.
use Rattle.resource.specs.Meaning.{Meaning}
use Rattle.standard.specs.declared.single.SingleResource.{SingleResource}
use Rattle.standard.specs.declared.pair.Pair.{Pair}
use Rattle.standard.specs.declared.quota.Quota.{Quota}
use Rattle.standard.specs.LayerMeanings.{pair_meaning, quota_meaning}
use Rattle.standard.specs.declared.manager.Manager.{Manager}
use Rattle.standard.specs.ManagerHandling.{manager_meaning}
use Rattle.standard.specs.declared.information.Information.{Information}
use Rattle.standard.specs.InformationHandling.{information_meaning}
use Rattle.standard.specs.declared.date_time.DateTime.{DateTime}
use Rattle.standard.specs.DateTimeHandling.{date_time_meaning}

abbrev pub standard_resources_meaning : Meaning (Pair (Pair (SingleResource Manager) (SingleResource Information)) (SingleResource DateTime))
standard_resources_meaning = pair_meaning (pair_meaning manager_meaning information_meaning) date_time_meaning

abbrev pub standard_under_quota_meaning : Meaning (Quota (Pair (Pair (SingleResource Manager) (SingleResource Information)) (SingleResource DateTime)))
standard_under_quota_meaning = quota_meaning standard_resources_meaning
