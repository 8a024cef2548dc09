-- What a pair and a quota mean.
use Rattle.resource.specs.Meaning.{Meaning}
use Rattle.standard.specs.PairMeaning.{pair_of}
use Rattle.standard.specs.QuotaMeaning.{quota_of}
use Rattle.standard.specs.declared.pair.Pair.{Pair}
use Rattle.standard.specs.declared.quota.Quota.{Quota}

abbrev pub pair_meaning : {A B : Type 0} → Meaning A → Meaning B → Meaning (Pair A B)
pair_meaning M N = pair_of (λ p. p.first) (λ p. p.second) M N

abbrev pub quota_meaning : {R : Type 0} → Meaning R → Meaning (Quota R)
quota_meaning M = quota_of (λ q. q.limit) (λ q. q.below) M
