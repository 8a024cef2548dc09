use Rattle.protocol.proofs.TurnMarksFollow.{turns_follow}
use Rattle.protocol.proofs.laws.turns_follow_the_calls.Goals as goal

pub returns : goal.returns
returns g c = λ made. turns_follow g.R.Resource.meaning made
