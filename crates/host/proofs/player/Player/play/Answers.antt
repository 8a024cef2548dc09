use Rattle.std.proofs.Common.{rules}
use Rattle.host.proofs.EntriesOfOneSlot.{tells_apart}
use Rattle.host.proofs.player.Player.play.Goals as goal

pub returns-clause-apart : goal.returns-clause-apart
returns-clause-apart g c = tells_apart g.R.Resource.meaning c.args.resource c.args.entries.now c.play_on.new.entries (search rules)
