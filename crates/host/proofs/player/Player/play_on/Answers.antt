use Rattle.std.proofs.Common.{rules}
use Rattle.host.proofs.ListsGrow.{played_to_more}
use Rattle.host.proofs.player.Player.play_on.Goals as goal

pub loop-entry-preserved : goal.loop-entry-preserved
loop-entry-preserved g c = search (rules, played_to_more)
