use Rattle.host.proofs.ListsGrow.{PlayedTo}
use Rattle.host.proofs.player.Player.play_on.Given as goal

abbrev pub invariant-loop-entry : goal.invariant-loop-entry
invariant-loop-entry g l = PlayedTo g.R.Resource.meaning l.entry-index l.initial.entries l.entries l.initial.self.state.host l.self.state.host
