use Rattle.text.specs.Lines.{count}
use Rattle.decode.proofs.decode.Given as goal

abbrev pub decreases-loop-line : goal.decreases-loop-line
decreases-loop-line l = count l.lines
