use Rattle.std.proofs.Common.{◌≡◌, vec_items}
use Rattle.text.specs.Lines.{left, count}
use Rattle.text.proofs.Reading.{IsRead, IsFewer}
use Rattle.text.proofs.lines.Lines.read_into.Given as goal

abbrev pub invariant-loop-self : goal.invariant-loop-self
invariant-loop-self g l =
    IsRead l.fn.self.limit (vec_items l.line) (left g.R.Read.remaining l.fn.self) (left g.R.Read.remaining l.self)
    × (l.self.limit ≡ l.fn.self.limit)
    × IsFewer (vec_items l.line) (count l.fn.self) (count l.self)

abbrev pub decreases-loop-self : goal.decreases-loop-self
decreases-loop-self g l = count l.self
