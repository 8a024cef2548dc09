use Rattle.std.proofs.Common.{◌≡◌, ◌+◌, length, take}
use Rattle.std.specs.List.{flat_map}
use Rattle.wire.proofs.writer.fits.Given as goal

-- the room that is left, with what the pieces so far take
abbrev pub invariant-loop-piece : goal.invariant-loop-piece
invariant-loop-piece l = l.left + length (flat_map (λ x. x.now) (take l.piece-index l.pieces)) ≡ l.room
