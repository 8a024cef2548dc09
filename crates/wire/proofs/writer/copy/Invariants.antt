use Rattle.std.proofs.Common.{◌≡◌, ◌++◌, length, take, drop}
use Rattle.std.specs.List.{flat_map}
use Rattle.wire.proofs.writer.copy.Given as goal

-- the pieces so far stand at the front of the slice
abbrev pub invariant-loop-piece : goal.invariant-loop-piece
invariant-loop-piece l =
    (l.at ≡ length (flat_map (λ x. x.now) (take l.piece-index l.pieces)))
    × (l.out ≡ flat_map (λ x. x.now) (take l.piece-index l.pieces) ++ drop l.at l.initial.out)
