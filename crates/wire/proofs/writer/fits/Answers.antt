use Rattle.std.proofs.Common.{◌+◌, length, sym, ap, arith}
use Rattle.std.specs.List.{flat_map}
use Rattle.std.proofs.lemmas.List.{take_all}
use Rattle.std.proofs.lemmas.Bool.{le-leb, lt-leb}
use Rattle.wire.proofs.JoinedPieces.{no_piece, length_next, length_passed}
use Rattle.wire.proofs.writer.fits.Goals as goal

pub returns-then-piece-left : goal.returns-then-piece-left
returns-then-piece-left c =
    let ps = c.args.pieces.now in
    let next = length_next (λ x. x.now) ps c.loop-piece.piece-index no_piece c.loop-piece-test.true in
    let some = length_passed (λ x. x.now) ps (c.loop-piece.piece-index + 1) in
    sym (lt-leb (length (flat_map (λ x. x.now) ps)) c.args.room (omega (arith, next, some)))

pub loop-piece-preserved : goal.loop-piece-preserved
loop-piece-preserved c =
    let next = length_next (λ x. x.now) c.args.pieces.now c.loop-piece.piece-index no_piece c.loop-piece-test.true in
    omega (arith, next)

pub returns : goal.returns
returns c =
    let ps = c.args.pieces.now in
    let all = ap (λ xs. length (flat_map (λ x. x.now) xs)) (take_all c.loop-piece.piece-index ps c.loop-piece-test.false) in
    sym (le-leb (length (flat_map (λ x. x.now) ps)) c.args.room (omega (arith, all)))
