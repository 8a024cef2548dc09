use Rattle.std.proofs.Common.{◌+◌, ◌-◌, ◌++◌, length, get_or, take, drop, sym, ap, ◌∙◌, arith, rules}
use Rattle.std.specs.List.{flat_map}
use Rattle.std.proofs.lemmas.List.{take_all}
use Rattle.wire.proofs.JoinedPieces.{no_piece, joined_next, length_next, next_fits, more_written}
use Rattle.wire.proofs.writer.copy.Goals as goal

pub overflow_add-end : goal.overflow_add-end
overflow_add-end c =
    let fits = next_fits (λ x. x.now) c.args.pieces.now c.loop-piece.piece-index c.loop-piece.at (length c.args.out.now) no_piece c.loop-piece-test.true c.loop-piece.invariant.0 c.requires in
    search rules

pub slice_bounds-copy_from_slice-end : goal.slice_bounds-copy_from_slice-end
slice_bounds-copy_from_slice-end c =
    let fits = next_fits (λ x. x.now) c.args.pieces.now c.loop-piece.piece-index c.loop-piece.at (length c.args.out.now) no_piece c.loop-piece-test.true c.loop-piece.invariant.0 c.requires in
    search rules

pub loop-piece-preserved : goal.loop-piece-preserved
loop-piece-preserved c =
    let ps = c.args.pieces.now in
    let i = c.loop-piece.piece-index in
    let at = c.loop-piece.at in
    let pre = flat_map (λ x. x.now) (take i ps) in
    let n = length (get_or ps i no_piece).now in
    let fits = next_fits (λ x. x.now) ps i at (length c.args.out.now) no_piece c.loop-piece-test.true c.loop-piece.invariant.0 c.requires in
    let next = length_next (λ x. x.now) ps i no_piece c.loop-piece-test.true in (
      omega (arith, next),
      more_written pre c.copy_from_slice.new.self c.args.out.now c.loop-piece.out at n (at + n - at) c.loop-piece.invariant.0 (sym (ap length c.copy_from_slice.ensures.after)) (omega arith) fits c.loop-piece.invariant.1
          ∙ ap (λ ys. (pre ++ ys) ++ drop (at + n) c.args.out.now) c.copy_from_slice.ensures.after
          ∙ ap (λ xs. xs ++ drop (at + n) c.args.out.now) (sym (joined_next (λ x. x.now) ps i no_piece c.loop-piece-test.true)),
    )

pub returns : goal.returns
returns c =
    let all = take_all c.loop-piece.piece-index c.args.pieces.now c.loop-piece-test.false in
    let at = c.loop-piece.invariant.0 ∙ ap (λ xs. length (flat_map (λ x. x.now) xs)) all in
    record {
      count = at;
      bytes = c.loop-piece.invariant.1 ∙ ap (λ xs. flat_map (λ x. x.now) xs ++ drop c.loop-piece.at c.args.out.now) all ∙ ap (λ n. flat_map (λ x. x.now) c.args.pieces.now ++ drop n c.args.out.now) at;
    }
