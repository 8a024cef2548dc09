use Rattle.std.proofs.Common.{◌∷◌}
use Rattle.wire.proofs.WrittenBehind.{put_behind}
use Rattle.wire.proofs.lpdu.put_lpdu.Goals as goal

pub returns : goal.returns
returns c =
    rw c.split_at_mut-here.ensures.front
    (put_behind (c.args.id ∷ c.args.mark ∷ c.args.fragment.now) c.args.out.now c.write_two_pieces.new.out c.args.at c.write_two_pieces.result c.requires (rw c.split_at_mut-here.ensures.back at c.write_two_pieces.ensures))
