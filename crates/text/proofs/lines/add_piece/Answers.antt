use Rattle.std.proofs.Common.{◌+◌, refl, subst, arith, [], length, take, Some}
use Rattle.std.specs.Io.KnownBytes.{Consumes}
use Rattle.std.specs.Io.BufRead.{FillKeeps}
use Rattle.std.specs.Io.Buffered.{reader_buffer, reader_remaining}
use Rattle.std.proofs.KnownBytes.{Consumes-nil, Consumes-kept}
use Rattle.std.proofs.BufReadLemmas.{Consumes_shown}
use Rattle.text.proofs.Reading.{no_feed, then_feed, nothing_more}
use Rattle.text.proofs.lines.add_piece.Goals as goal

pub returns-then-eq : goal.returns-then-eq
returns-then-eq g c = ([], refl, nothing_more _ _, Consumes-kept _ _ _ [] (Consumes-nil _) c.fill_buf.follows.holds-at-none.0)

pub returns-in_ok-added : goal.returns-in_ok-added
returns-in_ok-added g c =
    let end = c.before_feed-end in
    let rested = c.fill_buf.follows.lender-at-none in
    let filled = subst (FillKeeps _ (reader_remaining g.R.Read.remaining rested) (Some (length (reader_buffer rested)))) c.in-Ok.is c.fill_buf.follows.holds-at-none in
    let moved = Consumes_shown _ _ _ (Some (length (reader_buffer rested))) c.in-Ok.bytes.now (end.result + 1) (omega (arith, c.if-is_whole.true)) c.in-Ok.ensures.front c.in-Ok.ensures.end filled.0 filled.1 c.consume.ensures.bytes in
    (take end.result c.in-Ok.bytes.now, no_feed _ _ end.ensures.value, rw c.in_ok-added.was at c.add-added.ensures, subst (Consumes _ _) (then_feed _ _ end.ensures.value c.if-is_whole.true) moved.0)

pub returns-in_ok-added-2 : goal.returns-in_ok-added-2
returns-in_ok-added-2 g c =
    let end = c.before_feed-end in
    let rested = c.fill_buf.follows.lender-at-none in
    let filled = subst (FillKeeps _ (reader_remaining g.R.Read.remaining rested) (Some (length (reader_buffer rested)))) c.in-Ok.is c.fill_buf.follows.holds-at-none in
    let moved = Consumes_shown _ _ _ (Some (length (reader_buffer rested))) c.in-Ok.bytes.now end.result end.ensures.bound c.in-Ok.ensures.front c.in-Ok.ensures.end filled.0 filled.1 c.consume-else-is_whole.ensures.bytes in
    (take end.result c.in-Ok.bytes.now, no_feed _ _ end.ensures.value, rw c.in_ok-added-2.was at c.add-added.ensures, moved.0)
