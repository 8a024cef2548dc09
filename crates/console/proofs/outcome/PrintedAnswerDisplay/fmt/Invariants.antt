-- The bytes so far are written, and with those that are left they are all.
use Rattle.std.proofs.Common.{◌≡◌, ◌++◌, codes, map, take}
use Rattle.std.specs.Fmt.{HasWritten, IsPlainFormatter}
use Rattle.console.specs.PrintedAnswers.{byte_words}
use Rattle.console.proofs.outcome.PrintedAnswerDisplay.fmt.Given as goal

abbrev pub invariant-loop-byte : goal.invariant-loop-byte
invariant-loop-byte g l =
    (IsPlainFormatter l.fn.f → HasWritten g.W.Write.write_str_gives l.fn.f (codes "sent" ++ byte_words (map (λ b. b.now) l.yielded)) l.f)
    × (map (λ b. b.now) l.yielded ++ take l.byte-iterator.n l.byte-iterator.iter.rest.now ≡ take l.length l.self.out.now)
