use Rattle.std.proofs.Common.{◌≡◌, ◌++◌, take}
use Rattle.standard.proofs.manager.push_four.Given as goal

abbrev pub invariant-loop-byte : goal.invariant-loop-byte
invariant-loop-byte l = l.bytes.items ≡ l.initial.bytes.items ++ take l.byte-index l.byte-items
