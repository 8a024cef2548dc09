use Rattle.std.proofs.Common.{◌≡◌, ◌++◌, length}
use Rattle.std.specs.Option.{option_map}
use Rattle.text.specs.Words.{words, bytes}
use Rattle.text.proofs.words.add_bytes.Given as goal

abbrev pub invariant-loop-word : goal.invariant-loop-word
invariant-loop-word g l = option_map (λ bs. l.initial.bytes.items ++ bs) (bytes (words l.initial.text)) ≡ option_map (λ bs. l.bytes.items ++ bs) (bytes (words l.text))

abbrev pub decreases-loop-word : goal.decreases-loop-word
decreases-loop-word g l = length (words l.text)
