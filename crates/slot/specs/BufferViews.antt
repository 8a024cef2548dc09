-- What a buffer keeps.
use Rattle.std.specs.Prelude.{ℕ, List, take}
use Rattle.slot.specs.declared.buffer.Buffer.{Buffer}

abbrev pub items : {most : ℕ} → Buffer most → List ℕ
items b = take b.length b.bytes
