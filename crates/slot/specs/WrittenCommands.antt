-- What next answers.
use Rattle.std.specs.Prelude.{◌≡◌, ℕ, if◌then◌else◌, List, ◌++◌, length, take, drop, is_some, Some, None, Ok, Err, Option, Result, nat_lt, IfSome, IfOk}
use Rattle.protocol.specs.declared.refusal.Refusal.{Refusal}
use Rattle.protocol.specs.SlotCalls.{CallAnswer, wrote}
use Rattle.resource.specs.declared.number.BoundedNumber.{BoundedNumber}
use Rattle.slot.specs.declared.transmit.WrittenCommand.{WrittenCommand}

-- how many bytes are written, if there is room, and the buffer after
abbrev pub put_if_room : List ℕ → List ℕ → Option ℕ × List ℕ
put_if_room bs out =
    if nat_lt (length out) (length bs) then (None, out)
    else (Some (length bs), bs ++ drop (length bs) out)

abbrev pub written_answer : Result WrittenCommand Refusal → List ℕ → Result CallAnswer Refusal
written_answer (Ok s) out = Ok (wrote (take s.length out) (is_some s.turn))
written_answer (Err e) out = Err e

-- the buffer after an answer: what was written, and the bytes past it as they were
abbrev pub buffer_after : Result CallAnswer Refusal → List ℕ → List ℕ
buffer_after (Ok (wrote bs t)) out = bs ++ drop (length bs) out
buffer_after _ out = out

-- a turn that is handed out is this connection's
abbrev pub ConnectionIs : ℕ → Option (BoundedNumber 1 2) → Type 0
ConnectionIs c o = IfSome o (λ x. x.number ≡ c)

abbrev pub HandedTurnIs : ℕ → Result WrittenCommand Refusal → Type 0
HandedTurnIs c r = IfOk r (λ s. ConnectionIs c s.turn)
