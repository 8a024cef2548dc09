-- How answers print.
use Rattle.std.specs.Prelude.{ℕ, List, ◌++◌, codes, take, Ok, Err, Result}
use Rattle.std.specs.List.{flat_map}
use Rattle.protocol.specs.declared.refusal.Refusal.{Refusal}
use Rattle.protocol.specs.RefusalText.{byte_word, refusal_text}
use Rattle.host.specs.declared.call.Answer.{Answer}
use Rattle.host.specs.declared.call.Answer.TheVariants.{Done, More, Sent}

-- bytes, each as a word
abbrev pub byte_words : List ℕ → List ℕ
byte_words bytes = flat_map byte_word bytes

-- the answer to a call; of the out buffer, the bytes that were written
abbrev pub answer_text : Result Answer Refusal → List ℕ → List ℕ
answer_text (Ok Done) out = codes "ok"
answer_text (Ok More) out = codes "more"
answer_text (Ok (Sent length turn)) out = codes "sent" ++ byte_words (take length out)
answer_text (Err r) out = refusal_text r
