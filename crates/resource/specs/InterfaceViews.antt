-- What the trait's values say, with what their references point to.
use Rattle.std.specs.Prelude.{ℕ, List, Ok, Err, Option, Result}
use Rattle.std.specs.Option.{option_map}
use Rattle.std.specs.Borrow.{Bor}
use Rattle.wire.specs.declared.apdu.Apdu.{Apdu}
use Rattle.resource.specs.declared.interface.RefusalByte.{RefusalByte}
use Rattle.resource.specs.declared.interface.Readiness.{Readiness}
use Rattle.resource.specs.declared.interface.Readiness.TheVariants.{Ready, Unavailable, Busy}
use Rattle.resource.specs.Meaning.{Reaction}
use Rattle.resource.specs.declared.apdu_buf.ApduBuf.{ApduBuf}
use Rattle.resource.specs.ShortApdu.{used_bytes}

-- the bytes of an object that is sent
abbrev pub buffer_bytes : ApduBuf → List ℕ
buffer_bytes p = used_bytes p.held

-- what the code answers to an object
abbrev pub reaction_of : Result (Option ApduBuf) RefusalByte → Reaction
reaction_of (Ok reply) = Ok (option_map buffer_bytes reply)
reaction_of (Err e) = Err e.0

-- the status byte of an answer to whether a session may be opened
abbrev pub status_byte : Readiness → ℕ
status_byte Ready = 0x00
status_byte Unavailable = 0xf1
status_byte Busy = 0xf3

abbrev pub apdu_value : Apdu (Bor (List ℕ)) → Apdu (List ℕ)
apdu_value a = record { tag = a.tag; body = a.body.now }
