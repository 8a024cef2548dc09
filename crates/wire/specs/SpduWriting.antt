-- How a host's session units are written.
use Rattle.std.specs.Prelude.{ℕ, List, ◌∷◌, ◌++◌}
use Rattle.wire.specs.Writing.{object_bytes, two_bytes, four_bytes}
use Rattle.wire.specs.declared.spdu.SessionReply.{SessionReply}
use Rattle.wire.specs.declared.spdu.SessionReply.TheVariants as say
use Rattle.wire.specs.SpduTags.{session_number, open_session_response, close_session_response}

-- a host's unit
abbrev pub reply_bytes : SessionReply (List ℕ) → List ℕ
reply_bytes (say.OpenResponse status identifier n) = object_bytes open_session_response (status ∷ four_bytes identifier ++ two_bytes n)
reply_bytes (say.CloseResponse status n) = object_bytes close_session_response (status ∷ two_bytes n)
reply_bytes (say.Data n bs) = object_bytes session_number (two_bytes n) ++ bs
