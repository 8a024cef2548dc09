-- How session units are read.
use Rattle.std.specs.Prelude.{ℕ, if◌then◌else◌, List, Ok, Err, Result, ◌==◌}
use Rattle.wire.specs.declared.fault.Fault.{Fault}
use Rattle.wire.specs.declared.fault.Fault.TheVariants.{Tag}
use Rattle.wire.specs.declared.cursor.FieldLength.TheVariants.{Exactly}
use Rattle.wire.specs.declared.spdu.SessionRequest.{SessionRequest}
use Rattle.wire.specs.declared.spdu.SessionRequest.TheVariants as ask
use Rattle.wire.specs.declared.spdu.SessionReply.{SessionReply}
use Rattle.wire.specs.declared.spdu.SessionReply.TheVariants as say
use Rattle.wire.specs.Reading.{Position, Located, start, and_then, in_field, read_byte, read_two_bytes, read_four_bytes, read_rest, read_end}
use Rattle.wire.specs.SpduTags.{session_number, open_session_request, open_session_response, close_session_request, close_session_response}

-- nothing may follow what was read
abbrev alone : {A : Type 0} → Result A Fault × Position → Result A Fault × Position
alone s = and_then s λ a p. and_then (read_end p, p) λ _ q. (Ok a, q)

-- a session's number, alone in its field
abbrev pub number_field : Position → Result ℕ Fault × Position
number_field p = in_field (Exactly 2) p read_two_bytes

-- 90 02 number, and all that follows is the body
abbrev with_body : {A : Type 0} → (ℕ → Located → A) → Position → Result A Fault × Position
with_body make p = and_then (number_field p) λ n q. (Ok (make n (read_rest q)), q)

abbrev request_by : ℕ → Position → Result (SessionRequest Located) Fault × Position
request_by tag p =
    if tag == open_session_request then alone (in_field (Exactly 4) p λ b. and_then (read_four_bytes b) λ i c. (Ok (ask.Open i), c))
    else if tag == close_session_request then alone (and_then (number_field p) λ n q. (Ok (ask.Close n), q))
    else if tag == session_number then with_body ask.Data p
    else (Err Tag, p)

-- a module's unit: 91 04 identifier, 95 02 number, or 90 02 number and a body
abbrev pub request : Position → Result (SessionRequest Located) Fault × Position
request p = and_then (read_byte p) λ tag q. request_by tag q

abbrev pub read_request : List ℕ → Result (SessionRequest Located) Fault
read_request bs = (request (start bs)).0

-- status, identifier and number
abbrev pub open_response : Position → Result (SessionReply Located) Fault × Position
open_response p =
    in_field (Exactly 7) p λ b.
    and_then (read_byte b) λ status c.
    and_then (read_four_bytes c) λ identifier d.
    and_then (read_two_bytes d) λ n e.
    (Ok (say.OpenResponse status identifier n), e)

-- status and number
abbrev pub close_response : Position → Result (SessionReply Located) Fault × Position
close_response p =
    in_field (Exactly 3) p λ b.
    and_then (read_byte b) λ status c.
    and_then (read_two_bytes c) λ n d.
    (Ok (say.CloseResponse status n), d)

abbrev reply_by : ℕ → Position → Result (SessionReply Located) Fault × Position
reply_by tag p =
    if tag == open_session_response then alone (open_response p)
    else if tag == close_session_response then alone (close_response p)
    else if tag == session_number then with_body say.Data p
    else (Err Tag, p)

-- a host's unit: 92 07 status identifier number, 96 03 status number, or 90 02 number and a body
abbrev pub reply : Position → Result (SessionReply Located) Fault × Position
reply p = and_then (read_byte p) λ tag q. reply_by tag q

abbrev pub read_reply : List ℕ → Result (SessionReply Located) Fault
read_reply bs = (reply (start bs)).0
