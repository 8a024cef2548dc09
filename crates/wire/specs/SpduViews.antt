-- What the readers' values say, with what their references point to.
use Rattle.std.specs.Prelude.{Ok, Err, Result}
use Rattle.wire.specs.declared.fault.Fault.{Fault}
use Rattle.wire.specs.declared.cursor.Part.{Part}
use Rattle.wire.specs.declared.fault.SessionFault.{SessionFault}
use Rattle.wire.specs.declared.spdu.SessionRequest.{SessionRequest}
use Rattle.wire.specs.declared.spdu.SessionRequest.TheVariants as ask
use Rattle.wire.specs.declared.spdu.SessionReply.{SessionReply}
use Rattle.wire.specs.declared.spdu.SessionReply.TheVariants as say
use Rattle.wire.specs.Reading.{Located}
use Rattle.wire.specs.CursorViews.{located}

abbrev pub session_result : {A : Type 0} → Result A SessionFault → Result A Fault
session_result (Ok a) = Ok a
session_result (Err e) = Err e.0

-- with another way to hold bodies
abbrev pub map_request : {A B : Type 0} → (A → B) → SessionRequest A → SessionRequest B
map_request f (ask.Open i) = ask.Open i
map_request f (ask.Close n) = ask.Close n
map_request f (ask.Data n a) = ask.Data n (f a)

abbrev pub session_request : Result (SessionRequest Part) SessionFault → Result (SessionRequest Located) Fault
session_request (Ok r) = Ok (map_request located r)
session_request (Err e) = Err e.0

abbrev pub map_reply : {A B : Type 0} → (A → B) → SessionReply A → SessionReply B
map_reply f (say.OpenResponse s i n) = say.OpenResponse s i n
map_reply f (say.CloseResponse s n) = say.CloseResponse s n
map_reply f (say.Data n a) = say.Data n (f a)

abbrev pub session_reply : Result (SessionReply Part) SessionFault → Result (SessionReply Located) Fault
session_reply (Ok r) = Ok (map_reply located r)
session_reply (Err e) = Err e.0
