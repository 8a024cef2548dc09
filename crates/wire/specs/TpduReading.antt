-- How transport units are read.
use Rattle.std.specs.Prelude.{ℕ, Bool, if◌then◌else◌, List, Some, None, Ok, Err, Option, Result, ◌==◌, nat_le}
use Rattle.wire.specs.declared.fault.Fault.{Fault}
use Rattle.wire.specs.declared.fault.Fault.TheVariants.{Tag, Content}
use Rattle.wire.specs.declared.cursor.FieldLength.{FieldLength}
use Rattle.wire.specs.declared.cursor.FieldLength.TheVariants.{Exactly, AtLeast}
use Rattle.wire.specs.declared.tpdu.Command.{Command}
use Rattle.wire.specs.declared.tpdu.Command.TheVariants as cmd
use Rattle.wire.specs.declared.tpdu.ResponseObject.{ResponseObject}
use Rattle.wire.specs.declared.tpdu.ResponseObject.TheVariants as obj
use Rattle.wire.specs.declared.tpdu.Response.{Response}
use Rattle.wire.specs.Reading.{Position, Located, start, and_then, read_byte, read_field, read_rest, read_end}
use Rattle.wire.specs.TpduTags.{sb, rcv, create_t_c, c_t_c_reply, delete_t_c, d_t_c_reply, request_t_c, new_t_c, t_c_error, t_data_last, t_data_more}

-- the bytes after a first one that is the connection
abbrev pub after_id : ℕ → Result ℕ Fault → Position → Result Position Fault
after_id id (Ok i) p = if i == id then Ok p else Err Content
after_id id (Err e) p = Err e

-- the bytes of an object after the first, which is the connection
abbrev pub body_after_id : ℕ → FieldLength → Position → Result Position Fault × Position
body_after_id id size p = and_then (read_field size p) λ body q. (after_id id (read_byte body).0 (read_byte body).1, q)

-- an object that has nothing but the connection
abbrev pub bare : ℕ → Position → Result (Unit {0}) Fault × Position
bare id p = and_then (body_after_id id (Exactly 1) p) λ _ q. (Ok tt, q)

abbrev pub data_after_id : ℕ → Position → Result Located Fault × Position
data_after_id id p = and_then (body_after_id id (AtLeast 1) p) λ body q. (Ok (read_rest body), q)

-- an object that has one byte beside the connection
abbrev pub byte_after_id : ℕ → Position → Result ℕ Fault × Position
byte_after_id id p = and_then (body_after_id id (Exactly 2) p) λ body q. ((read_byte body).0, q)

-- what was read is this object
abbrev as' : {A B : Type 0} → (A → B) → Result A Fault × Position → Result B Fault × Position
as' make s = and_then s λ a p. (Ok (make a), p)

-- an object of a module that has nothing but the connection, by its tag
abbrev pub bare_object : {A : Type 0} → ℕ → Option (ResponseObject A)
bare_object tag =
    if tag == c_t_c_reply then Some obj.CreateReply
    else if tag == delete_t_c then Some obj.Delete
    else if tag == d_t_c_reply then Some obj.DeleteReply
    else if tag == request_t_c then Some obj.RequestConnection
    else None

-- the named object with nothing but the connection; a tag that names none is at fault
abbrev pub bare_or_fault : {A : Type 0} → ℕ → Option A → Position → Result A Fault × Position
bare_or_fault id None p = (Err Tag, p)
bare_or_fault id (Some a) p = as' (λ _. a) (bare id p)

abbrev object_by : ℕ → ℕ → Position → Result (ResponseObject Located) Fault × Position
object_by id tag p =
    if tag == t_data_last then as' obj.DataLast (data_after_id id p)
    else if tag == t_data_more then as' obj.DataMore (data_after_id id p)
    else bare_or_fault id (bare_object tag) p

-- the object before the status, if any
abbrev pub object : ℕ → Position → Result (ResponseObject Located) Fault × Position
object id p = and_then (read_byte p) λ tag q. if tag == sb then (Ok obj.Nothing, p) else object_by id tag q

-- the status 80 02 id v: DA is the top bit of v
abbrev pub status : ℕ → Position → Result Bool Fault × Position
status id p =
    and_then (read_byte p) λ tag q.
    if tag == sb then as' (λ v. nat_le 0x80 v) (byte_after_id id q) else (Err Tag, q)

-- a module's unit: at most one object, the status, and nothing after it
abbrev pub response : ℕ → Position → Result (Response Located) Fault × Position
response id p =
    and_then (object id p) λ o q.
    and_then (status id q) λ da r.
    and_then (read_end r, r) λ _ s.
    (Ok (record { object = o; available = da }), s)

abbrev pub read_response : ℕ → List ℕ → Result (Response Located) Fault
read_response id bs = (response id (start bs)).0

-- a command that has nothing but the connection, by its tag
abbrev pub bare_command : {A : Type 0} → ℕ → Option (Command A)
bare_command tag =
    if tag == create_t_c then Some cmd.Create
    else if tag == delete_t_c then Some cmd.Delete
    else if tag == d_t_c_reply then Some cmd.DeleteReply
    else if tag == rcv then Some cmd.Receive
    else None

abbrev order_by : ℕ → ℕ → Position → Result (Command Located) Fault × Position
order_by id tag p =
    if tag == t_data_last then as' cmd.Data (data_after_id id p)
    else if tag == new_t_c then as' cmd.NewConnection (byte_after_id id p)
    else if tag == t_c_error then as' cmd.Error (byte_after_id id p)
    else bare_or_fault id (bare_command tag) p

-- the object of a host's unit
abbrev pub command_object : ℕ → Position → Result (Command Located) Fault × Position
command_object id p = and_then (read_byte p) λ tag q. order_by id tag q

-- a host's unit: one object, and nothing after it
abbrev pub command : ℕ → Position → Result (Command Located) Fault × Position
command id p =
    and_then (command_object id p) λ c q.
    and_then (read_end q, q) λ _ r.
    (Ok c, r)

abbrev pub read_command : ℕ → List ℕ → Result (Command Located) Fault
read_command id bs = (command id (start bs)).0
