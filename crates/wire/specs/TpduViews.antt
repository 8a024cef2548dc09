-- What the readers' values say, with what their references point to.
use Rattle.std.specs.Prelude.{Ok, Err, Result}
use Rattle.wire.specs.declared.fault.Fault.{Fault}
use Rattle.wire.specs.declared.cursor.Part.{Part}
use Rattle.wire.specs.declared.cursor.Cursor.{Cursor}
use Rattle.wire.specs.declared.fault.TransportFault.{TransportFault}
use Rattle.wire.specs.declared.tpdu.ResponseObject.{ResponseObject}
use Rattle.wire.specs.declared.tpdu.ResponseObject.TheVariants as obj
use Rattle.wire.specs.declared.tpdu.Response.{Response}
use Rattle.wire.specs.declared.tpdu.Command.{Command}
use Rattle.wire.specs.declared.tpdu.Command.TheVariants as cmd
use Rattle.wire.specs.Reading.{Position, Located}
use Rattle.wire.specs.CursorViews.{position_of, located}

abbrev pub transport_result : {A : Type 0} → Result A TransportFault → Result A Fault
transport_result (Ok a) = Ok a
transport_result (Err e) = Err e.0

abbrev pub transport_position : Result Cursor TransportFault → Result Position Fault
transport_position (Ok c) = Ok (position_of c)
transport_position (Err e) = Err e.0

abbrev pub transport_located : Result Part TransportFault → Result Located Fault
transport_located (Ok p) = Ok (located p)
transport_located (Err e) = Err e.0

-- with another way to hold data
abbrev pub map_object : {A B : Type 0} → (A → B) → ResponseObject A → ResponseObject B
map_object f obj.Nothing = obj.Nothing
map_object f obj.CreateReply = obj.CreateReply
map_object f obj.Delete = obj.Delete
map_object f obj.DeleteReply = obj.DeleteReply
map_object f obj.RequestConnection = obj.RequestConnection
map_object f (obj.DataLast a) = obj.DataLast (f a)
map_object f (obj.DataMore a) = obj.DataMore (f a)

abbrev pub transport_object : Result (ResponseObject Part) TransportFault → Result (ResponseObject Located) Fault
transport_object (Ok o) = Ok (map_object located o)
transport_object (Err e) = Err e.0

abbrev pub transport_response : Result (Response Part) TransportFault → Result (Response Located) Fault
transport_response (Ok r) = Ok (record { object = map_object located r.object; available = r.available })
transport_response (Err e) = Err e.0

abbrev pub map_command : {A B : Type 0} → (A → B) → Command A → Command B
map_command f cmd.Create = cmd.Create
map_command f cmd.Delete = cmd.Delete
map_command f cmd.DeleteReply = cmd.DeleteReply
map_command f cmd.Receive = cmd.Receive
map_command f (cmd.Data a) = cmd.Data (f a)
map_command f (cmd.NewConnection c) = cmd.NewConnection c
map_command f (cmd.Error e) = cmd.Error e

abbrev pub transport_command : Result (Command Part) TransportFault → Result (Command Located) Fault
transport_command (Ok c) = Ok (map_command located c)
transport_command (Err e) = Err e.0
