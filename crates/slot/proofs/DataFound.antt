-- The data of a transport unit that was read stand at their offset.
use Rattle.std.proofs.Common.{◌≡◌, ℕ, List, Ok, Err, Result, sym}
use Rattle.wire.specs.declared.cursor.Part.{Part}
use Rattle.wire.specs.declared.fault.TransportFault.{TransportFault}
use Rattle.wire.specs.CursorViews.{located}
use Rattle.wire.specs.declared.tpdu.ResponseObject.{ResponseObject}
use Rattle.wire.specs.declared.tpdu.ResponseObject.TheVariants as obj
use Rattle.wire.specs.declared.tpdu.Response.{Response}
use Rattle.wire.specs.TpduReading.{read_response}
use Rattle.wire.specs.TpduViews.{transport_response, map_object}
use Rattle.wire.specs.UnitLaws as law
use Rattle.wire.proofs.BodiesWithin.{lies_within}
use Rattle.slot.specs.FeedAnswers.{ObjectStandsAtOffset, DataStandAtOffset}

object_found : (bs : List ℕ) (o : ResponseObject Part) → law.ObjectLiesWithin bs (map_object located o) → ObjectStandsAtOffset bs o
object_found bs obj.Nothing h = tt
object_found bs obj.CreateReply h = tt
object_found bs obj.Delete h = tt
object_found bs obj.DeleteReply h = tt
object_found bs obj.RequestConnection h = tt
object_found bs (obj.DataLast p) h = h.part
object_found bs (obj.DataMore p) h = h.part

pub found : (id : ℕ) (bs : List ℕ) (r : Result (Response Part) TransportFault) → transport_response r ≡ read_response id bs → DataStandAtOffset bs r
found id bs (Ok r) e = object_found bs r.object (lies_within.responses id bs _ (sym e))
found id bs (Err f) e = tt
