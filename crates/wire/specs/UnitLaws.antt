-- The laws of the units.
use Rattle.std.specs.Prelude.{◌≡◌, ℕ, ◌<◌, ◌≤◌, List, [], ◌∷◌, ◌++◌, length, Ok, Err}
use Rattle.wire.specs.declared.fault.Fault.TheVariants.{Length}
use Rattle.wire.specs.Reading.{Located, start, with_left, read_length}
use Rattle.wire.specs.Writing.{length_bytes}
use Rattle.wire.specs.declared.lpdu.Fragment.{Fragment}
use Rattle.wire.specs.LpduReading.{read_fragment}
use Rattle.wire.specs.LpduWriting.{lpdus_bytes}
use Rattle.wire.specs.declared.tpdu.ResponseObject.{ResponseObject}
use Rattle.wire.specs.declared.tpdu.ResponseObject.TheVariants as obj
use Rattle.wire.specs.declared.tpdu.Response.{Response}
use Rattle.wire.specs.declared.tpdu.Command.{Command}
use Rattle.wire.specs.declared.tpdu.Command.TheVariants as cmd
use Rattle.wire.specs.TpduReading.{read_response, read_command}
use Rattle.wire.specs.TpduWriting.{command_body, command_bytes}
use Rattle.wire.specs.TpduViews.{map_command}
use Rattle.wire.specs.declared.spdu.SessionRequest.{SessionRequest}
use Rattle.wire.specs.declared.spdu.SessionRequest.TheVariants as ask
use Rattle.wire.specs.declared.spdu.SessionReply.{SessionReply}
use Rattle.wire.specs.declared.spdu.SessionReply.TheVariants as say
use Rattle.wire.specs.SpduReading.{read_request, read_reply}
use Rattle.wire.specs.SpduWriting.{reply_bytes}
use Rattle.wire.specs.SpduViews.{map_reply}
use Rattle.wire.specs.declared.apdu.Apdu.{Apdu}
use Rattle.wire.specs.ApduReading.{read_apdu}
use Rattle.wire.specs.ReadingBack.{AllBytes, result_map, bytes_of, read_lpdus, LiesWithin}

-- a written length reads back, whatever follows it
abbrev pub LengthsReadBack : Type 0
LengthsReadBack = (n end : ℕ) (rest : List ℕ) → n < 0x10000 → read_length (record { left = length_bytes n ++ rest; end = end }) ≡ (Ok n, record { left = rest; end = end })

-- no bytes that read as a length are fewer than those that are written for it
abbrev pub LengthsShortest : Type 0
LengthsShortest = (n : ℕ) (bs : List ℕ) → AllBytes bs → read_length (start bs) ≡ (Ok n, with_left [] (start bs)) → length (length_bytes n) ≤ length bs

-- a written command reads back on its connection, where two bytes can tell its length
abbrev pub CommandsReadBack : Type 0
CommandsReadBack = (id : ℕ) (c : Command (List ℕ)) → length (command_body id c) < 0x10000 → result_map (map_command bytes_of) (read_command id (command_bytes id c)) ≡ Ok c

-- a written session unit reads back
abbrev pub RepliesReadBack : Type 0
RepliesReadBack = (r : SessionReply (List ℕ)) → result_map (map_reply bytes_of) (read_reply (reply_bytes r)) ≡ Ok r

-- the link units of a transport unit join to it again, where the size leaves room for a fragment
abbrev pub LpdusReadBack : Type 0
LpdusReadBack = (id size : ℕ) (bs : List ℕ) → 3 ≤ size → 1 ≤ length bs → read_lpdus (length bs) size id (lpdus_bytes id size bs) ≡ Ok bs

abbrev pub ObjectLiesWithin : List ℕ → ResponseObject Located → Type 0
ObjectLiesWithin bs obj.Nothing = Unit {0}
ObjectLiesWithin bs obj.CreateReply = Unit {0}
ObjectLiesWithin bs obj.Delete = Unit {0}
ObjectLiesWithin bs obj.DeleteReply = Unit {0}
ObjectLiesWithin bs obj.RequestConnection = Unit {0}
ObjectLiesWithin bs (obj.DataLast p) = LiesWithin bs p
ObjectLiesWithin bs (obj.DataMore p) = LiesWithin bs p

abbrev pub CommandLiesWithin : List ℕ → Command Located → Type 0
CommandLiesWithin bs cmd.Create = Unit {0}
CommandLiesWithin bs cmd.Delete = Unit {0}
CommandLiesWithin bs cmd.DeleteReply = Unit {0}
CommandLiesWithin bs cmd.Receive = Unit {0}
CommandLiesWithin bs (cmd.Data p) = LiesWithin bs p
CommandLiesWithin bs (cmd.NewConnection c) = Unit {0}
CommandLiesWithin bs (cmd.Error e) = Unit {0}

abbrev pub RequestLiesWithin : List ℕ → SessionRequest Located → Type 0
RequestLiesWithin bs (ask.Open i) = Unit {0}
RequestLiesWithin bs (ask.Close n) = Unit {0}
RequestLiesWithin bs (ask.Data n p) = LiesWithin bs p

abbrev pub ReplyLiesWithin : List ℕ → SessionReply Located → Type 0
ReplyLiesWithin bs (say.OpenResponse s i n) = Unit {0}
ReplyLiesWithin bs (say.CloseResponse s n) = Unit {0}
ReplyLiesWithin bs (say.Data n p) = LiesWithin bs p

-- whatever bytes a reader is given, the body that it hands out lies within them
pub record BodiesLieWithin : Type 0 where
  pub fragments : (size id : ℕ) (bs : List ℕ) (f : Fragment Located) → read_fragment size id bs ≡ Ok f → LiesWithin bs f.bytes
  pub responses : (id : ℕ) (bs : List ℕ) (r : Response Located) → read_response id bs ≡ Ok r → ObjectLiesWithin bs r.object
  pub commands : (id : ℕ) (bs : List ℕ) (c : Command Located) → read_command id bs ≡ Ok c → CommandLiesWithin bs c
  pub requests : (bs : List ℕ) (r : SessionRequest Located) → read_request bs ≡ Ok r → RequestLiesWithin bs r
  pub replies : (bs : List ℕ) (r : SessionReply Located) → read_reply bs ≡ Ok r → ReplyLiesWithin bs r
  pub objects : (bs : List ℕ) (a : Apdu Located) → read_apdu bs ≡ Ok a → LiesWithin bs a.body

-- worked lengths
pub record WorkedLengths : Type 0 where
  pub one_byte : (read_length (start (0x7f ∷ []))).0 ≡ Ok 127
  pub two_bytes : (read_length (start (0x81 ∷ 0x80 ∷ []))).0 ≡ Ok 128
  pub no_size : (read_length (start (0x80 ∷ []))).0 ≡ Err Length
  pub three_size_bytes : (read_length (start (0x83 ∷ 0x00 ∷ 0x00 ∷ 0x05 ∷ []))).0 ≡ Err Length
  pub written : length_bytes 128 ≡ 0x81 ∷ 0x80 ∷ []
