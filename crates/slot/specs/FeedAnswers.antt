-- What a feed reads and answers.
use Rattle.std.specs.Prelude.{◌≡◌, ℕ, Bool, true, false, List, ◌++◌, length, take, drop, Ok, Err, Result, ◌+◌, nat_lt, nat_le, IfOk}
use Rattle.wire.specs.declared.cursor.Part.{Part}
use Rattle.wire.specs.declared.fault.TransportFault.{TransportFault}
use Rattle.wire.specs.Reading.{Located}
use Rattle.wire.specs.declared.tpdu.ResponseObject.{ResponseObject}
use Rattle.wire.specs.declared.tpdu.ResponseObject.TheVariants as obj
use Rattle.wire.specs.declared.tpdu.Response.{Response}
use Rattle.protocol.specs.declared.refusal.Refusal.{Refusal}
use Rattle.protocol.specs.declared.refusal.Refusal.TheVariants as no
use Rattle.resource.specs.Meaning.{Meaning}
use Rattle.protocol.specs.Results.{refuse_if}
use Rattle.protocol.specs.Limits.{fragment_limit, data_limit}
use Rattle.protocol.specs.SlotRecord.{SlotRecord, ConnectionRecord, append_fragment}
use Rattle.protocol.specs.SlotCalls.{SlotState, ServedCall, CallAnswer, done, turn_back, set_connection, after_fragment}
use Rattle.slot.specs.ConnectionViews.{part_of, append_data}
use Rattle.slot.specs.RecordViews.{alter}

-- whether the turn comes back for more
abbrev pub feed_answer : Result Bool Refusal → Result CallAnswer Refusal
feed_answer (Ok true) = Ok turn_back
feed_answer (Ok false) = Ok done
feed_answer (Err e) = Err e

-- a part of some bytes is what stands at its offset
abbrev pub PartStandsAtOffset : List ℕ → Part → Type 0
PartStandsAtOffset bs p = p.bytes.now ≡ take (length p.bytes.now) (drop p.offset bs)

abbrev pub ObjectStandsAtOffset : List ℕ → ResponseObject Part → Type 0
ObjectStandsAtOffset bs (obj.DataLast p) = PartStandsAtOffset bs p
ObjectStandsAtOffset bs (obj.DataMore p) = PartStandsAtOffset bs p
ObjectStandsAtOffset bs _ = Unit {0}

abbrev pub DataStandAtOffset : List ℕ → Result (Response Part) TransportFault → Type 0
DataStandAtOffset bs r = IfOk r (λ x. ObjectStandsAtOffset bs x.object)

-- a part of a connection's fragments
abbrev pub part_with_offset : {A : Type 0} → ℕ → ℕ → ℕ → SlotState A → Located
part_with_offset c start n st = record { offset = start; bytes = part_of start n (st.slot.conn c) }

-- whether there is room for a part of a connection's fragments beside its data
abbrev pub fits_data : ℕ → ℕ → ConnectionRecord → Bool
fits_data start n x = nat_le (length x.session_data + length (part_of start n x)) data_limit

-- data join those before them; or there is no room for them, and nothing changes
abbrev pub AddsData : ℕ → ℕ → ℕ → Result (Unit {0}) Refusal → SlotRecord → SlotRecord → Type 0
AddsData c start n (Ok u) before after = (fits_data start n (before.conn c) ≡ true) × (after ≡ alter c (append_data start n) before)
AddsData c start n (Err e) before after = (fits_data start n (before.conn c) ≡ false) × (after ≡ before) × (e ≡ no.Data)

-- a fragment joins those before it, if there is room; then more are to come, or it was the last
module _ {S : Type 0} (M : Meaning S) (made : M.Made) (at : ℕ) where
  abbrev pub join_outcome : ℕ → Bool → List ℕ → SlotState M.Share → Result (ServedCall M.Share) Refusal
  join_outcome c more bs st =
      refuse_if (nat_lt fragment_limit (length ((st.slot.conn c).fragments ++ bs))) no.Fragments
      (after_fragment M made at c more (set_connection c (append_fragment bs (st.slot.conn c)) st))
