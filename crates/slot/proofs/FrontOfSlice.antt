-- What was written to the front of a slice.
use Rattle.std.proofs.Common.{◌≡◌, ℕ, ◌≤◌, Bool, true, false, cond, not, ltb, leb, List, ◌++◌, length, take, drop, Some, None, Ok, Err, Option, Result, sym, refl, ap, ◌∙◌, arith}
use Rattle.std.proofs.lemmas.List.{take_at, length-append}
use Rattle.std.specs.Result.{result_unwrap_or, result_ok}
use Rattle.std.proofs.lemmas.Bool.{le-ltb, lt-ltb, le-leb, leb-true, leb-false}
use Rattle.wire.specs.declared.writer.WriteFault.{WriteFault}
use Rattle.wire.specs.declared.writer.WriteFault.TheVariants.{Room, Size}
use Rattle.protocol.specs.declared.refusal.Refusal.TheVariants as no
use Rattle.resource.specs.Meaning.{Meaning}
use Rattle.protocol.specs.Results.{and_then, refuse_if}
use Rattle.protocol.specs.SlotRecord.{valid_connection}
use Rattle.protocol.specs.SlotCalls.{SlotState, due_command, write_in, next_outcome}
use Rattle.protocol.specs.SlotCalls as calls
use Rattle.wire.specs.LpduWriting.{lpdus_bytes, write_lpdus_front}
use Rattle.std.proofs.lemmas.Bool.Decides.{nat_tests}
use Rattle.resource.proofs.TableLemmas.{no_some}
use Rattle.slot.specs.WrittenCommands.{put_if_room}
use Rattle.wire.specs.declared.tpdu.Command.{Command}
use Rattle.wire.specs.declared.tpdu.Command.TheVariants as cmd
use Rattle.wire.specs.TpduWriting.{command_tag, command_body, command_bytes}
use Rattle.wire.specs.TpduViews.{map_command}
use Rattle.wire.specs.Writing.{write_front, write_front_with, write_object_front, object_bytes, length_bytes}

-- bytes that were laid to the front of a slice with room
laid_or : (bs out out' : List ℕ) (r : Result ℕ WriteFault) (n : ℕ) → length bs ≤ length out → write_front bs out ≡ (r, out') → n ≡ result_unwrap_or r 0 → take n out' ≡ bs
laid_or bs out out' r n room e u =
    let f : ◌≡◌ {A = Result ℕ WriteFault × List ℕ} (Ok (length bs), bs ++ drop (length bs) out) (r, out') = sym (ap (λ t. cond t (Ok (length bs), bs ++ drop (length bs) out) (Err Room, out)) (le-leb (length bs) (length out) room)) ∙ e in
    let all : bs ++ drop (length bs) out ≡ out' = ap (λ z. z.1) f in
    ap (take n) (sym all) ∙ take_at bs (drop (length bs) out) n (ap (λ z. result_unwrap_or z.0 0) f ∙ sym u)

-- an object whose length two bytes can tell is laid as its bytes are
laid_short : (tag : ℕ) (body out : List ℕ) → length (object_bytes tag body) ≤ 132 → write_object_front tag body out ≡ write_front (object_bytes tag body) out
laid_short tag body out h =
    ap (λ t. write_front_with (cond t None (Some (length body))) tag body out) (le-ltb 0xffff (length body) (omega (arith, length-append (length_bytes (length body)) body)))

-- a tag does not rest on how data are held
tag_same : {A B : Type 0} (f : A → B) (o : Command A) → command_tag (map_command f o) ≡ command_tag o
tag_same f cmd.Create = refl
tag_same f cmd.Delete = refl
tag_same f cmd.DeleteReply = refl
tag_same f cmd.Receive = refl
tag_same f (cmd.Data a) = refl
tag_same f (cmd.NewConnection c) = refl
tag_same f (cmd.Error e) = refl

-- a command that was laid to the front of a slice, in which there is room for every one
pub command_or : {A : Type 0} (c id : ℕ) (f : A → List ℕ) (o : Command A) (out out' : List ℕ) (r : Result ℕ WriteFault) (n : ℕ) → id ≡ c → length (command_bytes c (map_command f o)) ≤ 132 → length out ≡ 132
    → write_object_front (command_tag o) (command_body id (map_command f o)) out ≡ (r, out') → n ≡ result_unwrap_or r 0 → take n out' ≡ command_bytes c (map_command f o)
command_or c id f o out out' r n same short room e =
    laid_or (command_bytes c (map_command f o)) out out' r n (rw room short)
    (sym (laid_short (command_tag (map_command f o)) (command_body c (map_command f o)) out short)
    ∙ (λ i. write_object_front (tag_same f o i) (command_body (sym same i) (map_command f o)) out)
    ∙ e)

-- link units that were written because there was room, or were not because there was none
abbrev okayed : Result ℕ WriteFault × List ℕ → Option ℕ × List ℕ
okayed z = (result_ok z.0, z.1)

pub lpdus_fit : (id size : ℕ) (bs out out' : List ℕ) (r : Result ℕ WriteFault) (o : Option ℕ) → 3 ≤ size → write_lpdus_front id size bs out ≡ (r, out') → o ≡ result_ok r → put_if_room (lpdus_bytes id size bs) out ≡ (o, out')
lpdus_fit id size bs out out' r o least e u = go (leb (length ws) (length out)) refl (sym (ap (λ t. cond t (Err Size, out) (write_front ws out)) (le-ltb size 3 least)) ∙ e)
  where
    ws : List ℕ
    ws = lpdus_bytes id size bs

    fits : Bool → Option ℕ × List ℕ
    fits t = cond t (None, out) (Some (length ws), ws ++ drop (length ws) out)

    go : (t : Bool) → leb (length ws) (length out) ≡ t → ◌≡◌ {A = Result ℕ WriteFault × List ℕ} (cond t (Ok (length ws), ws ++ drop (length ws) out) (Err Room, out)) (r, out') → put_if_room ws out ≡ (o, out')
    go true t f = ap fits (le-ltb (length out) (length ws) (leb-true (length ws) (length out) t)) ∙ ap okayed f ∙ (λ i. (sym u i, out'))
    go false t f = ap fits (lt-ltb (length out) (length ws) (leb-false (length ws) (length out) t)) ∙ ap okayed f ∙ (λ i. (sym u i, out'))

-- a unit that was written because there was room, or was not because there was none
pub record Wrote (bs out out' : List ℕ) (n : ℕ) : Type 0 where
  pub fits : ltb (length out) (length bs) ≡ false
  pub front : take n out' ≡ bs
  pub whole : out' ≡ bs ++ drop (length bs) out
  pub inside : n ≤ length out'

pub wrote_some : (bs out out' : List ℕ) (n : ℕ) → put_if_room bs out ≡ (Some n, out') → Wrote bs out out' n
wrote_some bs out out' n e = go (ltb (length out) (length bs)) refl e
  where
    go : (t : Bool) → ltb (length out) (length bs) ≡ t → ◌≡◌ {A = Option ℕ × List ℕ} (cond t (None, out) (Some (length bs), bs ++ drop (length bs) out)) (Some n, out') → Wrote bs out out' n
    go true t e = no_some n (ap (λ z. z.0) e)
    go false t e =
        let p : Some (length bs) ≡ Some n = ap (λ z. z.0) e in
        let same : length bs ≡ n = cc in
        let all : bs ++ drop (length bs) out ≡ out' = ap (λ z. z.1) e in
        record { fits = t; front = ap (take n) (sym all) ∙ take_at bs (drop (length bs) out) n same; whole = sym all; inside = omega (arith, ap length all, length-append bs (drop (length bs) out)) }

module _ {S : Type 0} (M : Meaning S) (made : M.Made) (at c : ℕ) where
  -- a command that is due is what next writes
  pub next_due : (st : SlotState M.Share) (d : calls.DueOutcome M.Share) (size room : ℕ) → valid_connection c ≡ true → true ≡ st.slot.present → (st.slot.conn c).out ≡ false → size ≡ st.slot.size
      → Ok d ≡ due_command M made at c (st.slot.conn c).state st → write_in M made at room (lpdus_bytes c size (command_bytes c d.command)) d ≡ next_outcome M made at c room st
  next_due st d size room v p o z k =
      λ i. refuse_if (not (sym v i)) no.Connection (refuse_if (not (p i)) no.Presence (refuse_if (sym o i) no.Turn (and_then (k i) (λ d. write_in M made at room (lpdus_bytes c (z i) (command_bytes c d.command)) d))))

-- 1 and 2 are the connections
pub valid_of : (c : ℕ) → 1 ≤ c → c ≤ 2 → valid_connection c ≡ true
valid_of c lo hi = grind (arith, nat_tests)
