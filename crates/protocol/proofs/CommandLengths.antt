-- How long a command is in link units. Assumes nothing.
use Rattle.std.proofs.Common.{ℕ, zero, suc, ◌+◌, ◌-◌, ◌*◌, ◌/◌, ◌<◌, ◌≤◌, ltb, leb, List, [], ◌∷◌, length, take, drop, arith, length-append, length-drop, length-take}
use Rattle.std.proofs.lemmas.Bool.{cond_both, leb-false, ltb-false}
use Rattle.std.specs.List.{flat_map}
use Rattle.wire.specs.Writing.{length_bytes, object_bytes}
use Rattle.wire.specs.LpduWriting.{cut, lpdus_bytes}
use Rattle.wire.specs.LpduTags as mark
use Rattle.wire.specs.declared.tpdu.Command.{Command}
use Rattle.wire.specs.declared.tpdu.Command.TheVariants as cmd
use Rattle.wire.specs.TpduWriting.{command_tag, command_body, command_bytes}
use Rattle.wire.specs.declared.spdu.SessionReply.TheVariants as say
use Rattle.protocol.specs.Limits.{least_size, command_limit}
use Rattle.protocol.specs.declared.state.OwedCommand.{OwedCommand}
use Rattle.protocol.specs.declared.state.OwedCommand.TheVariants.{NewConnection, NoConnection, SessionUnit}
use Rattle.protocol.specs.Sound.{OwedIsShort}
use Rattle.protocol.specs.SlotCalls.{command_of_owed}

-- each link unit but the last has at least 14 bytes beside its header of two
cut_length : (k id most : ℕ) (bs : List ℕ) → 14 ≤ most → length (flat_map (λ x. x) (cut k id most bs)) ≤ length bs + 2 + 2 * (length bs / 14)
cut_length zero id most bs h = omega arith
cut_length (suc k) id most bs h =
    cond_both (leb (length bs) most) ((id ∷ mark.last ∷ bs) ∷ []) ((id ∷ mark.more ∷ take most bs) ∷ cut k id most (drop most bs)) (λ l. length (flat_map (λ x. x) l) ≤ length bs + 2 + 2 * (length bs / 14))
    (λ _. omega (arith, length-append bs []))
    (λ e. let long = leb-false (length bs) most e in
    let rest = cut_length k id most (drop most bs) h in
    omega (arith, length-append (take most bs) (flat_map (λ x. x) (cut k id most (drop most bs))), length-take most bs, length-drop most bs))

object_length : (tag : ℕ) (body : List ℕ) → length body < 256 → length (object_bytes tag body) ≤ length body + 3
object_length tag body h = omega (arith, length-append (length_bytes (length body)) body, short)
  where
    short : length (length_bytes (length body)) ≤ 2
    short = cond_both (ltb (length body) 0x80) (length body ∷ []) _ (λ l. length l ≤ 2) (λ _. omega arith)
        (λ _. cond_both (ltb (length body) 0x100) (0x81 ∷ length body ∷ []) _ (λ l. length l ≤ 2) (λ _. omega arith) (λ e. absurd (omega (arith, ltb-false (length body) 0x100 e))))

-- a command whose session unit, if it has one, is short
abbrev pub CommandIsShort : Command (List ℕ) → Type 0
CommandIsShort cmd.Create = Unit {0}
CommandIsShort cmd.Delete = Unit {0}
CommandIsShort cmd.DeleteReply = Unit {0}
CommandIsShort cmd.Receive = Unit {0}
CommandIsShort (cmd.Data bs) = length bs ≤ 128
CommandIsShort (cmd.NewConnection o) = Unit {0}
CommandIsShort (cmd.Error e) = Unit {0}

pub body_length : (c : ℕ) (o : Command (List ℕ)) → CommandIsShort o → length (command_body c o) ≤ 129
body_length c cmd.Create h = omega arith
body_length c cmd.Delete h = omega arith
body_length c cmd.DeleteReply h = omega arith
body_length c cmd.Receive h = omega arith
body_length c (cmd.Data bs) h = omega arith
body_length c (cmd.NewConnection o) h = omega arith
body_length c (cmd.Error e) h = omega arith

pub command_length : (c : ℕ) (o : Command (List ℕ)) → CommandIsShort o → length (command_bytes c o) ≤ 132
command_length c o h =
    let body = body_length c o h in
    omega (arith, object_length (command_tag o) (command_body c o) (omega arith))

pub lpdus_length : (c size : ℕ) (o : Command (List ℕ)) → least_size ≤ size → CommandIsShort o → length (lpdus_bytes c size (command_bytes c o)) ≤ command_limit
lpdus_length c size o b h = omega (arith, cut_length (length (command_bytes c o)) c (size - 2) (command_bytes c o) (omega arith), command_length c o h)

pub owed_short : (c : ℕ) (o : OwedCommand (List ℕ)) → OwedIsShort o → CommandIsShort (command_of_owed c o)
owed_short c NewConnection b = tt
owed_short c NoConnection b = tt
owed_short c (SessionUnit (say.OpenResponse s i n)) b = omega arith
owed_short c (SessionUnit (say.CloseResponse s n)) b = omega arith
owed_short c (SessionUnit (say.Data n a)) b = omega arith
