use Rattle.std.proofs.Common.{ℕ, ◌≤◌, replicate, subst, length, take, ap, ◌∙◌, sym, arith}
use Rattle.std.proofs.lemmas.List.{length-replicate}
use Rattle.wire.specs.LpduWriting.{lpdus_bytes}
use Rattle.wire.specs.TpduWriting.{command_bytes}
use Rattle.slot.specs.WrittenCommands.{put_if_room}
use Rattle.slot.proofs.FrontOfSlice.{command_or, lpdus_fit}
use Rattle.slot.proofs.transmit.write_units.Goals as goal

pub returns : goal.returns
returns c =
    let k = c.args.c.number in
    let out = c.args.out.now in
    let tpdu = take c.unwrap_or-n.result c.write_command.new.out in
    let same = ap (command_bytes k) c.with_data.ensures.value in
    let front = command_or k c.get-id.result (λ x. x.now) c.with_data.result (replicate 132 0) c.write_command.new.out c.write_command.result c.unwrap_or-n.result c.get-id.ensures (subst (λ o. length (command_bytes k o) ≤ 132) (sym c.with_data.ensures.value) (c.with_data.ensures.short k)) (length-replicate {A = ℕ} 132 0) c.write_command.ensures c.unwrap_or-n.ensures ∙ same in
    let fits = lpdus_fit c.get-id.result c.get.result tpdu out c.write_lpdus.new.out c.write_lpdus.result c.ok.result (omega arith) c.write_lpdus.ensures c.ok.ensures.value in
    (λ i. put_if_room (lpdus_bytes (sym c.get-id.ensures i) (sym c.get.ensures i) (sym front i)) out) ∙ fits
