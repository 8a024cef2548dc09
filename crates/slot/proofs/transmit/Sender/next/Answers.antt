use Rattle.std.proofs.Common.{◌≡◌, true, false, length, ap, ◌∙◌, arith, rules}
use Rattle.protocol.specs.Runs.{answer_of, state_after}
use Rattle.slot.specs.Refinement.{state_at}
use Rattle.slot.specs.DueCommands.{due_of}
use Rattle.slot.proofs.FrontOfSlice.{next_due, valid_of}
use Rattle.slot.proofs.transmit.Sender.next.Goals as goal

pub returns-clause-did : goal.returns-clause-did
returns-clause-did g c =
    let M = g.R.Resource.meaning in
    let k = c.args.self.now.c.number in
    let r = c.args.self.now.resource.now in
    let st = state_at M c.args.self.now.at c.args.self.now.record.now r in
    let size = c.in_ok-size.size.bytes in
    let present : true ≡ st.slot.present = search rules in
    let agreed : size ≡ st.slot.size = search rules in
    let in' : (st.slot.conn k).out ≡ false = search rules in
    let told = next_due M (M.made r) c.args.self.now.at k st (due_of k c.in_ok-due.due st) size (length c.args.out.now) (valid_of k (omega arith) (omega arith)) present in' agreed c.in_ok-due.ensures in
    record { answer = c.write.ensures.did.answer ∙ ap answer_of told; after = c.write.ensures.did.after ∙ ap (state_after st) told; kept = c.write.ensures.did.kept }
