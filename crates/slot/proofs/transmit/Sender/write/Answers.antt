use Rattle.std.proofs.Common.{◌≡◌, take, is_some, Ok, Result, sym, ap, ◌∙◌}
use Rattle.protocol.specs.declared.refusal.Refusal.{Refusal}
use Rattle.protocol.specs.declared.refusal.Refusal.TheVariants as no
use Rattle.protocol.specs.Results.{refuse_if}
use Rattle.protocol.specs.SlotCalls.{CallAnswer, serve, wrote}
use Rattle.protocol.specs.Runs.{answer_of, state_after}
use Rattle.slot.specs.Refinement.{state_at}
use Rattle.slot.proofs.StepsKeep.{kept_same}
use Rattle.slot.specs.DueCommands.{lpdus, hands_out, left_by}
use Rattle.slot.specs.WrittenCommands.{buffer_after}
use Rattle.slot.proofs.FrontOfSlice.{wrote_some}
use Rattle.slot.proofs.transmit.Sender.write.Goals as goal

pub returns : goal.returns
returns g c =
    let M = g.R.Resource.meaning in
    let k = c.args.self.now.c.number in
    let r = c.args.self.now.resource.now in
    let st = state_at M c.args.self.now.at c.args.self.now.record.now r in
    let d = c.args.due in
    let out = c.args.out.now in
    let out' = c.write_units.new.out in
    let bs = lpdus k c.args.size.bytes d.command in
    let some = c.in_ok-length.ensures.ok_part in
    let w = wrote_some bs out out' c.in_ok-length.length (c.write_units.ensures ∙ (λ i. (some i, out'))) in
    let told = sym (ap (λ t. refuse_if t no.Room (serve (wrote bs (hands_out d.effect)) (left_by k d.effect st))) w.fits) in
    let said : ◌≡◌ {A = Result CallAnswer Refusal} (Ok (wrote (take c.in_ok-length.length out') (is_some c.turn.result))) (Ok (wrote bs (hands_out d.effect))) = λ i. Ok (wrote (w.front i) (c.turn.ensures.handed i)) in
    record {
      same_reference = c.mark_sent.ensures.same_reference;
      did = record { answer = said ∙ ap answer_of told; after = c.mark_sent.ensures.left ∙ ap (state_after st) told; kept = kept_same M c.args.self.now.at r };
      bytes = w.whole ∙ sym (ap (λ a. buffer_after a out) said);
      inside = w.inside;
      whose = c.turn.ensures.whose;
    }
