use Rattle.std.proofs.Common.{◌≡◌, ◌+◌, leb, length, take, sym, ap, ◌∙◌, rules}
use Rattle.protocol.specs.declared.refusal.Refusal.TheVariants as no
use Rattle.protocol.specs.Results.{and_then}
use Rattle.protocol.specs.SlotRecord.{append_fragment}
use Rattle.protocol.specs.SlotCalls.{set_connection, after_fragment, take_transport_unit, serve, done}
use Rattle.protocol.specs.Runs.{answer_of, state_after}
use Rattle.slot.specs.RecordViews.{slot_of, alter}
use Rattle.slot.specs.ConnectionViews.{with_fragments}
use Rattle.slot.specs.Refinement.{state_at}
use Rattle.slot.proofs.ChangesUndone.{added, not_many, passed_by, undo, undo_join}
use Rattle.slot.proofs.receive.join.Goals as goal

pub returns-in-Err : goal.returns-in-Err
returns-in-Err g c =
    let M = g.R.Resource.meaning in
    let p = c.args.context.now in
    let at = p.at in
    let k = c.args.c.number in
    let bs = c.args.bytes.now in
    let made = M.made p.resource.now in
    let st = state_at M at p.slot.now p.resource.now in
    let x = st.slot.conn k in
    let st1 = set_connection k (append_fragment bs x) st in
    let held = length c.fragments-held.result.now in
    let on = added (leb (length x.fragments + length bs) 1024) c.push_fragment.result (alter k (append_fragment bs)) st.slot (slot_of c.push_fragment.new.self) c.push_fragment.ensures c.if-not-push_fragment.false in
    let h = c.in-Err.ensures in
    let took = h.tried.after ∙ ap (λ s. take_transport_unit M made at k (record { slot = s; share = st.share })) on.1 in
    let told = ap (λ z. and_then z (serve done)) took ∙ ap (λ b. after_fragment M made at k b st1) (sym c.if-more.false) ∙ passed_by _ no.Fragments (not_many 1024 x.fragments bs on.0) in
    let count : held ≡ length x.fragments = search rules in
    let back = c.change.ensures ∙ ap (alter k (λ z. with_fragments (take held z.fragments) z)) (ap (λ z. z.slot) h.tried.refused ∙ on.1) ∙ undo k (append_fragment bs) (λ z. with_fragments (take held z.fragments) z) st.slot (undo_join bs held x count) in
    record {
      same = record { slot = h.same.slot; resource = h.same.resource; at = h.same.at };
      serves = record {
        answer = ap answer_of told;
        after = (λ i. record { slot = back i; share = (h.tried.refused i).share }) ∙ ap (state_after st) told;
        kept = h.tried.kept;
      };
    }
