use Rattle.std.proofs.Common.{◌≡◌, length, take, ap, ◌∙◌, rules}
use Rattle.protocol.specs.SlotRecord.{ConnectionRecord}
use Rattle.slot.specs.RecordViews.{slot_of, alter}
use Rattle.slot.specs.ConnectionViews.{append_data, with_session_data}
use Rattle.slot.proofs.ChangesUndone.{added_heard, undo, undo_data}
use Rattle.slot.proofs.receive.add_last.Goals as goal

pub returns-in-Err : goal.returns-in-Err
returns-in-Err g c =
    let M = g.R.Resource.meaning in
    let p = c.args.context.now in
    let k = c.args.c.number in
    let s = slot_of p.slot.now in
    let x = s.conn k in
    let d = c.args.span in
    let held = length c.session_data-held.result.now in
    let cut : ConnectionRecord → ConnectionRecord = λ z. with_session_data (take held z.session_data) z in
    let on = c.in_ok-add.ensures in
    let h = c.in-Err.ensures in
    let count : held ≡ length x.session_data = search rules in
    let back = c.change.ensures ∙ ap (alter k cut) (ap (λ z. z.slot) h.tried.refused ∙ on.1) ∙ undo k (append_data d.start d.length) cut s (undo_data d.start d.length held x count) in
    record {
      same = record { slot = h.same.slot; resource = h.same.resource; at = h.same.at };
      tried = record {
        after = added_heard M (M.made p.resource.now) p.at k c.args.available d.start d.length s (slot_of c.add.new.slot) (M.share p.resource.now p.at) _ on h.tried.after;
        refused = λ i. record { slot = back i; share = (h.tried.refused i).share };
        kept = h.tried.kept;
      };
    }

pub returns : goal.returns
returns g c =
    let M = g.R.Resource.meaning in
    let p = c.args.context.now in
    let d = c.args.span in
    let h = c.in_default.ensures in
    record {
      same = record { slot = h.same.slot; resource = h.same.resource; at = h.same.at };
      tried = record {
        after = added_heard M (M.made p.resource.now) p.at c.args.c.number c.args.available d.start d.length (slot_of p.slot.now) (slot_of c.add.new.slot) (M.share p.resource.now p.at) _ c.in_ok-add.ensures h.tried.after;
        refused = tt;
        kept = h.tried.kept;
      };
    }
