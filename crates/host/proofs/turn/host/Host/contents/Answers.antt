use Rattle.std.proofs.Common.{ap, ◌∙◌, rules}
use Rattle.slot.specs.RecordViews.{slot_of}
use Rattle.host.specs.HostRefinement.{record_at}
use Rattle.host.proofs.OneSlotCalled.{slot_read}
use Rattle.host.proofs.turn.host.Host.contents.Goals as goal

pub returns : goal.returns
returns g c =
    let h = c.args.self.now in
    ap slot_of c.contents.ensures ∙ slot_read h c.get.result c.index-self-get.result (search rules) ∙ ap (record_at h) c.get.ensures
