use Rattle.std.proofs.Common.{refl}
use Rattle.protocol.specs.SlotCalls.{plug, pull, end}
use Rattle.protocol.specs.Runs.{clock, at}
use Rattle.slot.specs.Refinement.{plain_answer}
use Rattle.host.proofs.HeldTurns.{nothing_written, plays, keeps, still, clock_marks}
use Rattle.host.proofs.state.PlayerState.call.Goals as goal

pub returns-in-Clock : goal.returns-in-Clock
returns-in-Clock g c =
    let M = g.R.Resource.meaning in
    let law = g.R.Resource.laws in
    let d = c.args.self.now in
    let out = c.args.out.now in
    let h' = c.clock.new.self in
    rw c.in-Clock.is (record {
      played = plays M law (clock c.in-Clock.time) (plain_answer c.clock.result) _ out out d.host h' c.done.ensures (nothing_written c.clock.result out) refl c.clock.ensures;
      tied = keeps M law d (record { host = h'; held = d.held }) refl (clock_marks M law d.host h' c.in-Clock.time (plain_answer c.clock.result) c.clock.ensures) c.requires;
    })

pub returns-in-Plug : goal.returns-in-Plug
returns-in-Plug g c =
    let M = g.R.Resource.meaning in
    let law = g.R.Resource.laws in
    let d = c.args.self.now in
    let out = c.args.out.now in
    let h' = c.plug.new.self in
    rw c.in-Plug.is (record {
      played = plays M law (at c.in-Plug.slot (plug c.in-Plug.size)) (plain_answer c.plug.result) _ out out d.host h' c.done-in-Plug.ensures (nothing_written c.plug.result out) refl c.plug.ensures;
      tied = still M law d (record { host = h'; held = d.held }) c.in-Plug.slot (plug c.in-Plug.size) (plain_answer c.plug.result) refl (λ k o. refl) c.plug.ensures c.requires;
    })

pub returns-in-Pull : goal.returns-in-Pull
returns-in-Pull g c =
    let M = g.R.Resource.meaning in
    let law = g.R.Resource.laws in
    let d = c.args.self.now in
    let out = c.args.out.now in
    let h' = c.pull.new.self in
    rw c.in-Pull.is (record {
      played = plays M law (at c.in-Pull.slot pull) (plain_answer c.pull.result) _ out out d.host h' c.done-in-Pull.ensures (nothing_written c.pull.result out) refl c.pull.ensures;
      tied = still M law d (record { host = h'; held = d.held }) c.in-Pull.slot pull (plain_answer c.pull.result) refl (λ k o. refl) c.pull.ensures c.requires;
    })

pub returns-in-End : goal.returns-in-End
returns-in-End g c =
    let M = g.R.Resource.meaning in
    let law = g.R.Resource.laws in
    let d = c.args.self.now in
    let out = c.args.out.now in
    let h' = c.end.new.self in
    rw c.in-End.is (record {
      played = plays M law (at c.in-End.slot (end c.in-End.connection)) (plain_answer c.end.result) _ out out d.host h' c.done-in-End.ensures (nothing_written c.end.result out) refl c.end.ensures;
      tied = still M law d (record { host = h'; held = d.held }) c.in-End.slot (end c.in-End.connection) (plain_answer c.end.result) refl (λ k o. refl) c.end.ensures c.requires;
    })

pub returns-in-Feed : goal.returns-in-Feed
returns-in-Feed g c = rw c.in-Feed.is (record { played = c.feed.ensures.played c.args.out.now; tied = c.feed.ensures.tied })

pub returns-in-Expire : goal.returns-in-Expire
returns-in-Expire g c = rw c.in-Expire.is (record { played = c.expire.ensures.played c.args.out.now; tied = c.expire.ensures.tied })
