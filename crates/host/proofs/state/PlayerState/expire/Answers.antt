use Rattle.std.proofs.Common.{Ok, refl}
use Rattle.std.proofs.lemmas.Result.{err_from_is_err_and}
use Rattle.protocol.specs.SlotCalls.{expire, done}
use Rattle.protocol.specs.Runs.{at}
use Rattle.host.specs.declared.call.Answer.TheVariants.{Done}
use Rattle.host.proofs.HeldTurns.{plays, keeps, no_turn, a_turn, expire_lacks, as_named, spent_turn}
use Rattle.host.proofs.state.PlayerState.expire.Goals as goal

pub returns-in_err-turn : goal.returns-in_err-turn
returns-in_err-turn g c =
    let M = g.R.Resource.meaning in
    let law = g.R.Resource.laws in
    let d = c.args.self.now in
    let e = c.in_err-turn.field-0.0 in
    let w = no_turn M law d c.args.slot c.args.connection e c.take.new.self.turns c.requires c.in_err-turn.ensures in
    let p = err_from_is_err_and c.from_residual.result c.from_residual.ensures.1 in
    rw (p.1, p.2)
    (record {
      played = λ out. expire_lacks M law d.host c.args.slot c.args.connection _ out w.told w.why;
      tied = keeps M law d (record { host = d.host; held = c.take.new.self }) w.same (λ s k lt. refl) c.requires;
    })

pub returns : goal.returns
returns g c =
    let M = g.R.Resource.meaning in
    let law = g.R.Resource.laws in
    let d = c.args.self.now in
    let i = c.args.slot in
    let k = c.args.connection in
    let t = c.in_ok-turn.turn in
    let ts = c.take.new.self.turns in
    let h' = c.expire.new.self in
    let w = a_turn M law d i k t ts c.requires c.in_ok-turn.ensures in
    let called = as_named M law d i k t ts w expire (Ok done) h' c.expire.ensures in
    record {
      played = λ out. plays M law (at i (expire k)) (Ok done) (Ok Done) out out d.host h' refl refl (w.told _) called;
      tied = spent_turn M law d i k t ts w (expire k) (Ok done) h' c.take.new.self refl (λ n o. refl) called c.requires;
    }
