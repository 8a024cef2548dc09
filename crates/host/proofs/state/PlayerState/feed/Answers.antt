use Rattle.std.proofs.Common.{Ok, Err, sym, refl, subst}
use Rattle.std.proofs.lemmas.Result.{err_from_is_err_and}
use Rattle.protocol.specs.SlotCalls.{feed, done, turn_back}
use Rattle.protocol.specs.Runs.{at}
use Rattle.host.specs.HostRefinement.{HostRefinesCall}
use Rattle.host.specs.declared.call.Answer.TheVariants.{Done, More}
use Rattle.host.proofs.HeldTurns.{plays, keeps, still, no_turn, a_turn, feed_lacks, as_named, spent_turn, gone_turn, put_back}
use Rattle.host.proofs.state.PlayerState.feed.Goals as goal

pub returns-in_err-turn : goal.returns-in_err-turn
returns-in_err-turn g c =
    let M = g.R.Resource.meaning in
    let law = g.R.Resource.laws in
    let d = c.args.self.now in
    let e = c.in_err-turn.field-0.0 in
    let w = no_turn M law d c.args.slot c.args.connection e c.take.new.self.turns c.requires c.in_err-turn.ensures in
    let p = err_from_is_err_and c.from_residual.result c.from_residual.ensures.1 in
    rw (p.1, p.2)
    (record {
      played = λ out. feed_lacks M law d.host c.args.slot c.args.connection c.args.lpdu.now _ out w.told w.why;
      tied = keeps M law d (record { host = d.host; held = c.take.new.self }) w.same (λ s k lt. refl) c.requires;
    })

pub returns-in-Done : goal.returns-in-Done
returns-in-Done g c =
    let M = g.R.Resource.meaning in
    let law = g.R.Resource.laws in
    let d = c.args.self.now in
    let i = c.args.slot in
    let k = c.args.connection in
    let bs = c.args.lpdu.now in
    let t = c.in_ok-turn.turn in
    let ts = c.take.new.self.turns in
    let h' = c.feed.new.self in
    let w = a_turn M law d i k t ts c.requires c.in_ok-turn.ensures in
    let called = as_named M law d i k t ts w (λ n. feed n bs) (Ok done) h' c.in-Done.ensures.called in
    record {
      played = λ out. plays M law (at i (feed k bs)) (Ok done) (Ok Done) out out d.host h' refl refl (w.told _) called;
      tied = spent_turn M law d i k t ts w (feed k bs) (Ok done) h' c.take.new.self refl (λ n o. refl) called c.requires;
    }

pub keep-requires : goal.keep-requires
keep-requires g c =
    let M = g.R.Resource.meaning in
    let law = g.R.Resource.laws in
    let d = c.args.self.now in
    let t = c.in_ok-turn.turn in
    let ts = c.take.new.self.turns in
    let w = a_turn M law d c.args.slot c.args.connection t ts c.requires c.in_ok-turn.ensures in
    gone_turn M law d c.args.slot c.args.connection t ts w c.in-More.turn c.in-More.ensures.back

pub returns-in-More : goal.returns-in-More
returns-in-More g c =
    let M = g.R.Resource.meaning in
    let law = g.R.Resource.laws in
    let d = c.args.self.now in
    let i = c.args.slot in
    let k = c.args.connection in
    let bs = c.args.lpdu.now in
    let t = c.in_ok-turn.turn in
    let ts = c.take.new.self.turns in
    let d' = c.keep.new.self in
    let w = a_turn M law d i k t ts c.requires c.in_ok-turn.ensures in
    let named = as_named M law d i k t ts w (λ n. feed n bs) (Ok turn_back) c.feed.new.self c.in-More.ensures.called in
    let called = subst (λ h. HostRefinesCall M (at i (feed k bs)) (Ok turn_back) d.host h) (sym c.keep.ensures.host) named in
    let back = put_back M law d i k t ts w c.in-More.turn c.in-More.ensures.back d'.held.turns c.keep.ensures.held in
    record {
      played = λ out. plays M law (at i (feed k bs)) (Ok turn_back) (Ok More) out out d.host d'.host refl refl (w.told _) called;
      tied = still M law d d' i (feed k bs) (Ok turn_back) back (λ n o. refl) called c.requires;
    }

pub keep-requires-in-Refused : goal.keep-requires-in-Refused
keep-requires-in-Refused g c =
    let M = g.R.Resource.meaning in
    let law = g.R.Resource.laws in
    let d = c.args.self.now in
    let t = c.in_ok-turn.turn in
    let ts = c.take.new.self.turns in
    let w = a_turn M law d c.args.slot c.args.connection t ts c.requires c.in_ok-turn.ensures in
    gone_turn M law d c.args.slot c.args.connection t ts w c.in-Refused.turn c.in-Refused.ensures.back

pub returns-in-Refused : goal.returns-in-Refused
returns-in-Refused g c =
    let M = g.R.Resource.meaning in
    let law = g.R.Resource.laws in
    let d = c.args.self.now in
    let i = c.args.slot in
    let k = c.args.connection in
    let bs = c.args.lpdu.now in
    let t = c.in_ok-turn.turn in
    let ts = c.take.new.self.turns in
    let d' = c.keep-in-Refused.new.self in
    let w = a_turn M law d i k t ts c.requires c.in_ok-turn.ensures in
    let named = as_named M law d i k t ts w (λ n. feed n bs) (Err c.in-Refused.e) c.feed.new.self c.in-Refused.ensures.called in
    let called = subst (λ h. HostRefinesCall M (at i (feed k bs)) (Err c.in-Refused.e) d.host h) (sym c.keep-in-Refused.ensures.host) named in
    let back = put_back M law d i k t ts w c.in-Refused.turn c.in-Refused.ensures.back d'.held.turns c.keep-in-Refused.ensures.held in
    record {
      played = λ out. plays M law (at i (feed k bs)) (Err c.in-Refused.e) (Err c.in-Refused.e) out out d.host d'.host refl refl (w.told _) called;
      tied = still M law d d' i (feed k bs) (Err c.in-Refused.e) back (λ n o. refl) called c.requires;
    }
