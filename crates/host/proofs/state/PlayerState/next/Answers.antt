use Rattle.std.proofs.Common.{◌≡◌, ◌<◌, ◌≤◌, true, false, length, take, set, is_some, Some, Ok, sym, refl, ap, ◌∙◌, subst}
use Rattle.std.proofs.lemmas.List.{length-take-le}
use Rattle.std.proofs.lemmas.Result.{err_from_is_err_and}
use Rattle.protocol.specs.SlotCalls.{next, wrote}
use Rattle.protocol.specs.Runs.{at}
use Rattle.host.specs.HostRefinement.{TurnNames, HostRefinesCall}
use Rattle.host.proofs.OneSlotCalled.{called_as}
use Rattle.host.specs.TurnTables.{turn_index}
use Rattle.host.specs.declared.call.Answer.TheVariants.{Sent}
use Rattle.host.proofs.HeldTurns.{plays, still, changes, tie, free_turn, next_in}
use Rattle.host.proofs.state.PlayerState.next.Goals as goal

pub returns-in_err-length : goal.returns-in_err-length
returns-in_err-length g c =
    let M = g.R.Resource.meaning in
    let law = g.R.Resource.laws in
    let h = c.args.self.now.host in
    let h' = c.next.new.self in
    let out = c.args.out.now in
    let out' = c.next.new.out in
    let a = next c.args.connection (length out) in
    let e = c.in_err-length.field-0.0 in
    let p = err_from_is_err_and c.from_residual.result c.from_residual.ensures.1 in
    rw (p.1, p.2)
    (record {
      played = plays M law (at c.args.slot a) _ _ out out' h h' refl c.in_err-length.ensures.bytes refl c.in_err-length.ensures.called;
      tied = still M law c.args.self.now (record { host = h'; held = c.args.self.now.held }) c.args.slot a _ refl (λ k o. refl) c.in_err-length.ensures.called c.requires;
    })

pub returns-in_default : goal.returns-in_default
returns-in_default g c =
    let M = g.R.Resource.meaning in
    let law = g.R.Resource.laws in
    let h = c.args.self.now.host in
    let h' = c.next.new.self in
    let out = c.args.out.now in
    let out' = c.next.new.out in
    let a = next c.args.connection (length out) in
    let n = c.in_ok-length.field-0.length in
    let front = take n out' in
    let called = called_as M law (at c.args.slot a) (Ok (wrote front (is_some c.in_ok-length.field-0.turn))) (Ok (wrote front false)) h h' (ap (λ o. Ok (wrote front (is_some o))) c.in_default.is) c.in_ok-length.ensures.called in
    record {
      played = plays M law (at c.args.slot a) (Ok (wrote front false)) (Ok (Sent n false)) out out' h h' (ap (λ k. Ok (Sent k false)) (sym (length-take-le n out' c.in_ok-length.ensures.inside))) c.in_ok-length.ensures.bytes refl called;
      tied = still M law c.args.self.now (record { host = h'; held = c.args.self.now.held }) c.args.slot a (Ok (wrote front false)) refl (λ k o. refl) called c.requires;
    }

pub keep-requires : goal.keep-requires
keep-requires g c =
    let M = g.R.Resource.meaning in
    let law = g.R.Resource.laws in
    let names = subst (TurnNames c.args.slot c.args.connection) c.in-Some.is c.in_ok-length.ensures.whose in
    free_turn M law c.args.self.now c.in-Some.turn c.args.slot c.args.connection names.0 names.1
    (next_in M law c.args.self.now.host c.args.slot c.args.connection (length c.args.out.now) _ c.in_ok-length.ensures.called.answers) c.requires

pub returns : goal.returns
returns g c =
    let M = g.R.Resource.meaning in
    let law = g.R.Resource.laws in
    let d = c.args.self.now in
    let d' = c.keep.new.self in
    let out = c.args.out.now in
    let out' = c.next.new.out in
    let a = next c.args.connection (length out) in
    let t = c.in-Some.turn in
    let i = c.args.slot in
    let k = c.args.connection in
    let n = c.in_ok-length.field-0.length in
    let front = take n out' in
    let named = called_as M law (at i a) (Ok (wrote front (is_some c.in_ok-length.field-0.turn))) (Ok (wrote front true)) d.host c.next.new.self (ap (λ o. Ok (wrote front (is_some o))) c.in-Some.is) c.in_ok-length.ensures.called in
    let called = subst (λ h. HostRefinesCall M (at i a) (Ok (wrote front true)) d.host h) (sym c.keep.ensures.host) named in
    let names = subst (TurnNames i k) c.in-Some.is c.in_ok-length.ensures.whose in
    let where' : turn_index t.slot.number t.connection.number ≡ turn_index i k = λ j. turn_index (names.0 j) (names.1 j) in
    record {
      played = plays M law (at i a) (Ok (wrote front true)) (Ok (Sent n true)) out out' d.host d'.host (ap (λ k. Ok (Sent k true)) (sym (length-take-le n out' c.in_ok-length.ensures.inside))) c.in_ok-length.ensures.bytes refl called;
      tied = changes M law d d' i k a (Ok (wrote front true)) (Some t) true (subst (λ n. 1 ≤ n) names.1 t.connection.low) (subst (λ n. n ≤ 2) names.1 t.connection.high)
          (subst (λ p. p < length d.held.turns) where' c.keep.ensures.inside) (c.keep.ensures.held ∙ ap (λ p. set d.held.turns p (Some t)) where') (λ n o. refl) (tie i k t true refl names.0 names.1) called c.requires;
    }
