use Rattle.std.proofs.Common.{sym, ap, ◌∙◌}
use Rattle.std.proofs.lemmas.Result.{err_from_is_err_and}
use Rattle.slot.proofs.session.pass.Goals as goal

-- an object that the resource refuses leaves its share as it was
pub returns-in_err-reply-clause-refused : goal.returns-in_err-reply-clause-refused
returns-in_err-reply-clause-refused g c =
    let M = g.R.Resource.meaning in
    let p = c.args.resource.now in
    let row = c.in_ok-session.session in
    let e = err_from_is_err_and c.from_residual-in_err-reply.result c.from_residual-in_err-reply.ensures.1 in
    let comes = c.in_err-reply.ensures.answer in
    rw e.1 (ap (λ o. o.left) comes ∙ (g.R.Resource.laws.answers (M.made p)).refused c.args.at _ _ _ _ (M.share p c.args.at) (sym (ap (λ o. o.reaction) comes)))
