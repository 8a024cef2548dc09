use Rattle.std.proofs.Common.{sym, refl, ap, ◌∙◌}
use Rattle.resource.proofs.TableLemmas.{no_some}
use Rattle.host.proofs.state.PlayerState.keep.Goals as goal

pub returns-in-Some : goal.returns-in-Some
returns-in-Some g c = no_some c.in-Some.old (sym c.requires ∙ ap (λ z. z.0) c.in-Some.ensures.put)

pub returns-in_default : goal.returns-in_default
returns-in_default g c = record { host = refl; held = sym (ap (λ z. z.1) c.in_default.ensures.put); inside = c.in_default.ensures.inside }
