use Rattle.std.proofs.Common.{◌≡◌, true, false, ◌∙◌, rules}
use borrow.Author.Tests.{tests}
use Rattle.std.proofs.lemmas.Iterator.{YieldsList-from_slice, IsFirst-from_position}
use Rattle.protocol.specs.SlotRecord.{has_greeting_due}
use Rattle.slot.proofs.RecordChanges.{first_place}
use Rattle.slot.proofs.record.Record.first_greeting.Goals as goal

pub returns : goal.returns
returns c =
    c.number_at.ensures
    ∙ first_place (has_greeting_due c.args.c.number) c.args.self.now c.position.result (search rules)
    (IsFirst-from_position _ _ _ (λ r. has_greeting_due c.args.c.number r ≡ true) (λ r. has_greeting_due c.args.c.number r ≡ false) c.position.ensures.ran (YieldsList-from_slice c.args.self.now.rows cc) (λ x q k. search (rules, tests)) (λ x q k. search (rules, tests)))
