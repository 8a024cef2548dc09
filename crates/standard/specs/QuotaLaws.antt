-- A quota over a lawful resource is lawful.
use Rattle.std.specs.Prelude.{◌≡◌, ℕ, true, ◌&&◌, ◌==◌, nat_le, refl}
use Rattle.std.proofs.lemmas.Bool.{cond_both}
use Rattle.resource.specs.Meaning.{Meaning}
use Rattle.resource.specs.Lawful.{Lawful, is_readiness}
use Rattle.standard.specs.QuotaMeaning.{quota_of, clamped_limit}

pub quota_lawful : {S U : Type 0} (most : U → ℕ) (below : U → S) (M : Meaning S) → Lawful M → Lawful (quota_of most below M)
quota_lawful most below M law = record {
  sessions = λ m. record {
    apart = (law.sessions m.1).apart;
    known = (law.sessions m.1).known;
    opened = (law.sessions m.1).opened;
    opened_same = (law.sessions m.1).opened_same;
    closed = (law.sessions m.1).closed;
    closed_same = (law.sessions m.1).closed_same;
    object = (law.sessions m.1).object;
    told = (law.sessions m.1).told;
  };
  counts = λ m. record {
    opened = (law.counts m.1).opened;
    closed = (law.counts m.1).closed;
    object = (law.counts m.1).object;
    told = (law.counts m.1).told;
    gone = (law.counts m.1).gone;
    beyond = (law.counts m.1).beyond;
  };
  gone = λ m. record {
    holds = (law.gone m.1).holds;
    beyond = (law.gone m.1).beyond;
    beginning = (law.gone m.1).beginning;
    gone = (law.gone m.1).gone;
    opened = (law.gone m.1).opened;
    closed = (law.gone m.1).closed;
    object = (law.gone m.1).object;
    told = (law.gone m.1).told;
    told_beginning = (law.gone m.1).told_beginning;
  };
  answers = λ m. record {
    refused = (law.answers m.1).refused;
    not_held = (law.answers m.1).not_held;
    ready = λ slot i s. cond_both (M.ready m.1 slot i s == 0 && nat_le (clamped_limit m.0) (M.count m.1 slot s)) 0xf3 (M.ready m.1 slot i s)
        (λ y. is_readiness y ≡ true) (λ _. refl) (λ _. (law.answers m.1).ready slot i s);
    unready = λ slot i s h. rw ((law.answers m.1).unready slot i s h);
    no_greeting = (law.answers m.1).no_greeting;
    greeting = (law.answers m.1).greeting;
    reply = (law.answers m.1).reply;
  };
}
