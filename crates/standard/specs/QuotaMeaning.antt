-- A quota over a resource: where that one is ready but holds as many sessions as the limit, there is no room.
use Rattle.std.specs.Prelude.{ℕ, min, max, if◌then◌else◌, ◌&&◌, ◌==◌, nat_le}
use Rattle.resource.specs.NumberTables.{session_limit}
use Rattle.resource.specs.Meaning.{Meaning}

-- a limit is from 1 to as many sessions as a slot may have
abbrev pub clamped_limit : ℕ → ℕ
clamped_limit q = min session_limit (max 1 q)

-- the status below, with so many sessions held
abbrev pub status_under_limit : ℕ → ℕ → ℕ → ℕ
status_under_limit q held status = if status == 0 && nat_le (clamped_limit q) held then 0xf3 else status

-- its meaning, of anything that holds a limit and a resource
module _ {S U : Type 0} (most : U → ℕ) (below : U → S) (M : Meaning S) where
  abbrev pub quota_of : Meaning U
  quota_of = record {
    Made = ℕ × M.Made;
    Share = M.Share;
    made = λ u. (most u, M.made (below u));
    share = λ u. M.share (below u);
    listed = λ m. M.listed m.1;
    holds = λ m. M.holds m.1;
    beginning = λ m. M.beginning m.1;
    ready = λ m slot i s. status_under_limit m.0 (M.count m.1 slot s) (M.ready m.1 slot i s);
    greeting = λ m. M.greeting m.1;
    count = λ m. M.count m.1;
    opened = λ m. M.opened m.1;
    closed = λ m. M.closed m.1;
    object = λ m. M.object m.1;
    gone = λ m. M.gone m.1;
    told = λ m. M.told m.1;
  }
