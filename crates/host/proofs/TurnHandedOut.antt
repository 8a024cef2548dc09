-- A turn is handed out where its connection is.
use Rattle.std.proofs.Common.{◌≡◌, is_some, Some, None, Option, refl}
use Rattle.std.specs.Option.{option_map}
use Rattle.resource.specs.declared.number.BoundedNumber.{BoundedNumber}
use Rattle.host.specs.declared.turn.Turn.{Turn}

abbrev pub turn_of : BoundedNumber 0 3 → BoundedNumber 1 2 → Turn
turn_of s c = record { slot = s; connection = c }

some_same : (s : BoundedNumber 0 3) (o : Option (BoundedNumber 1 2)) → is_some o ≡ is_some (option_map (turn_of s) o)
some_same s None = refl
some_same s (Some x) = refl

pub handed : (s : BoundedNumber 0 3) (o : Option (BoundedNumber 1 2)) (r : Option Turn) → r ≡ option_map (turn_of s) o → is_some o ≡ is_some r
handed s o r e = rw e (some_same s o)
