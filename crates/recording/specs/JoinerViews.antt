-- What is kept, with what the vector holds.
use Rattle.std.specs.Prelude.{vec_items}
use Rattle.std.specs.Option.{option_map}
use Rattle.recording.specs.declared.joiner.PartialUnit.{PartialUnit}
use Rattle.recording.specs.Joining.{UnitState, unit_state}

abbrev pub state_of : PartialUnit → UnitState
state_of k = unit_state k.limit (option_map (λ v. vec_items v) k.unit)
