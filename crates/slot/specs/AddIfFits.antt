-- Whether something fits, and what is left: with it, or as it was.
use Rattle.std.specs.Prelude.{Bool, true, false, if◌then◌else◌}

abbrev pub add_if_fits : {A : Type 0} → Bool → (A → A) → A → Bool × A
add_if_fits fits f x = if fits then (true, f x) else (false, x)
