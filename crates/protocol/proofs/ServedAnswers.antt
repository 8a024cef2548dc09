-- What holds of an answer that is no refusal. Assumes nothing.
use Rattle.std.proofs.Common.{◌≡◌, Bool, true, false, Ok, Err, Result, refl}
use Rattle.protocol.specs.Results.{and_then, refuse_if, fault_as_refusal}

abbrev pub Each : {A E : Type 0} → Result A E → (A → Type 0) → Type 0
Each (Ok a) P = P a
Each (Err e) P = Unit {0}

pub each_refuse : {A E : Type 0} (b : Bool) (e : E) (r : Result A E) (P : A → Type 0) → (b ≡ false → Each r P) → Each (refuse_if b e r) P
each_refuse true e r P h = tt
each_refuse false e r P h = h refl

pub each_then : {A B E : Type 0} (r : Result A E) (f : A → Result B E) (P : B → Type 0) → Each r (λ a. Each (f a) P) → Each (and_then r f) P
each_then (Ok a) f P h = h
each_then (Err e) f P h = tt

pub each_weaker : {A E : Type 0} (r : Result A E) (P Q : A → Type 0) → ((a : A) → P a → Q a) → Each r P → Each r Q
each_weaker (Ok a) P Q f h = f a h
each_weaker (Err e) P Q f h = tt

pub each_fault : {A B E F : Type 0} (g : F → E) (r : Result A F) (f : A → Result B E) (P : B → Type 0) → ((a : A) → r ≡ Ok a → Each (f a) P) → Each (and_then (fault_as_refusal g r) f) P
each_fault g (Ok a) f P h = h a refl
each_fault g (Err e) f P h = tt
