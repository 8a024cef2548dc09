-- A call, however its LPDU is held, and how it prints.
use Rattle.std.specs.Prelude.{ℕ, List, ◌++◌, codes, decimal}
use Rattle.std.specs.Borrow.{Bor}
use Rattle.std.specs.Global.{Vec}
use Rattle.host.specs.declared.call.Call.{Call}
use Rattle.host.specs.declared.call.Call.TheVariants.{Clock, Plug, Pull, End, Next, Feed, Expire}

-- the same call, with its LPDU held so
abbrev pub map_call : {A B : Type 0} → (A → B) → Call A → Call B
map_call f (Clock time) = Clock time
map_call f (Plug slot size) = Plug slot size
map_call f (Pull slot) = Pull slot
map_call f (End slot connection) = End slot connection
map_call f (Next slot connection) = Next slot connection
map_call f (Feed slot connection lpdu) = Feed slot connection (f lpdu)
map_call f (Expire slot connection) = Expire slot connection

-- a call whose LPDU is lent, and one that owns it, over lists
abbrev pub lent : Call (Bor (List ℕ)) → Call (List ℕ)
lent = map_call (λ lpdu. lpdu.now)

abbrev pub owned : Call (Vec ℕ) → Call (List ℕ)
owned = map_call (λ lpdu. lpdu.items)

abbrev of_slot : List ℕ → ℕ → List ℕ
of_slot name slot = name ++ codes " " ++ decimal slot

abbrev of_connection : List ℕ → ℕ → ℕ → List ℕ
of_connection name slot connection = of_slot name slot ++ codes " " ++ decimal connection

-- a call's name, and the slot and the connection that it names
abbrev pub text : {B : Type 0} → Call B → List ℕ
text (Clock time) = codes "clock"
text (Plug slot size) = of_slot (codes "plug") slot
text (Pull slot) = of_slot (codes "pull") slot
text (End slot connection) = of_connection (codes "end") slot connection
text (Next slot connection) = of_connection (codes "next") slot connection
text (Feed slot connection lpdu) = of_connection (codes "feed") slot connection
text (Expire slot connection) = of_connection (codes "expire") slot connection
