-- The refusals by number.
use Rattle.std.specs.Prelude.{ℕ}
use Rattle.protocol.specs.declared.refusal.Refusal.{Refusal}
use Rattle.protocol.specs.declared.refusal.Refusal.TheVariants as no

abbrev pub refusal_number : Refusal → ℕ
refusal_number no.Slot = 1
refusal_number no.Connection = 2
refusal_number no.Size = 3
refusal_number no.Presence = 4
refusal_number no.Turn = 5
refusal_number no.State = 6
refusal_number no.Room = 7
refusal_number no.Clock = 8
refusal_number (no.Link e) = 9
refusal_number no.Fragments = 10
refusal_number (no.Transport e) = 11
refusal_number no.Object = 12
refusal_number no.Data = 13
refusal_number (no.Session e) = 14
refusal_number no.NotOpen = 15
refusal_number (no.Apdu e) = 16
refusal_number (no.Resource e) = 17
