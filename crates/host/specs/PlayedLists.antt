-- Lists of calls to a player.
use Rattle.std.specs.Prelude.{◌≡◌, ℕ, ◌<◌, if◌then◌else◌, List, [], ◌∷◌, ◌++◌, map, length, Some, Result}
use Rattle.protocol.specs.declared.refusal.Refusal.{Refusal}
use Rattle.resource.specs.Meaning.{Meaning}
use Rattle.protocol.specs.SlotRecord.{new_slot}
use Rattle.protocol.specs.SlotCalls as def
use Rattle.protocol.specs.Runs.{HostState, concerns, step, run}
use Rattle.protocol.specs.Runs as runs
use Rattle.protocol.specs.HostLaws.{ReachedBy}
use Rattle.slot.specs.WrittenCommands.{buffer_after}
use Rattle.host.specs.declared.turn.host.Host.{Host}
use Rattle.host.specs.HostRefinement.{host_state}
use Rattle.host.specs.declared.call.CallAndAnswer.{CallAndAnswer}
use Rattle.host.specs.Calls.{lent}
use Rattle.host.specs.PlayerRefinement.{call_of, player_answer, player_reply}

abbrev pub call_in : CallAndAnswer → runs.HostCall
call_in e = call_of (lent e.call) (length e.out)

-- the entries that are clock calls or name the slot
abbrev pub entries_of : ℕ → List CallAndAnswer → List CallAndAnswer
entries_of s [] = []
entries_of s (e ∷ es) = if concerns s (call_in e) then e ∷ entries_of s es else entries_of s es

-- an entry whose call had this reply: it tells the answer, and its out buffer has what was written
abbrev pub entry_after : Result def.CallAnswer Refusal → CallAndAnswer → CallAndAnswer
entry_after r e = record e { out = buffer_after r e.out; answer = Some (player_answer r) }

module _ {S : Type 0} (M : Meaning S) where
  -- the state of a new host over a resource; where the resource is new, it is that of a new host
  abbrev pub new_host_over : (r : S) → HostState M (M.made r)
  new_host_over r s = record { slot = new_slot; share = M.share r s }

  -- the entries of a list of calls, played on from a state
  abbrev pub entries_after : (made : M.Made) → List CallAndAnswer → HostState M made → List CallAndAnswer
  entries_after made [] h = []
  entries_after made (e ∷ es) h = entry_after (player_reply M made (call_in e) h) e ∷ entries_after made es (step M made (call_in e) h)

  -- what a slot's entries tell hangs on these alone: beside any other calls of the other slots they tell the same
  abbrev pub EntriesApart : S → List CallAndAnswer → List CallAndAnswer → Type 0
  EntriesApart r es es' = (s : ℕ) (fs : List CallAndAnswer) → entries_of s es ≡ entries_of s fs → entries_of s es' ≡ entries_of s (entries_after (M.made r) fs (new_host_over r))

  -- a list of calls to a player: each entry tells its call's reply, each slot is the definition's, what the resource is made of stays, and what a list of calls reached, the list with these calls reaches
  pub record PlayerRefinesCalls (es es' : List CallAndAnswer) (h h' : Host S) : Type 0 where
    pub answers : es' ≡ entries_after (M.made h.resource) es (host_state M h)
    pub after : (s : ℕ) → s < 4 → host_state M h' s ≡ run M (M.made h.resource) (map call_in es) (host_state M h) s
    pub made : M.made h'.resource ≡ M.made h.resource
    pub reached_by : (calls : List runs.HostCall) → ReachedBy M (M.made h.resource) calls (host_state M h) → ReachedBy M (M.made h.resource) (calls ++ map call_in es) (host_state M h')
