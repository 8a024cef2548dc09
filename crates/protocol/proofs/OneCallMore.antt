-- What a list of calls reached, the list with one call more reaches.
use Rattle.std.proofs.Common.{◌≡◌, ℕ, ◌<◌, Bool, true, false, List, [], ◌∷◌, ◌++◌, None, sym, refl, ap, ◌∙◌}
use Rattle.resource.specs.Meaning.{Meaning}
use Rattle.resource.specs.Lawful.{Lawful}
use Rattle.protocol.specs.Runs.{HostCall, HostState, new_host, step, run, concerns, last_time_told, clock_alone}
use Rattle.protocol.specs.HostLaws.{AbsentWithNoTurn, ledger, SpareTakesOver, ReachedBy, ReachedByNoCalls, ReachedByOneMore}
use Rattle.protocol.proofs.OneSlotAlone.{local, named, unnamed, onward, slots_apart}
use Rattle.protocol.proofs.LedgerAgrees.{sessions_agree, absent_as_new}

module _ {S : Type 0} (M : Meaning S) (made : M.Made) where
  -- a call leaves of a slot what rests on that slot alone
  pub step_same : (c : HostCall) (h k : HostState M made) (s : ℕ) → h s ≡ k s → step M made c h s ≡ step M made c k s
  step_same c h k s e = go (concerns s c) refl
    where
      go : (b : Bool) → concerns s c ≡ b → step M made c h s ≡ step M made c k s
      go true t = named M made s c h t ∙ ap (local M made s c) e ∙ sym (named M made s c k t)
      go false t = unnamed M made s c h t ∙ e ∙ sym (unnamed M made s c k t)

  -- the last of a list
  pub run_last : (cs : List HostCall) (c : HostCall) (h : HostState M made) → run M made (cs ++ c ∷ []) h ≡ step M made c (run M made cs h)
  run_last [] c h = refl
  run_last (d ∷ cs) c h = run_last cs c (step M made d h)

  module _ (law : Lawful M) where
    -- two absent slots with no turn out that were told the same time
    rest_alike : (cs ds : List HostCall) (s : ℕ) → s < 4 → AbsentWithNoTurn (ledger M made cs s) → AbsentWithNoTurn (ledger M made ds s) → last_time_told None cs ≡ last_time_told None ds → run M made cs (new_host M made) s ≡ run M made ds (new_host M made) s
    rest_alike cs ds s b one two told =
        absent_as_new M made law cs s b one
        ∙ ap (λ t. run M made (clock_alone t) (new_host M made) s) told
        ∙ sym (absent_as_new M made law ds s b two)

    pub spare_takes_over : SpareTakesOver M made
    spare_takes_over cs ds es fs s b one two told e = onward M made s es fs (run M made cs (new_host M made)) (run M made ds (new_host M made)) (rest_alike cs ds s b one two told) e

    pub stands : (cs : List HostCall) (h : HostState M made) → ((s : ℕ) → s < 4 → h s ≡ run M made cs (new_host M made) s) → ReachedBy M made cs h
    stands cs h e = record {
      reached = e;
      agrees = λ s b. rw (e s b) (sessions_agree M made law cs s b);
      apart = λ s b ds same. let both = slots_apart M made cs ds s b same in (both.0, e s b ∙ both.1);
      absent = λ s b rests. e s b ∙ absent_as_new M made law cs s b rests;
      spare = λ s b one ds es fs two told same. onward M made s es fs h (run M made ds (new_host M made)) (e s b ∙ rest_alike cs ds s b one two told) same;
    }

    pub stands_new : ReachedByNoCalls M made
    stands_new = stands [] (new_host M made) (λ s b. refl)

    pub stands_step : ReachedByOneMore M made
    stands_step cs c h after k e =
        stands (cs ++ c ∷ []) after
        (λ s b. e s b ∙ step_same c h (run M made cs (new_host M made)) s (k.reached s b) ∙ ap (λ f. f s) (sym (run_last cs c (new_host M made))))
