-- One connection changed twice, and changed back.
use Rattle.std.proofs.Common.{◌≡◌, ℕ, ◌+◌, ◌<◌, ◌≤◌, Bool, true, false, ltb, leb, List, [], ◌++◌, length, take, Ok, Result, sym, refl, ap, ◌∙◌, ⊎_elim}
use Rattle.std.proofs.lemmas.List.{length-append, take_at}
use Rattle.std.proofs.lemmas.Bool.{le-ltb, lt-leb, cases_lt}
use Rattle.wire.specs.declared.tpdu.ResponseObject.TheVariants.{DataLast}
use Rattle.protocol.specs.declared.refusal.Refusal.{Refusal}
use Rattle.protocol.specs.declared.refusal.Refusal.TheVariants as no
use Rattle.resource.specs.Meaning.{Meaning}
use Rattle.resource.proofs.TableLemmas.{put_at, put_put, put_same, not_both}
use Rattle.protocol.specs.Results.{refuse_if}
use Rattle.protocol.specs.SlotRecord.{SlotRecord, ConnectionRecord, with_conn, after_unit, append_fragment}
use Rattle.protocol.specs.declared.state.State.TheVariants.{Active}
use Rattle.protocol.specs.SlotCalls.{SlotState, take_session_unit, hear, take_object}
use Rattle.slot.specs.AddIfFits.{add_if_fits}
use Rattle.slot.specs.RecordViews.{alter}
use Rattle.slot.specs.ConnectionViews.{part_of, append_data, with_session_data, with_fragments}
use Rattle.slot.specs.FeedAnswers.{AddsData, part_with_offset}

-- what was added
pub added : {A : Type 0} (t r : Bool) (f : A → A) (s s' : A) → add_if_fits t f s ≡ (r, s') → r ≡ true → (t ≡ true) × (s' ≡ f s)
added true r f s s' e h = (refl, sym (ap (λ p. p.1) e))
added false r f s s' e h = not_both r h (sym (ap (λ p. p.0) e))

-- bytes that are not too many for a limit
pub not_many : (most : ℕ) (xs ys : List ℕ) → leb (length xs + length ys) most ≡ true → ltb most (length (xs ++ ys)) ≡ false
not_many most xs ys e =
    rw (length-append xs ys)
    (⊎_elim (λ (h : most < length xs + length ys). not_both _ e (lt-leb _ most h)) (λ (h : length xs + length ys ≤ most). le-ltb most _ h) (cases_lt most (length xs + length ys)))

pub passed_by : {A E : Type 0} {r : Result A E} (t : Bool) (e : E) → t ≡ false → r ≡ refuse_if t e r
passed_by {r = r} t e h = sym (ap (λ z. refuse_if z e r) h)

abbrev with_lines : SlotRecord → (ℕ → ConnectionRecord) → SlotRecord
with_lines s g = record s { conn = g }

-- two changes of one connection are one, and the second may take the first back
pub over : (c : ℕ) (f g : ConnectionRecord → ConnectionRecord) (s : SlotRecord) → alter c f (alter c g s) ≡ alter c (λ x. f (g x)) s
over c f g s =
    let x = g (s.conn c) in
    ap (λ z. with_conn c (f z) (with_conn c x s)) (put_at c x s.conn) ∙ ap (with_lines s) (put_put c (f x) x s.conn)

pub undo : (c : ℕ) (f g : ConnectionRecord → ConnectionRecord) (s : SlotRecord) → g (f (s.conn c)) ≡ s.conn c → alter c g (alter c f s) ≡ s
undo c f g s e = over c g f s ∙ ap (λ x. with_conn c x s) e ∙ ap (with_lines s) (put_same c (s.conn c) s.conn refl)

-- data that were added are cut off again, and fragments are
pub undo_data : (start n held : ℕ) (x : ConnectionRecord) → held ≡ length x.session_data → (let y = append_data start n x in with_session_data (take held y.session_data) y) ≡ x
undo_data start n held x e = ap (λ bs. with_session_data bs x) (take_at x.session_data _ held (sym e))

pub undo_join : (bs : List ℕ) (held : ℕ) (x : ConnectionRecord) → held ≡ length x.fragments → (let y = append_fragment bs x in with_fragments (take held y.fragments) y) ≡ x
undo_join bs held x e = ap (λ z. with_fragments z x) (take_at x.fragments bs held (sym e))

module _ {S : Type 0} (M : Meaning S) (made : M.Made) (at : ℕ) where
  -- data that were added are heard as a session unit
  pub last_data : (c : ℕ) (v : Bool) (start n : ℕ) (s0 s1 : SlotRecord) (x : M.Share) → s1 ≡ alter c (append_data start n) s0
      → take_session_unit M made at c (s1.conn c).session_data (hear c v [] (record { slot = s1; share = x })) ≡ take_session_unit M made at c (append_data start n (s0.conn c)).session_data (hear c v [] (record { slot = s0; share = x }))
  last_data c v start n s0 s1 x e =
      ap (λ s. take_session_unit M made at c (s.conn c).session_data (hear c v [] (record { slot = s; share = x }))) e
      ∙ ap (λ z. take_session_unit M made at c z.session_data (hear c v [] (record { slot = alter c (append_data start n) s0; share = x }))) (put_at c (append_data start n (s0.conn c)) s0.conn)
      ∙ ap (λ s. take_session_unit M made at c (append_data start n (s0.conn c)).session_data (record { slot = s; share = x })) (over c (after_unit v []) (append_data start n) s0)

  -- which is what the last data come to, since there was room for them
  pub added_heard : (c : ℕ) (v : Bool) (start n : ℕ) (s0 s1 : SlotRecord) (x : M.Share) (r : Result (SlotState M.Share) Refusal) → AddsData c start n (Ok tt) s0 s1
      → r ≡ take_session_unit M made at c (s1.conn c).session_data (hear c v [] (record { slot = s1; share = x }))
      → r ≡ (let st : SlotState M.Share = record { slot = s0; share = x } in take_object M made at c Active (DataLast (part_with_offset c start n st)) v st)
  added_heard c v start n s0 s1 x r on e = e ∙ last_data c v start n s0 s1 x on.1 ∙ passed_by _ no.Data (not_many 2048 (s0.conn c).session_data (part_of start n (s0.conn c)) on.0)
