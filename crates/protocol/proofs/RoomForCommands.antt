-- Whatever command is due, its link units fit the room for every command.
use Rattle.std.proofs.Common.{◌≡◌, ℕ, ◌≤◌, Bool, true, false, not, ltb, List, [], length, Some, None, Ok, Err, Option, Result, refl, subst, arith}
use Rattle.std.proofs.lemmas.Bool.{cond_both, ltb-true, ltb-false, not-false}
use Rattle.wire.specs.LpduWriting.{lpdus_bytes}
use Rattle.wire.specs.declared.tpdu.Command.TheVariants as cmd
use Rattle.wire.specs.TpduWriting.{command_bytes}
use Rattle.wire.specs.declared.spdu.SessionReply.TheVariants as say
use Rattle.protocol.specs.declared.refusal.Refusal.{Refusal}
use Rattle.protocol.specs.declared.refusal.Refusal.TheVariants as no
use Rattle.resource.specs.Meaning.{Meaning}
use Rattle.resource.specs.Lawful.{Lawful}
use Rattle.protocol.specs.declared.state.State.{State}
use Rattle.protocol.specs.declared.state.State.TheVariants.{CreateDue, Active, DeleteDue, ReplyDue}
use Rattle.protocol.specs.declared.state.SessionRow.{SessionRow}
use Rattle.protocol.specs.declared.state.OwedCommand.{OwedCommand}
use Rattle.protocol.specs.declared.state.OwedCommand.TheVariants.{NewConnection, NoConnection, SessionUnit}
use Rattle.protocol.specs.Limits.{least_size, command_limit}
use Rattle.protocol.specs.Results.{and_then, refuse_if}
use Rattle.protocol.specs.SlotRecord.{valid_connection}
use Rattle.protocol.specs.Sound.{Sound}
use Rattle.protocol.specs.SlotCalls.{CallAnswer, done, turn_back, wrote, ServedCall, SlotState, DueOutcome, next, next_outcome, due_command, active_due, greet, greet_row, greet_with, poll, write_in}
use Rattle.protocol.specs.Runs.{HostCall, at, run, new_host, answer, answer_of}
use Rattle.protocol.specs.HostLaws.{RoomSuffices}
use Rattle.protocol.proofs.CommandLengths.{CommandIsShort, lpdus_length, owed_short}
use Rattle.protocol.proofs.ObjectLengths.{object_brief}
use Rattle.protocol.proofs.LedgerAgrees.{records_sound}

-- no refusal for want of room, if there is room for every command, and nothing longer written
abbrev FitsIn : {A : Type 0} → ℕ → (A → Type 0) → Result A Refusal → Type 0
FitsIn room P (Ok a) = P a
FitsIn room P (Err e) = command_limit ≤ room → e ≡ no.Room → ⊥

refuse_fits : {A : Type 0} (room : ℕ) (P : A → Type 0) (b : Bool) (e : Refusal) (r : Result A Refusal) → (command_limit ≤ room → b ≡ true → e ≡ no.Room → ⊥) → (b ≡ false → FitsIn room P r) → FitsIn room P (refuse_if b e r)
refuse_fits room P true e r h f = λ k. h k refl
refuse_fits room P false e r h f = f refl

then_fits : {A B : Type 0} (room : ℕ) (P : B → Type 0) (r : Result A Refusal) (f : A → Result B Refusal) → FitsIn room (λ a. FitsIn room P (f a)) r → FitsIn room P (and_then r f)
then_fits room P (Ok a) f h = h
then_fits room P (Err e) f h = h

-- what is written is short
abbrev BriefAnswer : CallAnswer → Type 0
BriefAnswer done = Unit {0}
BriefAnswer turn_back = Unit {0}
BriefAnswer (wrote bs t) = length bs ≤ command_limit

module _ {S : Type 0} (M : Meaning S) (made : M.Made) (at : ℕ) (law : Lawful M) (st : SlotState M.Share) (c : ℕ) (s : Sound st.slot) where
  poll_short : CommandIsShort (poll M made at c st).command
  poll_short = cond_both (st.slot.conn c).available cmd.Receive (cmd.Data []) CommandIsShort (λ _. tt) (λ _. omega arith)

  greet_short : (n : ℕ) (r : SessionRow) (g : Option (List ℕ)) → M.greeting made r.identifier ≡ g → CommandIsShort (greet_with M made at c n r g st).command
  greet_short n r None e = poll_short
  greet_short n r (Some apdu) e = owed_short c (SessionUnit (say.Data n apdu)) (object_brief apdu ((law.answers made).greeting r.identifier apdu e))

  row_short : (n : ℕ) (x : Option SessionRow) → CommandIsShort (greet_row M made at c n x st).command
  row_short n None = poll_short
  row_short n (Some r) = greet_short n r (M.greeting made r.identifier) refl

  first_short : (f : Option ℕ) → CommandIsShort (greet M made at c f st).command
  first_short None = poll_short
  first_short (Some n) = row_short n (st.slot.rows n)

  owed_due_short : (o : Option (OwedCommand (List ℕ))) → (st.slot.conn c).owed ≡ o → CommandIsShort (active_due M made at c o st).command
  owed_due_short None e = first_short _
  owed_due_short (Some NewConnection) e = tt
  owed_due_short (Some NoConnection) e = tt
  owed_due_short (Some (SessionUnit x)) e = owed_short c (SessionUnit x) ((s.orderly c).brief (SessionUnit x) e)

  due_fits : (room : ℕ) (a : State) → FitsIn room (λ d. CommandIsShort d.command) (due_command M made at c a st)
  due_fits room CreateDue = tt
  due_fits room Active = owed_due_short (st.slot.conn c).owed refl
  due_fits room DeleteDue = tt
  due_fits room ReplyDue = tt
  due_fits room _ = λ k e. (let y : ◌≡◌ {A = ℕ} 0 1 = cc in omega arith)

  written_fits : (room : ℕ) (d : DueOutcome M.Share) → least_size ≤ st.slot.size → CommandIsShort d.command → FitsIn room (λ x. BriefAnswer x.answer) (write_in M made at room (lpdus_bytes c st.slot.size (command_bytes c d.command)) d)
  written_fits room d b e =
      let short = lpdus_length c st.slot.size d.command b e in
      refuse_fits room (λ x. BriefAnswer x.answer) (ltb room (length (lpdus_bytes c st.slot.size (command_bytes c d.command)))) no.Room _
      (λ k t _. omega (arith, ltb-true room (length (lpdus_bytes c st.slot.size (command_bytes c d.command))) t))
      (λ _. short)

  due_written_fits : (room : ℕ) (r : Result (DueOutcome M.Share) Refusal) → least_size ≤ st.slot.size → FitsIn room (λ d. CommandIsShort d.command) r
      → FitsIn room (λ d. FitsIn room (λ x. BriefAnswer x.answer) (write_in M made at room (lpdus_bytes c st.slot.size (command_bytes c d.command)) d)) r
  due_written_fits room (Ok d) b h = written_fits room d b h
  due_written_fits room (Err e) b h = h

  next_fits : (room : ℕ) → FitsIn room (λ x. BriefAnswer x.answer) (next_outcome M made at c room st)
  next_fits room =
      refuse_fits room _ (not (valid_connection c)) no.Connection _ (λ _ _ z. (let y : ◌≡◌ {A = ℕ} 0 1 = cc in omega arith)) (λ v.
      refuse_fits room _ (not st.slot.present) no.Presence _ (λ _ _ z. (let y : ◌≡◌ {A = ℕ} 0 1 = cc in omega arith)) (λ p.
      refuse_fits room _ (st.slot.conn c).out no.Turn _ (λ _ _ z. (let y : ◌≡◌ {A = ℕ} 0 1 = cc in omega arith)) (λ o.
      then_fits room _ (due_command M made at c (st.slot.conn c).state st) _
      (due_written_fits room (due_command M made at c (st.slot.conn c).state st) (s.roomy (not-false _ p)) (due_fits room (st.slot.conn c).state)))))

answer_fits : {A : Type 0} (room : ℕ) (r : Result (ServedCall A) Refusal) → FitsIn room (λ x. BriefAnswer x.answer) r → FitsIn room BriefAnswer (answer_of r)
answer_fits room (Ok x) h = h
answer_fits room (Err e) h = h

module _ {S : Type 0} (M : Meaning S) (made : M.Made) (law : Lawful M) where
  fitting : (cs : List HostCall) (s c room : ℕ) → FitsIn room BriefAnswer (answer M made (at s (next c room)) (run M made cs (new_host M made)))
  fitting cs s c room =
      refuse_fits room BriefAnswer (ltb 3 s) no.Slot _ (λ _ _ z. (let y : ◌≡◌ {A = ℕ} 0 1 = cc in omega arith)) (λ e.
      answer_fits room (next_outcome M made s c room (run M made cs (new_host M made) s)) (next_fits M made s law (run M made cs (new_host M made) s) c (records_sound M made law cs s (omega (arith, ltb-false 3 s e))) room))

  pub room : RoomSuffices M made
  room = record {
    suffices = λ cs s c room h e. subst (FitsIn room BriefAnswer) e (fitting cs s c room) h refl;
    longest = λ cs s c room bs turn e. subst (FitsIn room BriefAnswer) e (fitting cs s c room);
  }
