-- No reader reads past its bytes.
use Rattle.std.proofs.Common.{◌≡◌, ℕ, ◌+◌, ◌-◌, ◌*◌, ◌≤◌, Bool, true, false, cond, ◌&&◌, eqb, ltb, leb, List, [], ◌∷◌, length, take, drop, Some, None, Ok, Err, Option, Result, sym, refl, ap, ◌∙◌, subst, arith}
use Rattle.std.proofs.lemmas.List.{length-drop, length-take-le, take_all, take-take, drop-take, drop-drop}
use Rattle.std.proofs.lemmas.Bool.{cond_both, and_parts, leb-true}
use Rattle.wire.specs.declared.fault.Fault.{Fault}
use Rattle.wire.specs.declared.fault.Fault.TheVariants.{Tag, Length, Content}
use Rattle.wire.specs.declared.fault.LinkFault.{LinkFault}
use Rattle.wire.specs.declared.fault.LinkFault.TheVariants.{Short, Long, Connection}
use Rattle.wire.specs.declared.cursor.FieldLength.{FieldLength}
use Rattle.wire.specs.declared.cursor.FieldLength.TheVariants.{Exactly, AtLeast}
use Rattle.wire.specs.Reading.{Position, Located, start, with_left, go_on, and_then, split_first, byte_of_split, read_byte, read_two_bytes, read_four_bytes, read_length, allows_length, next_bytes, read_field, in_field, read_rest, nothing, read_end}
use Rattle.wire.specs.LpduReading.{more_follows, fragment_with, after_mark, after_connection, read_fragment}
use Rattle.wire.specs.declared.tpdu.ResponseObject.TheVariants as obj
use Rattle.wire.specs.declared.tpdu.Command.TheVariants as cmd
use Rattle.wire.specs.TpduTags.{sb, rcv, create_t_c, c_t_c_reply, delete_t_c, d_t_c_reply, request_t_c, new_t_c, t_c_error, t_data_last, t_data_more}
use Rattle.wire.specs.TpduReading.{after_id, body_after_id, bare, data_after_id, byte_after_id, bare_object, bare_command, bare_or_fault, object, status, response, command_object, command}
use Rattle.wire.specs.declared.spdu.SessionRequest.TheVariants as ask
use Rattle.wire.specs.declared.spdu.SessionReply.TheVariants as say
use Rattle.wire.specs.SpduTags.{session_number, open_session_request, open_session_response, close_session_request, close_session_response}
use Rattle.wire.specs.SpduReading.{number_field, request, open_response, close_response, reply}
use Rattle.wire.specs.ApduTags.{first_tag_byte}
use Rattle.wire.specs.ApduReading as application
use Rattle.wire.specs.ReadingBack.{LiesWithin}
use Rattle.wire.specs.UnitLaws.{ObjectLiesWithin, CommandLiesWithin, RequestLiesWithin, ReplyLiesWithin, BodiesLieWithin}

-- what holds of a value that was read
abbrev Holds : {A E : Type 0} → (A → Type 0) → Result A E → Type 0
Holds P (Ok a) = P a
Holds P (Err e) = Unit {0}

abbrev Each : {A : Type 0} → (A → Type 0) → Option A → Type 0
Each P None = Unit {0}
Each P (Some a) = P a

abbrev Any : {A : Type 0} → A → Type 0
Any a = Unit {0}

module _ (bs : List ℕ) where
  -- a position in these bytes
  record In (p : Position) : Type 0 where
    pub part : p.left ≡ take (length p.left) (drop (p.end - length p.left) bs)
    pub fits : length p.left ≤ p.end
    pub ends : p.end ≤ length bs

  in_start : In (start bs)
  in_start =
      let none : length bs - length bs ≡ 0 = omega arith in
      record { part = rw none (sym (take_all (length bs) bs (omega arith))); fits = omega arith; ends = omega arith }

  -- with some bytes read
  in_past : (p : Position) (n : ℕ) → n ≤ length p.left → In p → In (with_left (drop n p.left) p)
  in_past p n le i =
      let long = length-drop n p.left in
      let m = length p.left - n in
      let off = p.end - length p.left in
      let sum : length p.left ≡ n + m = omega arith in
      let at : p.end - m ≡ off + n = omega (arith, i.fits) in
      record {
        part = ap (drop n) i.part ∙ ap (λ k. drop n (take k (drop off bs))) sum ∙ drop-take n m (drop off bs) ∙ ap (take m) (drop-drop n off bs) ∙ rw (long, at);
        fits = omega (arith, long, i.fits);
        ends = i.ends;
      }

  -- a position of which the next bytes are all that is left
  in_part : (p : Position) (n : ℕ) → n ≤ length p.left → In p → In (next_bytes n p)
  in_part p n le i =
      let long = length-take-le n p.left le in
      let off = p.end - length p.left in
      let at : p.end - (length p.left - n) - n ≡ off = omega (arith, i.fits) in
      record {
        part = ap (take n) i.part ∙ take-take n (length p.left) (drop off bs) le ∙ rw (long, at);
        fits = omega (arith, long, i.fits);
        ends = omega (arith, i.ends);
      }

  lies_rest : (p : Position) → In p → LiesWithin bs (read_rest p)
  lies_rest p i = record { part = i.part; inside = omega (arith, i.fits, i.ends) }

  -- a step of a reader that stays in these bytes, and what holds of what it read
  record Safe {A : Type 0} (P : A → Type 0) (s : Result A Fault × Position) : Type 0 where
    pub value : Holds P s.0
    pub place : In s.1

  then_safe : {A B : Type 0} {P : A → Type 0} {Q : B → Type 0} (s : Result A Fault × Position) (f : A → Position → Result B Fault × Position) → Safe P s → ((a : A) (p : Position) → P a → In p → Safe Q (f a p)) → Safe Q (and_then s f)
  then_safe {A} {B} {P} {Q} s f safe next = go s.0 s.1 safe.value safe.place
    where
      go : (r : Result A Fault) (p : Position) → Holds P r → In p → Safe Q (go_on r p f)
      go (Ok a) p v i = next a p v i
      go (Err e) p v i = record { value = tt; place = i }

  either : {A : Type 0} {P : A → Type 0} (t : Bool) {x y : Result A Fault × Position} → Safe P x → Safe P y → Safe P (cond t x y)
  either {A} {P} t {x} {y} a b = cond_both t x y (Safe P) (λ _. a) (λ _. b)

  read_ok : {A : Type 0} {P : A → Type 0} (a : A) (p : Position) → P a → In p → Safe P (Ok a, p)
  read_ok a p v i = record { value = v; place = i }

  read_err : {A : Type 0} {P : A → Type 0} (e : Fault) (p : Position) → In p → Safe {A = A} P (Err e, p)
  read_err e p i = record { value = tt; place = i }

  -- what is left after some bytes were read
  in_after : (p : Position) (n : ℕ) (ys : List ℕ) → drop n p.left ≡ ys → n ≤ length p.left → In p → In (with_left ys p)
  in_after p n ys e le i = subst (λ zs. In (with_left zs p)) e (in_past p n le i)

  byte_safe : (p : Position) → In p → Safe Any (read_byte p)
  byte_safe p i = go p.left refl
    where
      go : (xs : List ℕ) → p.left ≡ xs → Safe Any (byte_of_split (split_first xs) p)
      go [] e = read_err Length p i
      go (x ∷ xs) e = read_ok x (with_left xs p) tt (in_after p 1 xs (ap (drop 1) e) (omega (arith, ap length e)) i)

  number_safe : (p : Position) → In p → Safe Any (read_two_bytes p)
  number_safe p i = then_safe _ _ (byte_safe p i) (λ high q _ j. then_safe _ _ (byte_safe q j) (λ low r _ k. read_ok _ r tt k))

  word_safe : (p : Position) → In p → Safe Any (read_four_bytes p)
  word_safe p i = then_safe _ _ (number_safe p i) (λ high q _ j. then_safe _ _ (number_safe q j) (λ low r _ k. read_ok _ r tt k))

  length_safe : (p : Position) → In p → Safe Any (read_length p)
  length_safe p i =
      then_safe _ _ (byte_safe p i) (λ b q _ j.
      either (ltb b 0x80) (read_ok b q tt j)
      (either (eqb b 0x81) (byte_safe q j)
      (either (eqb b 0x82) (number_safe q j)
      (read_err Length q j))))

  field_safe : (size : FieldLength) (p : Position) → In p → Safe In (read_field size p)
  field_safe size p i =
      then_safe _ _ (length_safe p i) (λ n q _ j.
      cond_both (allows_length size n && leb n (length q.left)) (Ok (next_bytes n q), with_left (drop n q.left) q) (Err Length, q) (Safe In)
      (λ e. let le = leb-true n (length q.left) (and_parts (allows_length size n) (leb n (length q.left)) e).1 in record { value = in_part q n le j; place = in_past q n le j })
      (λ e. record { value = tt; place = j }))

  finish_safe : (p : Position) → In p → Safe Any (read_end p, p)
  finish_safe p i = go p.left
    where
      go : (xs : List ℕ) → Safe Any (nothing xs, p)
      go [] = read_ok tt p tt i
      go (x ∷ xs) = read_err Length p i

  -- nothing may follow what was read
  alone_safe : {A : Type 0} {P : A → Type 0} (s : Result A Fault × Position) → Safe P s → Safe P (and_then s λ a p. and_then (read_end p, p) λ _ q. (Ok a, q))
  alone_safe s safe = then_safe s _ safe (λ a p v i. then_safe _ _ (finish_safe p i) (λ _ q _ j. read_ok a q v j))

  -- what was read is put into something
  as_safe : {A B : Type 0} {P : A → Type 0} {Q : B → Type 0} (make : A → B) (s : Result A Fault × Position) → Safe P s → ((a : A) → P a → Q (make a)) → Safe Q (and_then s λ a p. (Ok (make a), p))
  as_safe make s safe gives = then_safe s _ safe (λ a p v i. read_ok (make a) p (gives a v) i)

  -- what stands in a field
  within_safe : {A : Type 0} {P : A → Type 0} (size : FieldLength) (p : Position) (f : Position → Result A Fault × Position) → In p → ((body : Position) → In body → Safe P (f body)) → Safe P (in_field size p f)
  within_safe size p f i read = then_safe _ _ (field_safe size p i) (λ body q b j. record { value = (read body b).value; place = j })

  -- transport units
  own_safe : (id : ℕ) (size : FieldLength) (p : Position) → In p → Safe In (body_after_id id size p)
  own_safe id size p i = then_safe _ _ (field_safe size p i) (λ body q b j. record { value = go (read_byte body).0 (read_byte body).1 (byte_safe body b).place; place = j })
    where
      go : (r : Result ℕ Fault) (q : Position) → In q → Holds In (after_id id r q)
      go (Ok c) q j = cond_both (eqb c id) (Ok q) (Err Content) (Holds In) (λ _. j) (λ _. tt)
      go (Err e) q j = tt

  bare_safe : (id : ℕ) (p : Position) → In p → Safe Any (bare id p)
  bare_safe id p i = then_safe _ _ (own_safe id (Exactly 1) p i) (λ _ q _ j. read_ok tt q tt j)

  data_safe : (id : ℕ) (p : Position) → In p → Safe (LiesWithin bs) (data_after_id id p)
  data_safe id p i = then_safe _ _ (own_safe id (AtLeast 1) p i) (λ body q b j. read_ok (read_rest body) q (lies_rest body b) j)

  one_safe : (id : ℕ) (p : Position) → In p → Safe Any (byte_after_id id p)
  one_safe id p i = then_safe _ _ (own_safe id (Exactly 2) p i) (λ body q b j. record { value = (byte_safe body b).value; place = j })

  -- an object that is named by its tag and has nothing but the connection
  named_safe : {A : Type 0} {P : A → Type 0} (id : ℕ) (o : Option A) (p : Position) → Each P o → In p → Safe P (bare_or_fault id o p)
  named_safe id None p v i = read_err Tag p i
  named_safe id (Some a) p v i = as_safe (λ _. a) _ (bare_safe id p i) (λ _ _. v)

  -- one more name in a table
  each_named : {A : Type 0} (P : A → Type 0) (t : Bool) (a : A) (o : Option A) → P a → Each P o → Each P (cond t (Some a) o)
  each_named P true a o v e = v
  each_named P false a o v e = e

  bare_objects : (tag : ℕ) → Each (ObjectLiesWithin bs) (bare_object tag)
  bare_objects tag =
      each_named (ObjectLiesWithin bs) (eqb tag c_t_c_reply) obj.CreateReply _ tt
      (each_named (ObjectLiesWithin bs) (eqb tag delete_t_c) obj.Delete _ tt
      (each_named (ObjectLiesWithin bs) (eqb tag d_t_c_reply) obj.DeleteReply _ tt
      (each_named (ObjectLiesWithin bs) (eqb tag request_t_c) obj.RequestConnection None tt tt)))

  bare_commands : (tag : ℕ) → Each (CommandLiesWithin bs) (bare_command tag)
  bare_commands tag =
      each_named (CommandLiesWithin bs) (eqb tag create_t_c) cmd.Create _ tt
      (each_named (CommandLiesWithin bs) (eqb tag delete_t_c) cmd.Delete _ tt
      (each_named (CommandLiesWithin bs) (eqb tag d_t_c_reply) cmd.DeleteReply _ tt
      (each_named (CommandLiesWithin bs) (eqb tag rcv) cmd.Receive None tt tt)))

  object_safe : (id : ℕ) (p : Position) → In p → Safe (ObjectLiesWithin bs) (object id p)
  object_safe id p i =
      then_safe _ _ (byte_safe p i) (λ t q _ j.
      either (eqb t sb) (read_ok obj.Nothing p tt i)
      (either (eqb t t_data_last) (as_safe obj.DataLast _ (data_safe id q j) (λ _ l. l))
      (either (eqb t t_data_more) (as_safe obj.DataMore _ (data_safe id q j) (λ _ l. l))
      (named_safe id (bare_object t) q (bare_objects t) j))))

  status_safe : (id : ℕ) (p : Position) → In p → Safe Any (status id p)
  status_safe id p i =
      then_safe _ _ (byte_safe p i) (λ t q _ j.
      either (eqb t sb) (as_safe (λ v. leb 0x80 v) _ (one_safe id q j) (λ _ _. tt)) (read_err Tag q j))

  response_safe : (id : ℕ) → Safe (λ r. ObjectLiesWithin bs r.object) (response id (start bs))
  response_safe id =
      then_safe _ _ (object_safe id (start bs) in_start) (λ o q l j.
      then_safe _ _ (status_safe id q j) (λ da r _ k.
      then_safe _ _ (finish_safe r k) (λ _ s _ m.
      read_ok (record { object = o; available = da }) s l m)))

  order_safe : (id : ℕ) (p : Position) → In p → Safe (CommandLiesWithin bs) (command_object id p)
  order_safe id p i =
      then_safe _ _ (byte_safe p i) (λ t q _ j.
      either (eqb t t_data_last) (as_safe cmd.Data _ (data_safe id q j) (λ _ l. l))
      (either (eqb t new_t_c) (as_safe cmd.NewConnection _ (one_safe id q j) (λ _ _. tt))
      (either (eqb t t_c_error) (as_safe cmd.Error _ (one_safe id q j) (λ _ _. tt))
      (named_safe id (bare_command t) q (bare_commands t) j))))

  command_safe : (id : ℕ) → Safe (CommandLiesWithin bs) (command id (start bs))
  command_safe id = alone_safe _ (order_safe id (start bs) in_start)

  -- session units
  numbered_safe : (p : Position) → In p → Safe Any (number_field p)
  numbered_safe p i = within_safe (Exactly 2) p read_two_bytes i number_safe

  body_safe : {A : Type 0} {P : A → Type 0} (make : ℕ → Located → A) (p : Position) → In p → ((n : ℕ) (b : Located) → LiesWithin bs b → P (make n b)) → Safe P (and_then (number_field p) λ n q. (Ok (make n (read_rest q)), q))
  body_safe make p i gives = then_safe _ _ (numbered_safe p i) (λ n q _ j. read_ok (make n (read_rest q)) q (gives n (read_rest q) (lies_rest q j)) j)

  request_safe : Safe (RequestLiesWithin bs) (request (start bs))
  request_safe =
      then_safe _ _ (byte_safe (start bs) in_start) (λ t q _ j.
      either (eqb t open_session_request) (alone_safe _ (within_safe (Exactly 4) q _ j (λ b k. then_safe _ _ (word_safe b k) (λ w c _ m. read_ok (ask.Open w) c tt m))))
      (either (eqb t close_session_request) (alone_safe _ (as_safe ask.Close _ (numbered_safe q j) (λ _ _. tt)))
      (either (eqb t session_number) (body_safe ask.Data q j (λ _ _ l. l))
      (read_err Tag q j))))

  opened_safe : (p : Position) → In p → Safe (ReplyLiesWithin bs) (open_response p)
  opened_safe p i =
      within_safe (Exactly 7) p _ i (λ b j.
      then_safe _ _ (byte_safe b j) (λ s c _ k.
      then_safe _ _ (word_safe c k) (λ w d _ l.
      then_safe _ _ (number_safe d l) (λ n e _ m.
      read_ok (say.OpenResponse s w n) e tt m))))

  closed_safe : (p : Position) → In p → Safe (ReplyLiesWithin bs) (close_response p)
  closed_safe p i =
      within_safe (Exactly 3) p _ i (λ b j.
      then_safe _ _ (byte_safe b j) (λ s c _ k.
      then_safe _ _ (number_safe c k) (λ n d _ l.
      read_ok (say.CloseResponse s n) d tt l)))

  reply_safe : Safe (ReplyLiesWithin bs) (reply (start bs))
  reply_safe =
      then_safe _ _ (byte_safe (start bs) in_start) (λ t q _ j.
      either (eqb t open_session_response) (alone_safe _ (opened_safe q j))
      (either (eqb t close_session_response) (alone_safe _ (closed_safe q j))
      (either (eqb t session_number) (body_safe say.Data q j (λ _ _ l. l))
      (read_err Tag q j))))

  -- application objects
  tag_safe : (p : Position) → In p → Safe Any (application.tag p)
  tag_safe p i = go p.left refl
    where
      go : (xs : List ℕ) → p.left ≡ xs → Safe Any (application.first xs p)
      go [] e = read_err Length p i
      go (a ∷ []) e = either (eqb a first_tag_byte) (read_err Length p i) (read_err Tag p i)
      go (a ∷ b ∷ []) e = either (eqb a first_tag_byte) (either (leb 0x80 b) (read_err Length p i) (read_err Tag p i)) (read_err Tag p i)
      go (a ∷ b ∷ c ∷ xs) e =
          either (eqb a first_tag_byte) (either (leb 0x80 b) (either (ltb c 0x80) (read_ok (0x9f0000 + b * 256 + c) (with_left xs p) tt (in_after p 3 xs (ap (drop 3) e) (omega (arith, ap length e)) i)) (read_err Tag p i)) (read_err Tag p i)) (read_err Tag p i)

  apdu_safe : Safe (λ a. LiesWithin bs a.body) (application.object (start bs))
  apdu_safe =
      then_safe _ _ (tag_safe (start bs) in_start) (λ t q _ j.
      then_safe _ _ (field_safe (AtLeast 0) q j) (λ body r b k.
      then_safe _ _ (finish_safe r k) (λ _ s _ m.
      read_ok (record { tag = t; body = read_rest body }) s (lies_rest body b) m)))

  -- link units
  mark_safe : (r : Result ℕ Fault) (p : Position) → In p → Holds (λ f. LiesWithin bs f.bytes) (after_mark r p)
  mark_safe (Ok m) p i = go (more_follows m)
    where
      go : (r : Result Bool LinkFault) → Holds (λ f. LiesWithin bs f.bytes) (fragment_with r p)
      go (Ok goes_on) = lies_rest p i
      go (Err e) = tt
  mark_safe (Err e) p i = tt

  connection_safe : (id : ℕ) (r : Result ℕ Fault) (p : Position) → In p → Holds (λ f. LiesWithin bs f.bytes) (after_connection id r p)
  connection_safe id (Ok c) p i = cond_both (eqb c id) (after_mark (read_byte p).0 (read_byte p).1) (Err Connection) (Holds (λ f. LiesWithin bs f.bytes)) (λ _. mark_safe (read_byte p).0 (read_byte p).1 (byte_safe p i).place) (λ _. tt)
  connection_safe id (Err e) p i = tt

  fragment_safe : (size id : ℕ) → Holds (λ f. LiesWithin bs f.bytes) (read_fragment size id bs)
  fragment_safe size id =
      let p = start bs in
      let rest_of = after_connection id (read_byte p).0 (read_byte p).1 in
      cond_both (ltb (length bs) 3) (Err Short) (cond (ltb size (length bs)) (Err Long) rest_of) (Holds (λ f. LiesWithin bs f.bytes))
      (λ _. tt)
      (λ _. cond_both (ltb size (length bs)) (Err Long) rest_of (Holds (λ f. LiesWithin bs f.bytes)) (λ _. tt) (λ _. connection_safe id (read_byte p).0 (read_byte p).1 (byte_safe p in_start).place))

pub lies_within : BodiesLieWithin
lies_within = record {
  fragments = λ size id bs f e. subst (Holds (λ g. LiesWithin bs g.bytes)) e (fragment_safe bs size id);
  responses = λ id bs r e. subst (Holds (λ s. ObjectLiesWithin bs s.object)) e (response_safe bs id).value;
  commands = λ id bs c e. subst (Holds (CommandLiesWithin bs)) e (command_safe bs id).value;
  requests = λ bs r e. subst (Holds (RequestLiesWithin bs)) e (request_safe bs).value;
  replies = λ bs r e. subst (Holds (ReplyLiesWithin bs)) e (reply_safe bs).value;
  objects = λ bs a e. subst (Holds (λ o. LiesWithin bs o.body)) e (apdu_safe bs).value;
}
