-- What is written reads back.
use Rattle.std.proofs.Common.{◌≡◌, ℕ, zero, suc, ◌+◌, ◌-◌, ◌/◌, ◌%◌, ◌<◌, ◌≤◌, Bool, true, false, cond, ◌&&◌, ltb, leb, List, [], ◌∷◌, ◌++◌, length, take, drop, Ok, Err, Result, refl, ap, ◌∙◌, arith}
use Rattle.std.specs.List.{flat_map}
use Rattle.std.proofs.lemmas.Bool.{cond_both, leb-true, leb-false, le-ltb, le-leb, eq-eqb}
use Rattle.std.proofs.lemmas.List.{append-nil, take_all, drop_all, take_at, drop_at, length-take, length-drop, take-append-drop}
use Rattle.wire.specs.declared.fault.Fault.{Fault}
use Rattle.wire.specs.declared.fault.Fault.TheVariants.{Length}
use Rattle.wire.specs.declared.cursor.FieldLength.{FieldLength}
use Rattle.wire.specs.declared.cursor.FieldLength.TheVariants.{AtLeast}
use Rattle.wire.specs.Reading.{Position, with_left, and_then, read_byte, read_length, read_field, allows_length, next_bytes, read_rest, read_end}
use Rattle.wire.specs.Writing.{length_bytes}
use Rattle.wire.specs.LpduTags.{last, more}
use Rattle.wire.specs.LpduReading.{read_fragment}
use Rattle.wire.specs.LpduWriting.{cut}
use Rattle.wire.specs.declared.tpdu.Command.{Command}
use Rattle.wire.specs.declared.tpdu.Command.TheVariants as cmd
use Rattle.wire.specs.TpduReading.{after_id}
use Rattle.wire.specs.TpduWriting.{command_bytes}
use Rattle.wire.specs.TpduViews.{map_command}
use Rattle.wire.specs.ReadingBack.{result_map, bytes_of, read_lpdus}
use Rattle.wire.specs.UnitLaws.{LengthsReadBack, CommandsReadBack, LpdusReadBack}

pub lengths_back : LengthsReadBack
lengths_back n end read_rest h = go (ltb n 0x80) refl (ltb n 0x100) refl
  where
    go : (a : Bool) → ltb n 0x80 ≡ a → (b : Bool) → ltb n 0x100 ≡ b → read_length (record { left = cond a (n ∷ []) (cond b (0x81 ∷ n ∷ []) (0x82 ∷ n / 256 ∷ n % 256 ∷ [])) ++ read_rest; end = end }) ≡ (Ok n, record { left = read_rest; end = end })
    go true e b f = rw e
    go false e true f = refl
    go false e false f = ap (λ k. (Ok k, record { left = read_rest; end = end })) (omega arith)

-- a field written with its length, which is allowed, is there whole
abbrev whole : FieldLength → ℕ → Position → Result Position Fault × Position
whole size n q = cond (allows_length size n && leb n (length q.left)) (Ok (next_bytes n q), with_left (drop n q.left) q) (Err Length, q)

field_back : (size : FieldLength) (body : List ℕ) (end : ℕ) → length body < 0x10000 → allows_length size (length body) ≡ true → read_field size (record { left = length_bytes (length body) ++ body; end = end }) ≡ (Ok (record { left = body; end = end - (length body - length body) }), record { left = []; end = end })
field_back size body end h fits =
    ap (λ s. and_then s (whole size)) (lengths_back (length body) end body h)
    ∙ rw (fits, le-leb (length body) (length body) (omega arith), take_all (length body) body (omega arith), drop_all (length body) body (omega arith))

-- a unit of data, from the field that they stand in
abbrev data_unit : ℕ → Result Position Fault × Position → Result (Command (List ℕ)) Fault
data_unit id s =
    result_map (map_command bytes_of) (
    and_then (and_then (and_then (and_then s λ body q. (after_id id (read_byte body).0 (read_byte body).1, q)) λ body q. (Ok (read_rest body), q)) λ bs q. (Ok (cmd.Data bs), q)) λ c q.
    and_then (read_end q, q) λ _ r.
    (Ok c, r)).0

pub commands_back : CommandsReadBack
commands_back id cmd.Create h = rw (eq-eqb id id refl, result_map)
commands_back id cmd.Delete h = rw (eq-eqb id id refl, result_map)
commands_back id cmd.DeleteReply h = rw (eq-eqb id id refl, result_map)
commands_back id cmd.Receive h = rw (eq-eqb id id refl, result_map)
commands_back id (cmd.Data bs) h =
    ap (data_unit id) (field_back (AtLeast 1) (id ∷ bs) (length (command_bytes id (cmd.Data bs))) h (le-leb 1 (suc (length bs)) (omega arith)))
    ∙ rw (eq-eqb id id refl, result_map)
commands_back id (cmd.NewConnection c) h = rw (eq-eqb id id refl, result_map)
commands_back id (cmd.Error e) h = rw (eq-eqb id id refl, result_map)

-- one link unit with the last or the more mark
link_back : (size id : ℕ) (bs : List ℕ) → 1 ≤ length bs → 2 + length bs ≤ size → (read_fragment size id (id ∷ last ∷ bs) ≡ Ok (record { more = false; bytes = record { offset = suc (suc (length bs)) - length bs; bytes = bs } })) × (read_fragment size id (id ∷ more ∷ bs) ≡ Ok (record { more = true; bytes = record { offset = suc (suc (length bs)) - length bs; bytes = bs } }))
link_back size id bs n le =
    let short = le-ltb (suc (suc (length bs))) 3 (omega arith) in
    let long = le-ltb size (suc (suc (length bs))) (omega arith) in
    (rw (short, long, eq-eqb id id refl), rw (short, long, eq-eqb id id refl))

last_back : (k size id : ℕ) (bs : List ℕ) → 1 ≤ length bs → 2 + length bs ≤ size → read_lpdus (suc k) size id (flat_map (λ x. x) ((id ∷ last ∷ bs) ∷ [])) ≡ Ok bs
last_back k size id bs n le = rw (append-nil bs, take_all size (id ∷ last ∷ bs) (omega arith), (link_back size id bs n le).0, le-ltb size (suc (suc (length bs))) (omega arith))

cut_back : (k size id : ℕ) (bs : List ℕ) → 3 ≤ size → 1 ≤ length bs → length bs ≤ k → read_lpdus k size id (flat_map (λ x. x) (cut k id (size - 2) bs)) ≡ Ok bs
cut_back zero size id bs h n le = let z : ⊥ = omega arith in absurd z
cut_back (suc k) size id bs h n le =
    cond_both (leb (length bs) (size - 2)) ((id ∷ last ∷ bs) ∷ []) ((id ∷ more ∷ take (size - 2) bs) ∷ cut k id (size - 2) (drop (size - 2) bs)) (λ ls. read_lpdus (suc k) size id (flat_map (λ x. x) ls) ≡ Ok bs)
    (λ e. last_back k size id bs n (omega (arith, leb-true (length bs) (size - 2) e)))
    (λ e. more_back (leb-false (length bs) (size - 2) e) (cut_back k size id (drop (size - 2) bs) h (omega (arith, length-drop (size - 2) bs, leb-false (length bs) (size - 2) e)) (omega (arith, length-drop (size - 2) bs))))
  where
    more_back : size - 2 < length bs → read_lpdus k size id (flat_map (λ x. x) (cut k id (size - 2) (drop (size - 2) bs))) ≡ Ok (drop (size - 2) bs) → read_lpdus (suc k) size id ((id ∷ more ∷ take (size - 2) bs) ++ flat_map (λ x. x) (cut k id (size - 2) (drop (size - 2) bs))) ≡ Ok bs
    more_back e next =
        let read_rest = flat_map (λ x. x) (cut k id (size - 2) (drop (size - 2) bs)) in
        let part = id ∷ more ∷ take (size - 2) bs in
        let long : length part ≡ size = omega (arith, length-take (size - 2) bs) in
        rw (take_at part read_rest size long, drop_at part read_rest size long, (link_back size id (take (size - 2) bs) (omega (arith, long)) (omega (arith, long))).1, next, take-append-drop (size - 2) bs)

pub lpdus_back : LpdusReadBack
lpdus_back id size bs h n = cut_back (length bs) size id bs h n (omega arith)
