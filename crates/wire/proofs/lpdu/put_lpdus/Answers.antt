use Rattle.std.proofs.Common.{ℕ, ◌+◌, ◌<◌, ◌≤◌, List, [], ◌∷◌, ◌++◌, length, take, drop, sym, refl, subst, ◌∙◌, arith}
use Rattle.std.proofs.lemmas.List.{append-nil, length-take-le}
use Rattle.std.proofs.lemmas.Bool.{leb-true}
use Rattle.wire.specs.LpduTags.{last, more}
use Rattle.wire.specs.LpduWriting.{cut_bytes}
use Rattle.wire.proofs.WrittenBehind.{Goes_on, next_fits, next_written, all_written}
use Rattle.wire.proofs.LpduCuts.{cut_more, cut_last}
use Rattle.wire.proofs.lpdu.put_lpdus.Goals as goal

-- what is left to write begins with the next link unit
next : (id most : ℕ) (left all out was : List ℕ) (at : ℕ) → 1 ≤ most → most < length left → Goes_on (cut_bytes id most left) all out was at → Goes_on ((id ∷ more ∷ take most left) ++ cut_bytes id most (drop most left)) all out was at
next id most left all out was at m lt g = subst (λ r. Goes_on r all out was at) (cut_more id most left m lt) g

end : (id most : ℕ) (left all out was : List ℕ) (at : ℕ) → 1 ≤ length left → length left ≤ most → Goes_on (cut_bytes id most left) all out was at → Goes_on ((id ∷ last ∷ left) ++ []) all out was at
end id most left all out was at n le g = subst (λ r. Goes_on r all out was at) (cut_last id most left n le ∙ sym (append-nil (id ∷ last ∷ left))) g

pub put_lpdu-requires : goal.put_lpdu-requires
put_lpdu-requires c =
    let left = c.loop-left.left.now in
    let all = cut_bytes c.args.id c.args.most c.args.tpdu.now in
    let g = next c.args.id c.args.most left all c.loop-left.out c.args.out.now c.loop-left.at c.requires.most c.loop-left-test.true c.loop-left.invariant.1 in
    let room = leb-true (length all) (length c.args.out.now) (sym c.requires.room) in
    rw c.split_at.ensures.front (next_fits (c.args.id ∷ more ∷ take c.args.most left) (cut_bytes c.args.id c.args.most (drop c.args.most left)) all c.loop-left.out c.loop-left.at g.inside g.front (omega (arith, room, c.loop-left.auto.out)))

pub loop-left-preserved : goal.loop-left-preserved
loop-left-preserved c =
    let left = c.loop-left.left.now in
    let all = cut_bytes c.args.id c.args.most c.args.tpdu.now in
    let piece = c.args.id ∷ more ∷ take c.args.most left in
    let g = next c.args.id c.args.most left all c.loop-left.out c.args.out.now c.loop-left.at c.requires.most c.loop-left-test.true c.loop-left.invariant.1 in
    let room = leb-true (length all) (length c.args.out.now) (sym c.requires.room) in
    let long = length-take-le c.args.most left (omega arith) in
    let done = next_written piece (cut_bytes c.args.id c.args.most (drop c.args.most left)) all c.loop-left.out c.args.out.now c.loop-left.at (c.loop-left.at + (c.args.most + 2)) (omega (arith, long)) g (omega (arith, room, c.loop-left.auto.out)) in
    (omega arith, rw (c.split_at.ensures.back, c.put_lpdu.ensures, c.split_at.ensures.front) done)

pub put_lpdu-requires-2 : goal.put_lpdu-requires-2
put_lpdu-requires-2 c =
    let left = c.loop-left.left.now in
    let all = cut_bytes c.args.id c.args.most c.args.tpdu.now in
    let g = end c.args.id c.args.most left all c.loop-left.out c.args.out.now c.loop-left.at c.loop-left.invariant.0 c.loop-left-test.false c.loop-left.invariant.1 in
    let room = leb-true (length all) (length c.args.out.now) (sym c.requires.room) in
    next_fits (c.args.id ∷ last ∷ left) [] all c.loop-left.out c.loop-left.at g.inside g.front (omega (arith, room, c.loop-left.auto.out))

pub returns : goal.returns
returns c =
    let left = c.loop-left.left.now in
    let all = cut_bytes c.args.id c.args.most c.args.tpdu.now in
    let n = c.loop-left.at + 2 + length left in
    let g = end c.args.id c.args.most left all c.loop-left.out c.args.out.now c.loop-left.at c.loop-left.invariant.0 c.loop-left-test.false c.loop-left.invariant.1 in
    let room = leb-true (length all) (length c.args.out.now) (sym c.requires.room) in
    let done = next_written (c.args.id ∷ last ∷ left) [] all c.loop-left.out c.args.out.now c.loop-left.at n (omega arith) g (omega (arith, room, c.loop-left.auto.out)) in
    all_written all c.put_lpdu-2.new.out c.args.out.now n n room refl (subst (λ out. Goes_on [] all out c.args.out.now n) (sym c.put_lpdu-2.ensures) done)
