use Rattle.std.proofs.Common.{◌≡◌, ◌≤◌, [], length, sym, ap, ◌∙◌, arith, length-take, ltb-false, ltb-true, eqb-true}
use borrow.Author.Tests.{eqb-false}
use Rattle.std.proofs.lemmas.List.{nil_from_length}
use Rattle.buffers.specs.Written.{written}
use Rattle.frames.specs.Lines.{pairs}
use Rattle.frames.proofs.Keeping.{kept_ten, ten_after, ten_after_all, ten_after_more, pairs_none, pairs_odd, pairs_refused}
use Rattle.frames.proofs.lines.decode_pairs.Goals as goal

pub returns-in_err-byte : goal.returns-in_err-byte
returns-in_err-byte c =
    let rest = c.loop-rest.rest.now in
    let two : 2 ≤ length rest = omega (arith, ltb-false) in
    rw c.from_residual.ensures
    (sym (ap (ten_after (written c.loop-rest.decoded)) (pairs_refused rest two c.in_err-byte.ensures)) ∙ c.loop-rest.invariant)

pub loop-rest-preserved : goal.loop-rest-preserved
loop-rest-preserved c =
    let rest = c.loop-rest.rest.now in
    let two : 2 ≤ length rest = omega (arith, ltb-false) in
    let d = c.loop-rest.decoded in
    let few : length (written d) ≤ 10 = omega (arith, length-take d.len d.room, d.within) in
    let kept = kept_ten (written d) (written c.push.new.self) c.in_ok-byte.field-0 c.push.result few c.push.ensures.room c.push.ensures.bytes in
    ten_after_more (written d) (written c.push.new.self) rest c.in_ok-byte.field-0 two
    c.in_ok-byte.ensures kept
    ∙ c.loop-rest.invariant

pub returns-then-is_empty : goal.returns-then-is_empty
returns-then-is_empty c =
    let rest = c.loop-rest.rest.now in
    let d = c.loop-rest.decoded in
    let none : rest ≡ [] = nil_from_length rest (eqb-true _ _ (sym c.if-is_empty.ensures)) in
    let few : length (written d) ≤ 10 = omega (arith, length-take d.len d.room, d.within) in
    sym (ten_after_all (written d) few) ∙ sym (ap (ten_after (written d)) (ap pairs none ∙ pairs_none)) ∙ c.loop-rest.invariant

pub returns-else-is_empty : goal.returns-else-is_empty
returns-else-is_empty c =
    let rest = c.loop-rest.rest.now in
    let some = eqb-false _ _ (sym c.if-is_empty.ensures) in
    let one : length rest ≡ 1 = omega (arith, ltb-true) in
    sym (ap (ten_after (written c.loop-rest.decoded)) (pairs_odd rest one)) ∙ c.loop-rest.invariant
