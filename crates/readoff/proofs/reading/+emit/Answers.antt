use Rattle.std.proofs.Common.{subst, arith}
use Rattle.readoff.specs.Choices.{Means}
use Rattle.readoff.proofs.Leading.{nothing_led}
use Rattle.buffers.proofs.Putting.{put_length}
use Rattle.readoff.proofs.Emitting.{input_smaller, left_smaller, right_smaller, table_emitted, input_none, test_emitted, left_none, right_none, join_emitted}
use Rattle.readoff.proofs.reading.+emit.Goals as goal

pub returns-in_err-choice : goal.returns-in_err-choice
returns-in_err-choice t c =
    rw c.from_residual.ensures (λ p a. absurd (nothing_led _ _ _ c.in_err-choice.ensures p a))

-- ---- a bare table

pub returns-in-Table : goal.returns-in-Table
returns-in-Table t c =
    let b = subst (Means _ _ _) c.in-Table.is c.in_ok-choice.ensures in
    table_emitted _ _ _ _ _ _ _ _ b c.put.ensures

-- ---- a test

pub emit-requires : goal.emit-requires
emit-requires t c =
    let d = subst (Means _ _ _) c.in-Test.is c.in_ok-choice.ensures in
    (omega (arith, input_smaller _ _ _ _ c.in-Test.input d.0 d.1, c.decreases), c.requires)

pub returns-in_err-end-in-Test : goal.returns-in_err-end-in-Test
returns-in_err-end-in-Test t c =
    let d = subst (Means _ _ _) c.in-Test.is c.in_ok-choice.ensures in
    rw c.from_residual-in_err-end-in-Test.ensures
    (input_none _ _ _ _ c.emit.new.buffer _ c.args.row.tests.few _ c.in-Test.input d.0 d.1 c.in_err-end-in-Test.ensures)

pub returns-in_ok-end-in-Test : goal.returns-in_ok-end-in-Test
returns-in_ok-end-in-Test t c =
    let d = subst (Means _ _ _) c.in-Test.is c.in_ok-choice.ensures in
    test_emitted _ _ _ _ _ _ c.args.row.tests.few _ c.in-Test.input d.0 d.1 c.emit.new.buffer _ _ c.in_ok-end-in-Test.ensures c.put-in-Test.ensures

-- ---- a join

pub emit-requires-in-Join : goal.emit-requires-in-Join
emit-requires-in-Join t c =
    let s = subst (Means _ _ _) c.in-Join.is c.in_ok-choice.ensures in
    (omega (arith, left_smaller _ _ _ c.in-Join.left c.in-Join.right s, c.decreases), c.requires)

pub returns-in_err-middle-in-Join : goal.returns-in_err-middle-in-Join
returns-in_err-middle-in-Join t c =
    let s = subst (Means _ _ _) c.in-Join.is c.in_ok-choice.ensures in
    rw c.from_residual-in_err-middle-in-Join.ensures
    (left_none _ _ _ _ c.emit-in-Join.new.buffer _ c.args.row.tests.few c.in-Join.left c.in-Join.right s c.in_err-middle-in-Join.ensures)

pub emit-requires-in-Join-2 : goal.emit-requires-in-Join-2
emit-requires-in-Join-2 t c =
    let s = subst (Means _ _ _) c.in-Join.is c.in_ok-choice.ensures in
    let d = c.in_ok-middle-in-Join.ensures in
    (omega (arith, right_smaller _ _ _ c.in-Join.left c.in-Join.right s, c.decreases), omega (arith, d.2.room, put_length c.args.buffer.now c.emit-in-Join.new.buffer _ _ _ d.2))

pub returns-in_err-end-in-Join : goal.returns-in_err-end-in-Join
returns-in_err-end-in-Join t c =
    let s = subst (Means _ _ _) c.in-Join.is c.in_ok-choice.ensures in
    rw c.from_residual-in_err-end-in-Join.ensures
    (right_none _ _ _ _ c.emit-in-Join-2.new.buffer _ c.args.row.tests.few c.in-Join.left c.in-Join.right s c.emit-in-Join.new.buffer _ c.in_ok-middle-in-Join.ensures c.in_err-end-in-Join.ensures)

pub returns-in_ok-end-in-Join : goal.returns-in_ok-end-in-Join
returns-in_ok-end-in-Join t c =
    let s = subst (Means _ _ _) c.in-Join.is c.in_ok-choice.ensures in
    join_emitted _ _ _ _ _ _ c.args.row.tests.few c.in-Join.left c.in-Join.right s c.emit-in-Join.new.buffer c.emit-in-Join-2.new.buffer _ _ _ c.in_ok-middle-in-Join.ensures c.in_ok-end-in-Join.ensures c.put-in-Join.ensures
