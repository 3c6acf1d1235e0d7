use Rattle.std.proofs.Common.{◌^◌, ◌<◌, sym, ap, ◌∙◌, arith, pow_pos}
use lib.Bits.{bit_and, and_le_r}
use Rattle.std.proofs.lemmas.Bool.{eqb-true, eqb-false}
use Rattle.std.proofs.lemmas.Nat.{ones-le}
use Rattle.sets.proofs.Bits.{below_part}
use Rattle.sets.proofs.rows.row_count.Goals as goal

pub returns-then-not-is_subset : goal.returns-then-not-is_subset
returns-then-not-is_subset c = λ h.
    let t = c.args.tested.bits in
    eqb-false (bit_and t c.in_ok-tables.tables.bits) t (sym c.if-not-is_subset.ensures)
    (ap (bit_and t) c.in_ok-tables.ensures.1 ∙ below_part c.args.count t h.1)

-- the tests are among the tables, which are as many as `count`
pub overflow_sub-count : goal.overflow_sub-count
overflow_sub-count c =
    let n = c.args.count in
    let t = c.args.tested.bits in
    let all = c.in_ok-tables.tables.bits in
    let part = eqb-true (bit_and t all) t (sym c.if-not-is_subset.ensures) in
    let below : t < 2 ^ n = omega (arith, and_le_r t all, c.in_ok-tables.ensures.1, pow_pos n) in
    omega (arith, ones-le n t below, c.len-tests.ensures.value)
