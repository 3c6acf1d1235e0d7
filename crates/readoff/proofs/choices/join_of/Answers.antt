use Rattle.std.proofs.Common.{◌≡◌, ℕ, ◌-◌, sym, subst, arith}
use lib.Bits.{bit_and, and_comm}
use Rattle.std.proofs.lemmas.Bool.{eqb-true, eqb-false}
use Rattle.readoff.specs.Choices.{Is}
use Rattle.readoff.proofs.Codes.{no_join_code}
use Rattle.readoff.proofs.choices.join_of.Goals as goal
use Rattle.readoff.proofs.choices.join_of.Goals.{then-is_empty-via-then-is_empty, then-is_empty-via-else-is_empty+then-is_empty-2}

pub returns-in_err-tables : goal.returns-in_err-tables
returns-in_err-tables c =
    rw c.from_residual.ensures (no_join_code _ _ _ (c.args.code - 4096) c.args.row.tests.few (omega arith)
    (λ j. omega (arith, j.proper, c.in_err-tables.ensures, c.args.row.tables.few)))

pub returns-then-not-is_subset : goal.returns-then-not-is_subset
returns-then-not-is_subset c =
    let L = c.in_ok-tables.tables.bits in
    no_join_code _ _ _ L c.args.row.tests.few (omega (arith, c.in_ok-tables.ensures))
    (λ j. eqb-false (bit_and L c.args.row.tables.bits) L (sym c.if-not-is_subset.ensures) j.part)

pub returns-then-is_empty : goal.returns-then-is_empty
returns-then-is_empty c =
    let L = c.in_ok-tables.tables.bits in
    let R = c.args.row.tables.bits in
    no_join_code _ _ _ L c.args.row.tests.few (omega (arith, c.in_ok-tables.ensures))
    (λ j. elim c.then-is_empty.branch [
      | then-is_empty-via-then-is_empty w ↦ omega (arith, j.some, eqb-true L 0 (sym w.if-is_empty.ensures))
      | then-is_empty-via-else-is_empty+then-is_empty-2 w ↦
          omega (arith, j.proper, j.part, and_comm L R, c.without-others.ensures, eqb-true c.without-others.result.bits 0 (sym w.if-is_empty-2.ensures))
    ])

pub returns : goal.returns
returns c =
    let L = c.in_ok-tables.tables.bits in
    let R = c.args.row.tables.bits in
    let S = c.args.row.tests.bits in
    let part = eqb-true (bit_and L R) L (sym c.if-not-is_subset.ensures) in
    let others : c.without-others.result.bits ≡ R - L = omega (arith, and_comm L R, c.without-others.ensures) in
    let some = eqb-false L 0 (sym c.if-is_empty.ensures) in
    let more = eqb-false c.without-others.result.bits 0 (sym c.if-is_empty-2.ensures) in
    record {
      L = L;
      joined = record { chosen = omega (arith, c.in_ok-tables.ensures); part = part; some = omega arith; proper = omega arith };
      left_is = (c.on.ensures.tables, c.on.ensures.tests);
      right_is = subst (λ (n : ℕ). Is c.on-2.result n (bit_and S n)) others (c.on-2.ensures.tables, c.on-2.ensures.tests);
    }
