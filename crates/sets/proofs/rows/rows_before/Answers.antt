use Rattle.std.proofs.Common.{◌∙◌, ap₂, arith}
use Rattle.sets.specs.Rows.{before}
use Rattle.sets.proofs.Loops.{placing_above, placing_untested, placing_tested, placing_end, placing_add, placing_as}
use Rattle.sets.proofs.rows.rows_before.Goals as goal
use Rattle.sets.proofs.rows.rows_before.Goals.{then-tests-eq1, else-tests-eq1, then-left-eq1, else-left-eq1}

pub power-sum-requires : goal.power-sum-requires
power-sum-requires c = (placing_above _ _ _ _ _ _ _ c.loop-left.invariant c.loop-left-test.true, omega (arith, c.loop-left.invariant.tables))

pub overflow_add-sum : goal.overflow_add-sum
overflow_add-sum c = omega (arith, c.power-sum.ensures, placing_add _ _ _ _ _ _ _ c.loop-left.invariant (omega (arith, c.bits-left.ensures, c.args.tables.few)) c.if-left-eq1.true)

pub loop-left-preserved : goal.loop-left-preserved
loop-left-preserved c =
    let h = c.loop-left.invariant in
    let ne = c.loop-left-test.true in
    elim c.if-left-eq1.branch [
      | then-left-eq1 v ↦
          let e = v.power-sum.ensures in
          elim c.if-tests-eq1.branch [
            | then-tests-eq1 w ↦ placing_as _ _ _ _ _ _ _ _ _ w.twos-is w.threes-is (placing_tested _ _ _ _ _ _ _ h _ 1 ne w.if-tests-eq1.true v.if-left-eq1.true (omega (arith, v.sum-is, e)))
            | else-tests-eq1 w ↦ placing_as _ _ _ _ _ _ _ _ _ w.twos-is w.threes-is (placing_untested _ _ _ _ _ _ _ h _ 1 ne (omega (arith, w.if-tests-eq1.false)) v.if-left-eq1.true (omega (arith, v.sum-is, e)))
          ]
      | else-left-eq1 v ↦
          elim c.if-tests-eq1.branch [
            | then-tests-eq1 w ↦ placing_as _ _ _ _ _ _ _ _ _ w.twos-is w.threes-is (placing_tested _ _ _ _ _ _ _ h _ 0 ne w.if-tests-eq1.true (omega (arith, v.if-left-eq1.false)) (omega (arith, v.sum-is)))
            | else-tests-eq1 w ↦ placing_as _ _ _ _ _ _ _ _ _ w.twos-is w.threes-is (placing_untested _ _ _ _ _ _ _ h _ 0 ne (omega (arith, w.if-tests-eq1.false)) (omega (arith, v.if-left-eq1.false)) (omega (arith, v.sum-is)))
          ]
    ]

pub returns : goal.returns
returns c = placing_end _ _ _ _ _ _ _ c.loop-left.invariant c.loop-left-test.false ∙ ap₂ before c.bits-tests.ensures c.bits-left.ensures
