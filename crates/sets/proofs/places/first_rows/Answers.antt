use Rattle.std.proofs.Common.{sym, refl, ◌∙◌, arith, length-set}
use Rattle.sets.proofs.Fives.{firsts_more, firsts_bound}
use Rattle.sets.proofs.Positions.{before_none}
use Rattle.sets.proofs.places.first_rows.Goals as goal

pub loop-tables-init : goal.loop-tables-init
loop-tables-init c = (refl, ((λ k h. absurd (omega arith)), sym (before_none _)))

pub overflow_add-sum : goal.overflow_add-sum
overflow_add-sum c = omega (arith, firsts_bound _ _ c.loop-tables.tables _ c.loop-tables.invariant.1 (omega arith), c.rows_with-sum.ensures.bound)

pub loop-tables-preserved : goal.loop-tables-preserved
loop-tables-preserved c =
    (length-set _ _ _ ∙ c.loop-tables.invariant.0, firsts_more _ _ c.loop-tables.tables _ _ c.loop-tables.invariant.1 (omega arith) c.rows_with-sum.ensures.value)
