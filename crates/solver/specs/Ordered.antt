-- Going over the rows in their order.
use Rattle.std.specs.Prelude.{◌≡◌, MatchOption, None, Option}
use Rattle.sets.specs.Rows.{NextRow, tests_on}
use Rattle.sets.specs.declared.rows.Row.{Row}
use Rattle.solver.specs.declared.ordered.Rows.{Rows}

-- The next row comes, and after it the one that follows, until the very last.
abbrev pub row_steps : Rows → Option Row → Rows → Type 0
row_steps s r t = (r ≡ s.next) × (t.tested ≡ s.tested) × MatchOption r (t.next ≡ None) (λ row.
    MatchOption t.next ((row.tables.bits ≡ 1023) × (row.tests.bits ≡ tests_on s.tested.bits row.tables.bits))
    (λ n. NextRow s.tested.bits row.tables.bits row.tests.bits n.tables.bits n.tests.bits))
