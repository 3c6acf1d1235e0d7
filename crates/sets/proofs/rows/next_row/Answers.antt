use Rattle.std.proofs.Common.{ℕ, ◌+◌, sym, ap, ◌∙◌}
use Rattle.std.proofs.lemmas.Bool.{eqb-true}
use Rattle.sets.proofs.Positions.{next_tables}
use Rattle.sets.proofs.rows.next_row.Goals as goal

pub returns-then-eq : goal.returns-then-eq
returns-then-eq c =
    next_tables _ _ _ _ _ (eqb-true _ _ (sym c.if-eq.ensures) ∙ c.intersection-tests.ensures) (c.in_ok-tables.ensures ∙ ap (λ (x : ℕ). x + 1) c.bits.ensures) c.empty.ensures
