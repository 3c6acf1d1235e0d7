-- What stays the same of a table.
use Rattle.std.proofs.Common.{refl, ◌∙◌}
use Rattle.sets.specs.declared.cells.Ragged.{Ragged}
use Rattle.solver.specs.Tabled.{SameTable}

pub table_still : {T : Type 0} (t : Ragged T) → SameTable t t
table_still t = record { lender = refl; tested = refl; cells = refl }

pub table_then : {T : Type 0} (a b c : Ragged T) → SameTable a b → SameTable b c → SameTable a c
table_then a b c p q = record { lender = q.lender ∙ p.lender; tested = q.tested ∙ p.tested; cells = q.cells ∙ p.cells }
