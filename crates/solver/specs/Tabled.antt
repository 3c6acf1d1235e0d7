-- What stays the same of a table while its cells are written.
use Rattle.std.specs.Prelude.{◌≡◌, length}
use Rattle.sets.specs.declared.cells.Ragged.{Ragged}

-- The same cells are lent, as many as before, and the same tables have a test.
pub record SameTable {T : Type 0} (old new : Ragged T) : Type 0 where
  pub lender : new.cells.ghost_name ≡ old.cells.ghost_name
  pub tested : new.tested ≡ old.tested
  pub cells : length new.cells.now ≡ length old.cells.now
