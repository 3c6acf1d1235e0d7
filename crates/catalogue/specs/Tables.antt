-- What stands in a catalogue's tables.
use Rattle.std.specs.Prelude.{ℕ, List, [], None, Option, slice_index_or}
use Rattle.plans.specs.declared.predicates.Tie.{Tie}
use Rattle.catalogue.specs.declared.catalogues.Table.{Table}

-- What stands where no table was given.
abbrev pub no_table : Table
no_table = record { rows = 0; test = None; ties = [] }

abbrev pub tie_at : List Table → (table other : ℕ) → Option Tie
tie_at tables i j = slice_index_or (slice_index_or tables i no_table).ties j None
