-- The question that a catalogue holds.
use Rattle.std.specs.Prelude.{slice_index_or}
use Rattle.plans.specs.Questions.{Question}
use Rattle.catalogue.specs.declared.catalogues.Catalogue.{Catalogue}
use Rattle.catalogue.specs.Tables.{no_table, tie_at}

abbrev pub asked : Catalogue → Question
asked c = record {
  count = c.count;
  rows = λ i. (slice_index_or c.tables i no_table).rows;
  tie = λ i j. tie_at c.tables i j;
  test = λ i. (slice_index_or c.tables i no_table).test;
}
