use Rattle.std.proofs.Common.{◌≡◌, ◌≤◌}
use Rattle.catalogue.specs.Asked.{asked}
use Rattle.catalogue.specs.Members.{from}
use Rattle.plans.specs.Questions.{size_of}
use Rattle.catalogue.proofs.catalogues.Catalogue.size.Given as goal

abbrev pub invariant-loop-table : goal.invariant-loop-table
invariant-loop-table l = (l.size ≡ size_of (asked l.self) l.tests.bits (from l.table l.self.count l.tables.bits)) × (l.size ≤ 16777215)
