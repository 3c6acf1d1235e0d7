use Rattle.std.proofs.Common.{rules}
use Rattle.plans.specs.Questions.{all_tests}
use Rattle.catalogue.proofs.catalogues.Catalogue.tests.Goals as goal

pub returns : goal.returns
unfolding all_tests
returns c = c.tables_where.ensures _ (λ i b l k. search rules)
