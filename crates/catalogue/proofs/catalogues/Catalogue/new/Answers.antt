use Rattle.std.proofs.Common.{get_or, None, refl, arith}
use Rattle.catalogue.specs.Tables.{no_table}
use Rattle.catalogue.specs.declared.catalogues.Table.{Table}
use Rattle.catalogue.proofs.Places.{each_same, same_question}
use Rattle.catalogue.proofs.catalogues.Catalogue.new.Goals as goal

pub invariant_of-result-clause-few : goal.invariant_of-result-clause-few
invariant_of-result-clause-few c = omega arith

pub returns : goal.returns
returns c =
    same_question _ _ refl (each_same (λ (t : Table). t.rows) _ no_table refl 10)
    (λ i j. each_same (λ (t : Table). get_or t.ties j None) _ no_table (each_same (λ (o : _). o) None None refl 10 j) 10 i)
    (each_same (λ (t : Table). t.test) _ no_table refl 10)
