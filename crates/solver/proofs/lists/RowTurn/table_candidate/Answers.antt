use Rattle.std.proofs.Common.{◌∙◌}
use Rattle.catalogue.specs.Asked.{asked}
use Rattle.solver.proofs.Sides.{not_alone}
use Rattle.solver.proofs.lists.RowTurn.table_candidate.Goals as goal

pub returns-in_err-alone : goal.returns-in_err-alone
returns-in_err-alone g c =
    let t = c.args.self.now in
    c.from_residual.ensures ∙ not_alone (g.M.PriceModel.meaning t.work.now.model.now) (asked t.work.now.catalogue.now) t.row.tables.bits t.row.tests.bits c.args.table t.row.tables.few c.in_err-alone.ensures
