use Rattle.std.proofs.Common.{◌+◌, Some, sym, refl, ap, ◌∙◌}
use Rattle.catalogue.specs.Asked.{asked}
use Rattle.solver.specs.Held.{held}
use Rattle.solver.proofs.Sides.{no_below, test_above, test_read}
use Rattle.solver.proofs.lists.RowTurn.test_candidate.Goals as goal

pub returns-in_err-below : goal.returns-in_err-below
returns-in_err-below g c =
    let t = c.args.self.now in
    let Q = asked t.work.now.catalogue.now in
    let table = held t.prices.now t.choices.now t.work.now.places.now.tested.bits in
    let own = sym c.if-not-contains.ensures in
    c.from_residual-in_err-below.ensures
    ∙ no_below (g.M.PriceModel.meaning t.work.now.model.now) Q table t.row.tables.bits t.row.tests.bits c.args.table own
    (test_read _ table Q _ _ _ t.sizes.now t.turn c.args.table _ _ own c.without_test.ensures.tables (c.without_test.ensures.inside own) c.in_err-below.ensures)

pub returns : goal.returns
returns g c =
    let t = c.args.self.now in
    let Q = asked t.work.now.catalogue.now in
    let table = held t.prices.now t.choices.now t.work.now.places.now.tested.bits in
    let own = sym c.if-not-contains.ensures in
    ap (λ p. Some (record { price = p; choice = 256 + c.args.table })) c.tested.ensures
    ∙ test_above (g.M.PriceModel.meaning t.work.now.model.now) Q table t.row.tables.bits t.row.tests.bits c.args.table own c.in_ok-test.test c.in_ok-below.below c.charged_rows-rows.result (256 + c.args.table)
    c.in_ok-test.ensures.value (test_read _ table Q _ _ _ t.sizes.now t.turn c.args.table _ _ own c.without_test.ensures.tables (c.without_test.ensures.inside own) c.in_ok-below.ensures) (λ e. c.charged_rows-rows.ensures _ _ e) refl
