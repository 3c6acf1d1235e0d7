use Rattle.std.proofs.Common.{◌+◌, Some, ap, ◌∙◌, arith}
use Rattle.catalogue.specs.Asked.{asked}
use Rattle.solver.specs.Held.{held}
use Rattle.solver.proofs.Joining.{Cut, unlinked, left_lost, right_lost, joined}
use Rattle.solver.proofs.lists.RowTurn.join_candidate.Goals as goal
use Rattle.solver.proofs.lists.RowTurn.join_candidate.Goals.{After-without-right}

-- The left tables and the others.
cut : (g : _) (c : After-without-right g) → Cut (asked c.args.self.now.work.now.catalogue.now) (asked c.args.self.now.work.now.cuts.now.catalogue.now) c.args.self.now.row.tables.bits c.args.left.bits c.without-right.result.bits
cut g c = record { same = ap asked c.args.self.now.work.now.same; some = c.requires.proper.0; proper = c.requires.proper.1; part = c.requires.part; others = c.without-right.ensures }

pub returns-then-not-linked : goal.returns-then-not-linked
returns-then-not-linked g c =
    let t = c.args.self.now in
    let table = held t.prices.now t.choices.now t.work.now.places.now.tested.bits in
    unlinked (g.M.PriceModel.meaning t.work.now.model.now) _ _ table _ _ _ _ _ t.sizes.now t.turn (cut g (goal.at.returns-then-not-linked g c).After-without-right) c.if-not-linked.ensures

pub returns-in_err-a : goal.returns-in_err-a
returns-in_err-a g c =
    let t = c.args.self.now in
    let table = held t.prices.now t.choices.now t.work.now.places.now.tested.bits in
    c.from_residual.ensures
    ∙ left_lost (g.M.PriceModel.meaning t.work.now.model.now) _ _ table _ _ _ _ _ t.sizes.now t.turn (cut g (goal.at.returns-in_err-a g c).After-without-right) c.if-not-linked.ensures _ _ c.on.ensures.tables c.on.ensures.tests c.in_err-a.ensures

pub returns-in_err-b : goal.returns-in_err-b
returns-in_err-b g c =
    let t = c.args.self.now in
    let table = held t.prices.now t.choices.now t.work.now.places.now.tested.bits in
    c.from_residual-in_err-b.ensures
    ∙ right_lost (g.M.PriceModel.meaning t.work.now.model.now) _ _ table _ _ _ _ _ t.sizes.now t.turn (cut g (goal.at.returns-in_err-b g c).After-without-right) c.if-not-linked.ensures _ _ c.on-2.ensures.tables c.on-2.ensures.tests c.in_err-b.ensures

pub returns : goal.returns
returns g c =
    let t = c.args.self.now in
    let table = held t.prices.now t.choices.now t.work.now.places.now.tested.bits in
    ap (λ p. Some (record { price = p; choice = 4096 + c.bits.result })) c.joined.ensures
    ∙ joined (g.M.PriceModel.meaning t.work.now.model.now) _ _ table _ _ _ _ _ t.sizes.now t.turn (cut g (goal.at.returns g c).After-without-right) c.if-not-linked.ensures
    c.in_ok-a.a c.in_ok-b.b c.on.result c.on-2.result c.args.size c.across-costs.result (4096 + c.bits.result) c.on.ensures.tables c.on.ensures.tests c.on-2.ensures.tables c.on-2.ensures.tests c.in_ok-a.ensures c.in_ok-b.ensures
    c.requires.sized c.across-costs.ensures (omega (arith, c.bits.ensures))
