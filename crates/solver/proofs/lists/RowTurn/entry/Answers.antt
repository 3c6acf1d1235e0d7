use Rattle.std.proofs.Common.{ℕ, None, refl, ap, ◌∙◌, arith, rules}
use Rattle.catalogue.specs.Asked.{asked}
use Rattle.sets.specs.declared.small_sets.SmallSet.{SmallSet}
use Rattle.plans.specs.Entries.{alone_entry, best_entry, joining_entry, row_entry, testing_entry}
use Rattle.plans.specs.Recurrence.{found}
use Rattle.solver.specs.Held.{held}
use Rattle.solver.proofs.Walks.{left_proper, lefts_tried, numbers_tried}
use Rattle.solver.proofs.lists.RowTurn.entry.Goals as goal

pub best_of-joined-requires-clause-callable : goal.best_of-joined-requires-clause-callable
best_of-joined-requires-clause-callable g c xs s u x y step _ _ _ _ _ _ =
    let part = left_proper c.args.self.now.row.tables x xs c.of.result s u c.of.ensures.tables y step in
    (c.requires, (part.0, (part.1, part.2)))

pub returns : goal.returns
unfolding row_entry
returns g c =
    let t = c.args.self.now in
    let m = g.M.PriceModel.meaning t.work.now.model.now in
    let Q = asked t.work.now.catalogue.now in
    let table = held t.prices.now t.choices.now t.work.now.places.now.tested.bits in
    let R = t.row.tables.bits in
    let S = t.row.tests.bits in
    let n : ℕ = c.count-count.result in
    let all = c.count-count.ensures.value in
    let bare = numbers_tried m (alone_entry m Q R S) _ (λ x o made. search rules) n _ _ _ refl refl c.best_of-bare.ensures.each in
    let joined = lefts_tried m Q table R S _ (λ x o made. search rules) c.of.result _ _ (ap (λ (z : SmallSet). z.bits) c.of.ensures.tables) c.of.ensures.least c.best_of-joined.ensures.each in
    let tested = numbers_tried m (testing_entry m Q table R S) _ (λ x o made. search rules) n _ _ _ refl refl c.best_of.ensures.each in
    record {
      best = tested.best_is ∙ ap (best_entry m _ (testing_entry m Q table R S)) all
          ∙ ap (λ e. best_entry m e (testing_entry m Q table R S) Q.count)
          (joined.best_is ∙ ap (λ e. best_entry m e (joining_entry m Q table R S) R) (bare.best_is ∙ ap (best_entry m None (alone_entry m Q R S)) all));
      tries = omega (arith, tested.tries_are, joined.tries_are, ap (found (testing_entry m Q table R S)) all);
      few = omega (arith, tested.few, joined.few, t.row.tables.few, c.count-count.ensures.few);
    }
