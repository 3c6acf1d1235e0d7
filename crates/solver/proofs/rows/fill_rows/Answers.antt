use Rattle.std.proofs.Common.{◌≡◌, ℕ, ◌+◌, length, Option, IsSomeAnd, sym, ap, ◌∙◌, subst, ⊎_elim, arith, rules}
use Rattle.std.specs.Iterator.Adapters.{zip_first, zip_second}
use Rattle.std.specs.declared.ops.Range.{Range}
use Rattle.catalogue.specs.Asked.{asked}
use Rattle.sets.specs.declared.rows.Row.{Row}
use Rattle.sets.specs.declared.small_sets.SmallSet.{SmallSet}
use Rattle.solver.specs.declared.ordered.Rows.{Rows}
use Rattle.solver.proofs.Steps.{solved_none}
use Rattle.solver.proofs.Tabled.{table_still, table_then}
use Rattle.solver.proofs.Summing.{tries_before, tries_none, tries_all}
use Rattle.solver.proofs.Turns.{TurnAt, tests_below, solved_turn, tries_turn, next_turn, first_turn, this_turn, all_turns, solved_as, solved_end}
use Rattle.solver.proofs.rows.fill_rows.Goals as goal

pub loop-place-init : goal.loop-place-init
loop-place-init g c =
    let m = g.M.PriceModel.meaning c.args.work.now.model.now in
    let Q = asked c.args.work.now.catalogue.now in
    let same = c.into_iter-place-iterator.ensures.into_iter_gives in
    let places = ap zip_first same ∙ c.zip-place-items.ensures.first in
    let start : ℕ = (zip_first c.into_iter-place-iterator.result).start in
    let rows = ap zip_second same ∙ c.zip-place-items.ensures.second in
    let none = ap {B = ℕ} (λ (r : Range ℕ). r.start) places in
    record {
      can = (tt, tt);
      ends = tt;
      tested = ap (λ (r : Rows). r.tested.bits) rows ∙ ap (λ (s : SmallSet). s.bits) c.all.ensures.tested ∙ c.tests-tested.ensures;
      end = ap (λ (r : Range ℕ). r.end) places;
      within = omega (arith, none);
      turn = λ some. subst (λ (o : Option Row). IsSomeAnd o (TurnAt Q start)) (sym (ap (λ (r : Rows). r.next) rows))
          (subst (λ (n : ℕ). IsSomeAnd c.all.result.next (TurnAt Q n)) (sym none) (first_turn Q c.all.result.next c.all.ensures.first));
      same = (table_still _, table_still _, table_still _);
      solved = solved_none m Q _ _ _ _ _ _ _ none c.over-price_table.ensures.cells c.over-size_table.ensures.cells c.over-choice_table.ensures.cells;
      tried = sym (ap (tries_before m Q) none ∙ tries_none m Q);
      few = omega arith;
    }

pub loop-place-preserved : goal.loop-place-preserved
loop-place-preserved g c =
    let w = c.args.work.now in
    let m = g.M.PriceModel.meaning w.model.now in
    let Q = asked w.catalogue.now in
    let i = c.loop-place.invariant in
    let s = c.solve_row-tries.ensures in
    let it = c.loop-place.place-iterator in
    let p : ℕ = (zip_first it).start in
    let place : ℕ = c.in-Some.place in
    let step = c.in-Some.ensures.steps in
    let is : place ≡ p = step.0.1.1 in
    let up : (zip_first c.next.new.self).start ≡ p + 1 = step.0.1.2 in
    let more = step.0.1.0 in
    let here = this_turn Q p (zip_second it).next c.in-Some.row step.1.0 (i.turn (omega (arith, more, i.end))) in
    let at = here.1 ∙ sym is in
    let solved = solved_end m Q p place _ _ _ _ _ _ (sym is) i.solved in
    record {
      can = (tt, tt);
      ends = tt;
      tested = ap (λ (s : SmallSet). s.bits) step.1.1 ∙ i.tested;
      end = step.0.0 ∙ i.end;
      within = omega (arith, more, i.end, up);
      turn = λ less. next_turn Q c.in-Some.row (zip_second it) (zip_second c.next.new.self) p _ c.args.rows i.tested w.catalogue.now.few c.requires.all here step.1 up less;
      same = (table_then _ _ _ i.same.0 s.same.0, table_then _ _ _ i.same.1 s.same.1, table_then _ _ _ i.same.2 s.same.2);
      solved = solved_end m Q (place + 1) _ _ _ _ _ _ _ (omega (arith, is, up))
          (solved_turn m Q place _ _ _ _ _ _ _ _ solved here.0 at _ _ _ _ w.tested (omega (arith, more, is, i.end, i.same.0.cells, ap length c.over-price_table.ensures.cells, c.requires.enough.0))
          (omega (arith, more, is, i.end, i.same.1.cells, ap length c.over-size_table.ensures.cells, c.requires.enough.1))
          (omega (arith, more, is, i.end, i.same.2.cells, ap length c.over-choice_table.ensures.cells, c.requires.enough.2))
          s.prices s.sizes s.choices);
      tried = tries_turn m Q p _ _ _ _ _ _ _ _ i.solved here.0 here.1 _ _ _ w.tested (omega (arith, c.requires.all, more, i.end)) i.tried s.tries ∙ ap (tries_before m Q) (sym up);
      few = omega (arith, i.few, s.few, up);
    }

pub returns : goal.returns
returns g c =
    let m = g.M.PriceModel.meaning c.args.work.now.model.now in
    let Q = asked c.args.work.now.catalogue.now in
    let i = c.loop-place.invariant in
    let it = c.loop-place.place-iterator in
    let end : (zip_first it).start ≡ c.args.rows = ⊎_elim
    (λ none. omega (arith, none.1, i.end, i.within))
    (λ none. all_turns Q (zip_first it).start c.args.rows (zip_second it).next i.within i.turn none.1.0)
    c.in-None.ensures.steps in
    record {
      solved = solved_as m Q _ _ _ _ _ _ _ _ _ _ _ end
          (search (rules, i.same.0.lender ∙ c.over-price_table.ensures.lender)) (search (rules, i.same.1.lender ∙ c.over-size_table.ensures.lender))
          (search (rules, i.same.2.lender ∙ c.over-choice_table.ensures.lender)) i.solved;
      tries = i.tried ∙ ap (tries_before m Q) (end ∙ c.requires.all) ∙ tries_all m Q (tests_below Q);
    }
