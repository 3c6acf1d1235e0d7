use Rattle.std.proofs.Common.{◌≡◌, ◌*◌, ◌<◌, ◌≤◌, IsSomeAnd}
use Rattle.std.specs.Iterator.Adapters.{zip_first, zip_second}
use Rattle.catalogue.specs.Asked.{asked}
use Rattle.plans.specs.Questions.{all_tests}
use Rattle.solver.specs.Solved.{Solved}
use Rattle.solver.specs.Tabled.{SameTable}
use Rattle.solver.proofs.Summing.{tries_before}
use Rattle.solver.proofs.Turns.{TurnAt}
use Rattle.solver.proofs.rows.fill_rows.Given as goal

abbrev pub invariant-loop-place : goal.invariant-loop-place
invariant-loop-place g l =
    let m = g.M.PriceModel.meaning l.work.model.now in
    let Q = asked l.work.catalogue.now in
    let left = zip_first l.place-iterator in
    record {
      can : (goal.iterator-loop-place g).can_next l.place-iterator;
      ends : (goal.iterator-loop-place g).is_finite l.place-iterator;
      tested : (zip_second l.place-iterator).tested.bits ≡ all_tests Q;
      end : left.end ≡ l.rows;
      within : left.start ≤ l.rows;
      turn : left.start < l.rows → IsSomeAnd (zip_second l.place-iterator).next (TurnAt Q left.start);
      same : SameTable l.initial.price_table l.price_table × SameTable l.initial.size_table l.size_table × SameTable l.initial.choice_table l.choice_table;
      solved : Solved m Q left.start l.fn.prices l.price_table.cells.now l.fn.sizes l.size_table.cells.now l.fn.choices l.choice_table.cells.now;
      tried : l.tries ≡ tries_before m Q left.start;
      few : l.tries ≤ 2010 * left.start;
    }
