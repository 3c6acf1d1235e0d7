use Rattle.std.proofs.Common.{length, refl}
use Rattle.std.proofs.lemmas.Result.{err_from_is_err_and}
use Rattle.catalogue.specs.Asked.{asked}
use Rattle.solver.specs.Solves.{enough, outcome}
use Rattle.planner.specs.States.{state_of}
use Rattle.planner.proofs.Promise.{decided}
use Rattle.planner.proofs.Solving.{refused_step}
use Rattle.planner.proofs.questions.Question.solve.Goals as goal

pub returns-in_err-found : goal.returns-in_err-found
returns-in_err-found g c =
    let p = err_from_is_err_and c.from_residual.result c.from_residual.ensures.1 in
    let q = c.args.self.now in
    let m = g.M.PriceModel.meaning q.model in
    let laws = g.met.M.PriceModel.lawful q.model in
    let Q = asked q.held.catalogue in
    let ps = length c.args.prices.now in
    let ss = length c.args.sizes.now in
    let cs = length c.args.choices.now in
    let step = refused_step m (state_of q.held) Q (outcome m Q (enough Q ps ss cs)) c.in_err-found.field-0.0 c.in_err-found.ensures.outcome in
    rw (p.1, p.2) (record {
      made = record { model = refl; step = step };
      promise = decided m laws (state_of q.held) _ _ ps ss cs step;
      lists = c.in_err-found.ensures.lists;
    })
