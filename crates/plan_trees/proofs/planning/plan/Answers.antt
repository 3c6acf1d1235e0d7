use Rattle.planner.proofs.Following.{solve_keeps, solved_then_told}
use Rattle.plan_trees.proofs.planning.plan.Goals as goal

pub returns : goal.returns
returns g c =
    let meaning = g.M.PriceModel.meaning in
    let laws = g.met.M.PriceModel.lawful in
    let q = c.args.question.now in
    let r = c.solve.new.self in
    let solve = c.in_ok-tries.ensures.made in
    record {
      model = solve.model;
      question = solve_keeps meaning laws q r _ _ _ _ solve;
      told = solved_then_told meaning laws q r _ _ _ _ _ _ _ _ solve c.in_ok-len.ensures.made;
    }
