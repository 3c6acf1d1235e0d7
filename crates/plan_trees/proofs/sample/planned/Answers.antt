use Rattle.std.proofs.Common.{◌≡◌, ℕ, min, map, length, take, sym, ap, subst, arith}
use Rattle.planner.specs.Law.{Reached}
use Rattle.planner.specs.Lent.{Lent}
use Rattle.planner.specs.Replies.{answer_of}
use Rattle.planner.specs.States.{state_of}
use Rattle.plan_trees.proofs.Sampled.{sample_given, sample_reached}
use Rattle.plan_trees.proofs.sample.planned.Goals as goal

pub returns : goal.returns
returns g c =
    let meaning = g.M.PriceModel.meaning in
    let m = meaning c.args.model in
    let laws = g.met.M.PriceModel.lawful c.args.model in
    let t = state_of c.replay.result.held in
    let n : ℕ = min 11 (length c.args.replies.now) in
    let eleven : length c.args.replies.now ≡ 11 = omega arith in
    let all : n ≡ 11 = ap (min 11) eleven in
    let ps = length c.args.prices.now in
    let ss = length c.args.sizes.now in
    let cs = length c.args.choices.now in
    let l : Lent g.row.M-Price.Denot = record { prices = c.args.prices.now; sizes = c.args.sizes.now; choices = c.args.choices.now } in
    let k : Lent g.row.M-Price.Denot = record { prices = c.replay.new.prices; sizes = c.replay.new.sizes; choices = c.replay.new.choices } in
    let answers = map answer_of (take n c.replay.new.replies) in
    record {
      model = c.replay.ensures.model;
      question = sample_given m laws ps ss cs n all answers l k t c.replay.ensures.run;
      reached = subst (λ x. Reached (meaning x) t) (sym c.replay.ensures.model) (sample_reached m laws ps ss cs n all answers l k t c.replay.ensures.run);
    }
