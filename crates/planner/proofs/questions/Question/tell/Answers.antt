use Rattle.std.proofs.Common.{◌≡◌, ℕ, ◌≤◌, List, ◌++◌, length, take, drop, refl, ap, ◌∙◌, sym, arith, take_at, drop_at}
use Rattle.buffers.specs.Written.{written}
use Rattle.planner.specs.Calls.{tell_into, told}
use Rattle.planner.specs.States.{State, Stood, state_of, stood_of}
use Rattle.planner.specs.Steps.{Step}
use Rattle.planner.proofs.Promise.{promised, reached_sound}
use Rattle.planner.proofs.Telling.{tell_long}
use Rattle.planner.proofs.questions.Question.tell.Goals as goal

pub returns : goal.returns
returns g c =
    let m = g.M.PriceModel.meaning c.args.self.now.model in
    let laws = g.met.M.PriceModel.lawful c.args.self.now.model in
    let s : State g.row.M-Price.Denot = state_of c.args.self.now.held in
    let out = c.args.buffer.now in
    let x = c.in-Some.standing in
    let y : Stood g.row.M-Price.Denot = record { plan = written x.plan; price = x.price; tries = x.tries } in
    let n : ℕ = length c.as_slice-plan.result.now in
    let after : c.copy_from_slice.new.self ≡ written x.plan = c.copy_from_slice.ensures.after ∙ c.as_slice-plan.ensures in
    let wrote : length c.copy_from_slice.new.self ≡ n = ap length after ∙ sym (ap length c.as_slice-plan.ensures) in
    let bytes : List ℕ = take n (c.copy_from_slice.new.self ++ drop n out) in
    let fits : length (written x.plan) ≤ length out = omega (arith, ap length c.as_slice-plan.ensures) in
    let step : Step m s (tell_into (length out)) (told bytes x.price) s =
    tell_long m s y (length out) (ap stood_of c.in-Some.is) bytes fits (take_at c.copy_from_slice.new.self (drop n out) n wrote ∙ after) in
    record {
      made = record { model = refl; step = step };
      promise = λ r. promised m laws s (tell_into (length out)) (told bytes x.price) s (reached_sound m laws s r) step;
      rest = (omega arith, drop_at c.copy_from_slice.new.self (drop n out) n wrote);
    }
