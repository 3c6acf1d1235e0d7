use Rattle.std.proofs.Common.{length, Ok, Err, sym, ◌∙◌, subst}
use Rattle.program.specs.Runs.{Answered, ran}
use Rattle.program.specs.Statement.{Honest}
use Rattle.program.proofs.Honesty.{honest}
use Rattle.program.proofs.Ran.{answer_written, refusal_written}
use Rattle.program.proofs.running.run.Goals as goal

pub returns-in-Ok : goal.returns-in-Ok
returns-in-Ok g c =
    let meaning = g.M.PriceModel.meaning in
    let shown = g.M.PrintableModel.shown in
    let x = c.args.model in
    let ps = length c.args.prices.now in
    let ss = length c.args.sizes.now in
    let cs = length c.args.choices.now in
    let input = c.args.input.now in
    let output = c.in-Ok.output in
    let f = subst (λ y. Answered (meaning y) (shown y) (ran (meaning y) ps ss cs input) (Ok output)) c.new-question.ensures.model c.in-Ok.ensures in
    let is = answer_written (meaning x) (shown x) (ran (meaning x) ps ss cs input) output f in
    record {
      written = is;
      honest = subst (λ bs. Honest (meaning x) (shown x) ps ss cs input bs) (sym is) (honest (meaning x) (g.met.M.PriceModel.lawful x) (shown x) ps ss cs input);
    }

pub returns : goal.returns
returns g c =
    let meaning = g.M.PriceModel.meaning in
    let shown = g.M.PrintableModel.shown in
    let x = c.args.model in
    let ps = length c.args.prices.now in
    let ss = length c.args.sizes.now in
    let cs = length c.args.choices.now in
    let input = c.args.input.now in
    let r = c.in-Err.refused in
    let f = subst (λ y. Answered (meaning y) (shown y) (ran (meaning y) ps ss cs input) (Err r)) c.new-question.ensures.model c.in-Err.ensures in
    let is = c.fault_output.ensures ∙ refusal_written (meaning x) (shown x) (ran (meaning x) ps ss cs input) r f in
    record {
      written = is;
      honest = subst (λ bs. Honest (meaning x) (shown x) ps ss cs input bs) (sym is) (honest (meaning x) (g.met.M.PriceModel.lawful x) (shown x) ps ss cs input);
    }
