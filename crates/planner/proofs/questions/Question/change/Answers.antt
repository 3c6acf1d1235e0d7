use Rattle.std.proofs.Common.{refl}
use Rattle.std.proofs.lemmas.Result.{err_from_is_err_and}
use Rattle.planner.proofs.questions.Question.change.Goals as goal

pub returns-in_err-answer-clause-called : goal.returns-in_err-answer-clause-called
returns-in_err-answer-clause-called g c =
    let p = err_from_is_err_and c.from_residual.result c.from_residual.ensures.1 in
    rw (p.1, p.2) (c.call.new.arg2, record { shown = _; shows = refl; left = _; met = c.in_err-answer.ensures; leaves = refl }, refl)

pub returns-clause-called : goal.returns-clause-called
returns-clause-called g c = (c.call.new.arg2, record { shown = _; shows = refl; left = _; met = c.in_ok-answer.ensures; leaves = refl }, (refl, refl))
