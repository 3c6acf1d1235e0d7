use Rattle.std.proofs.Common.{Ok, Err, sym, refl, ◌∙◌, subst, arith}
use Rattle.std.proofs.lemmas.Result.{err_from_is_err_and}
use Rattle.catalogue.specs.Asked.{asked}
use Rattle.frames.specs.Splitting.{plain_line}
use Rattle.program.specs.Lines.{Gathered, Judges, judged}
use Rattle.program.proofs.LineByLine.{gathers_by, has_ended, line_refused, line_taken, no_more, not_ended}
use Rattle.program.proofs.Naming.{judged_so, refused_so}
use Rattle.program.proofs.gathering.gather.Goals as goal

pub loop-line-preserved : goal.loop-line-preserved
loop-line-preserved g c =
    let so_far : Gathered = record { turn = c.loop-line.turn; question = asked c.loop-line.question.held.catalogue } in
    let first = c.in-Some.ensures in
    let after = asked c.judge.new.question.held.catalogue in
    let is = judged_so _ c.judge.result c.in_ok-turn.turn (sym c.at_line.ensures ∙ c.in_ok-turn.was) in
    let f : Judges (judged so_far (plain_line c.in-Some.line)) (Ok c.in_ok-turn.turn) after = subst (λ r. Judges (judged so_far (plain_line c.in-Some.line)) r after) is c.judge.ensures.outcome in (
      c.judge.ensures.model ∙ c.loop-line.invariant.0,
      omega (arith, first.shorter, c.loop-line.invariant.1),
      c.loop-line.invariant.2 ∙ line_taken c.loop-line.number so_far c.loop-line.rest.now c.in-Some.others.now (plain_line c.in-Some.line) first after c.in_ok-turn.turn f,
    )

pub returns-in_err-turn-clause-outcome : goal.returns-in_err-turn-clause-outcome
returns-in_err-turn-clause-outcome g c =
    let so_far : Gathered = record { turn = c.loop-line.turn; question = asked c.loop-line.question.held.catalogue } in
    let after = asked c.judge.new.question.held.catalogue in
    let p = err_from_is_err_and c.from_residual.result c.from_residual.ensures.1 in
    let is = refused_so _ c.judge.result c.in_err-turn.field-0.0 (sym c.at_line.ensures ∙ c.in_err-turn.was) in
    let f : Judges (judged so_far (plain_line c.in-Some.line)) (Err is.0) after = subst (λ r. Judges (judged so_far (plain_line c.in-Some.line)) r after) is.1 c.judge.ensures.outcome in
    rw (p.1, p.2, is.2) (gathers_by _ _ _ after (c.loop-line.invariant.2 ∙ line_refused c.loop-line.number so_far c.loop-line.rest.now c.in-Some.others.now (plain_line c.in-Some.line) c.in-Some.ensures after is.0 f) refl)

pub returns-in_err-at_line-clause-outcome : goal.returns-in_err-at_line-clause-outcome
returns-in_err-at_line-clause-outcome g c =
    let Q = asked c.loop-line.question.held.catalogue in
    let n = c.loop-line.number in
    let p = err_from_is_err_and c.from_residual-in_err-at_line.result c.from_residual-in_err-at_line.ensures.1 in
    let is = refused_so _ c.ended.result c.in_err-at_line.field-0.0 (sym c.at_line-2.ensures ∙ c.in_err-at_line.was) in
    rw (p.1, p.2, is.2) (gathers_by _ _ _ Q (c.loop-line.invariant.2 ∙ no_more n c.loop-line.turn Q c.loop-line.rest.now c.in_default.ensures ∙ not_ended n Q _ is.0 (sym c.ended.ensures ∙ is.1)) refl)

pub returns-clause-outcome : goal.returns-clause-outcome
returns-clause-outcome g c =
    let Q = asked c.loop-line.question.held.catalogue in
    let n = c.loop-line.number in
    let is = judged_so _ c.ended.result c.in_ok-at_line.field-0 (sym c.at_line-2.ensures ∙ c.in_ok-at_line.was) in
    gathers_by _ _ _ Q (c.loop-line.invariant.2 ∙ no_more n c.loop-line.turn Q c.loop-line.rest.now c.in_default.ensures ∙ has_ended n Q _ _ (sym c.ended.ensures ∙ is)) (refl, refl)
