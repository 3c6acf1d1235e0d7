use Rattle.std.proofs.Common.{◌≡◌, Ok, Err, refl, subst, w32, to_z, of_z, rules}
use Rattle.std.proofs.lemmas.Result.{err_from_is_err_and}
use Rattle.catalogue.specs.Asked.{asked}
use Rattle.catalogue.specs.Changes.{Follows, corrected, tested, tied}
use Rattle.program.proofs.Called.{frame_accepted, frame_refused, read_so}
use Rattle.program.proofs.judging.call.Goals as goal

pub returns-in_err-tie-in-Tie : goal.returns-in_err-tie-in-Tie
returns-in_err-tie-in-Tie g c =
    let p = err_from_is_err_and c.from_residual-in_err-tie-in-Tie.result c.from_residual-in_err-tie-in-Tie.ensures.1 in
    let Q = asked c.args.question.now.held.catalogue in
    let f = c.in_err-tie-in-Tie.ensures in
    rw (p.1, p.2) (record {
      model = f.made.model;
      outcome = frame_refused Unit (tied Q c.in-Tie.table c.in-Tie.other c.in-Tie.p c.in-Tie.q c.in-Tie.cost) Q (asked c.tie.new.self.held.catalogue) c.args.frame _ c.in-Tie.is refl _ f.outcome;
    })

pub returns-in_err-test-in-Test : goal.returns-in_err-test-in-Test
returns-in_err-test-in-Test g c =
    let p = err_from_is_err_and c.from_residual-in_err-test-in-Test.result c.from_residual-in_err-test-in-Test.ensures.1 in
    let Q = asked c.args.question.now.held.catalogue in
    let f = c.in_err-test-in-Test.ensures in
    rw (p.1, p.2) (record {
      model = f.made.model;
      outcome = frame_refused Unit (tested Q c.in-Test.table c.in-Test.p c.in-Test.q c.in-Test.cost c.in-Test.kind) Q (asked c.test.new.self.held.catalogue) c.args.frame _ c.in-Test.is refl _ f.outcome;
    })

pub returns-in_err-correct-in-Correct : goal.returns-in_err-correct-in-Correct
returns-in_err-correct-in-Correct g c =
    let p = err_from_is_err_and c.from_residual-in_err-correct-in-Correct.result c.from_residual-in_err-correct-in-Correct.ensures.1 in
    let Q = asked c.args.question.now.held.catalogue in
    let by = c.in_ok-by-in-Correct.by in
    let f = c.in_err-correct-in-Correct.ensures in
    let back : to_z w32 (of_z w32 by) ≡ by = search rules in
    let follows = subst (λ n. Follows {X = Unit} (corrected Q c.in-Correct.table n) Q (Err c.in_err-correct-in-Correct.field-0.0) (asked c.correct.new.self.held.catalogue)) back f.outcome in
    rw (p.1, p.2) (record {
      model = f.made.model;
      outcome = frame_refused Unit (corrected Q c.in-Correct.table by) Q (asked c.correct.new.self.held.catalogue) c.args.frame _ c.in-Correct.is (read_so Q c.in-Correct.table c.in-Correct.reading.now by c.in_ok-by-in-Correct.ensures) _ follows;
    })

pub returns-in_ok-correct-in-Correct : goal.returns-in_ok-correct-in-Correct
returns-in_ok-correct-in-Correct g c =
    let Q = asked c.args.question.now.held.catalogue in
    let by = c.in_ok-by-in-Correct.by in
    let f = c.in_ok-correct-in-Correct.ensures in
    let back : to_z w32 (of_z w32 by) ≡ by = search rules in
    let follows = subst (λ n. Follows {X = Unit} (corrected Q c.in-Correct.table n) Q (Ok tt) (asked c.correct.new.self.held.catalogue)) back f.outcome in
    record {
      model = f.made.model;
      outcome = frame_accepted Unit (corrected Q c.in-Correct.table by) Q (asked c.correct.new.self.held.catalogue) c.args.frame _ c.in-Correct.is (read_so Q c.in-Correct.table c.in-Correct.reading.now by c.in_ok-by-in-Correct.ensures) tt follows;
    }
