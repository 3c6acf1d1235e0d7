use Rattle.std.proofs.Common.{◌≡◌, ℕ, ◌^◌, ◌<◌, ◌≤◌, Some, None, Option, sym, ◌∙◌, subst, ap₂, unwrap_or, arith}
use Rattle.std.specs.Option.{SomeIff}
use Rattle.catalogue.specs.Asked.{asked}
use Rattle.sets.specs.Rows.{row_count}
use Rattle.plans.specs.Questions.{Question, all_tests}
use Rattle.solver.specs.Solves.{rows_of}
use Rattle.solver.proofs.Turns.{tests_below}
use Rattle.solver.proofs.solving.working_rows.Goals as goal

counted : (Q : Question) → Q.count ≤ 10 → (n t : ℕ) (rows : Option ℕ) → n ≡ Q.count → t ≡ all_tests Q → SomeIff rows ((n ≤ 10) × (t < 2 ^ n)) (row_count n t) → unwrap_or rows 0 ≡ rows_of Q
counted Q few n t None e f h = absurd (h (omega arith, subst (λ (k : ℕ). t < 2 ^ k) (sym e) (subst (λ (k : ℕ). k < 2 ^ Q.count) (sym f) (tests_below Q))))
counted Q few n t (Some rows) e f h = h.1 ∙ ap₂ row_count e f

pub returns : goal.returns
returns c = c.unwrap_or.ensures ∙ counted (asked c.args.catalogue.now) c.args.catalogue.now.few c.count.result c.tests.result.bits c.row_count.result c.count.ensures.value c.tests.ensures c.row_count.ensures
