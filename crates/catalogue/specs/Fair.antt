-- What holds of every tie and every test that stands: q is at least 1, and p at most q.
use Rattle.std.specs.Prelude.{ℕ, Some, None, Option}
use Rattle.plans.specs.declared.predicates.Tie.{Tie}
use Rattle.plans.specs.declared.predicates.Test.{Test}

-- p and q of a tie or a test; without one, every row remains.
abbrev pub tie_p : Option Tie → ℕ
tie_p None = 1
tie_p (Some t) = t.p

abbrev pub tie_q : Option Tie → ℕ
tie_q None = 1
tie_q (Some t) = t.q

abbrev pub test_p : Option Test → ℕ
test_p None = 1
test_p (Some t) = t.p

abbrev pub test_q : Option Test → ℕ
test_q None = 1
test_q (Some t) = t.q
