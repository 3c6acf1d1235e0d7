-- What bench_solve tells, and what it leaves in the lists.
use Rattle.std.specs.Prelude.{◌≡◌, ℕ, List, ◌++◌, length, drop, replicate, Ok, Err, Result}
use Rattle.buffers.specs.Written.{written}
use Rattle.pricing.specs.Clocks.{clock}
use Rattle.plans.specs.Questions.{Question}
use Rattle.catalogue.specs.Refusals.{change_number}
use Rattle.catalogue.specs.declared.refusals.ChangeRefusal.{ChangeRefusal}
use Rattle.solver.specs.Solves.{Answers, Cheapest, Lists, enough, filled, outcome, solve_number}
use Rattle.solver.specs.declared.solutions.Solution.{Solution}
use Rattle.solver.specs.declared.solutions.SolveRefusal.{SolveRefusal}
use Rattle.bench_calls.specs.declared.told.Told.{Told}

abbrev pub refusal_told : (number : ℕ) → Told
refusal_told number = record { refusal = number; price = 0; tries = 0; len = 0; bytes = replicate 58 0 }

-- The plan's bytes, and zeros behind them.
abbrev pub padded : List ℕ → List ℕ
padded bytes = bytes ++ drop (length bytes) (replicate 58 0)

abbrev pub plan_told : Solution ℕ → Told
plan_told s = record { refusal = 0; price = s.price; tries = s.tries; len = length (written s.plan); bytes = padded (written s.plan) }

abbrev pub answer_told : Result (Solution ℕ) SolveRefusal → Told
answer_told (Ok s) = plan_told s
answer_told (Err e) = refusal_told (solve_number e)

-- The refusal of the first call that is refused, and the lists as they were; else what solve answers for the question, and what it leaves in the lists.
abbrev pub Outcome : Result Question ChangeRefusal → (prices₀ prices sizes₀ sizes choices₀ choices : List ℕ) → Told → Type 0
Outcome (Err e) prices₀ prices sizes₀ sizes choices₀ choices told =
    (told ≡ refusal_told (change_number e)) × (prices ≡ prices₀) × (sizes ≡ sizes₀) × (choices ≡ choices₀)
Outcome (Ok Q) prices₀ prices sizes₀ sizes choices₀ choices told =
    (answer : Result (Solution ℕ) SolveRefusal)
    × Answers clock Q (outcome clock Q (enough Q (length prices₀) (length sizes₀) (length choices₀))) answer
    × Cheapest clock Q answer
    × Lists clock Q (filled Q (length prices₀) (length sizes₀) (length choices₀)) prices₀ prices sizes₀ sizes choices₀ choices
    × (told ≡ answer_told answer)
