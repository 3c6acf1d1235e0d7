-- What is summed up once for each set of tables, so that any cut of them is a look-up.
use Rattle.std.specs.Prelude.{◌≡◌, ℕ, ◌*◌, ◌^◌, ◌≤◌, cond}
use Rattle.sets.specs.Sets.{has, sum_below}
use Rattle.plans.specs.Questions.{Question, linked, cost_of}
use Rattle.catalogue.specs.declared.cuts.Cut.{Cut}

-- The tables that a tie links to the tables R.
unfoldable pub near : Question → (R : ℕ) → ℕ
near Q R = sum_below (λ j. cond (linked Q R (2 ^ j)) (2 ^ j) 0) Q.count

-- The costs of all ties between two of the tables R, added up; each tie counts at its higher table.
unfoldable pub inside : Question → (R : ℕ) → ℕ
inside Q R = sum_below (λ i. cond (has R i) (sum_below (λ j. cond (has R j) (cost_of Q i j) 0) i) 0) Q.count

-- The cut of the tables R.
abbrev pub IsCut : Question → (R : ℕ) → Cut → Type 0
IsCut Q R c = (c.near ≡ near Q R) × (c.inside ≡ inside Q R) × (c.inside ≤ 655350 * R)
