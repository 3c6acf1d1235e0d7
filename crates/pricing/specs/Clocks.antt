-- Clock prices in milliseconds.
use Rattle.std.specs.Prelude.{ℕ, ◌+◌, ◌*◌, min, nat_le}
use Rattle.pricing.specs.Models.{Model}

-- 2^64 - 1: a price above it becomes it, and it alone is past the count.
abbrev pub most_ms : ℕ
most_ms = 18446744073709551615

-- What a test adds: its cost for each row of its input.
abbrev pub test_ms : (size cost : ℕ) → ℕ
test_ms size cost = size * cost

-- What a join adds: its result's rows, and the costs of the ties across for each pair of rows.
abbrev pub join_ms : (left_size right_size size costs : ℕ) → ℕ
join_ms left_size right_size size costs = size + left_size * right_size * costs

-- Milliseconds up to the limit.
abbrev pub limited : ℕ → ℕ
limited ms = min ms most_ms

abbrev pub clock : Model ℕ
clock = record {
  bare = λ rows. rows;
  tested = λ input size cost kind. limited (input + test_ms size cost);
  joined = λ left right left_size right_size size costs. limited (left + right + join_ms left_size right_size size costs);
  at_most = nat_le;
  past = λ price. nat_le most_ms price;
}
