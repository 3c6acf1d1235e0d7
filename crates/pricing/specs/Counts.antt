-- Fetches and milliseconds that make a price of Fetches first.
use Rattle.std.specs.Prelude.{ℕ, Bool, true, cond, ◌&&◌, ◌==◌, nat_le}
use Rattle.pricing.specs.Clocks.{most_ms}

-- As many fetches or more are past the count.
abbrev pub most_fetches : ℕ
most_fetches = 4294967295

-- A count at its limit is the limit itself, and has all the milliseconds there are.
abbrev pub counts : (fetches ms : ℕ) → Bool
counts fetches ms = cond (nat_le most_fetches fetches) (fetches == most_fetches && ms == most_ms) true
