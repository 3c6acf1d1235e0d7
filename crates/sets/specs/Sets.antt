-- A set of small numbers is a number: i is in the set if bit i of the number is 1.
use Rattle.std.specs.Prelude.{◌≡◌, ℕ, zero, suc, ◌+◌, ◌/◌, ◌%◌, ◌^◌, Bool, false, ◌||◌, List, filter, ◌==◌, bit_and}
use Rattle.std.specs.List.{range_with_len}

infix 40 ◌⊆◌
unfoldable pub has : (set member : ℕ) → Bool
has R i = R / 2 ^ i % 2 == 1

-- Every member of A is one of B: as a fact, and as a test.
abbrev pub ◌⊆◌ : ℕ → ℕ → Type 0
A ⊆ B = bit_and A B ≡ A

abbrev pub within : ℕ → ℕ → Bool
within A B = bit_and A B == A

-- The members of R below n, ascending.
unfoldable pub members : (n R : ℕ) → List ℕ
members n R = filter (has R) (range_with_len 0 n)

-- f holds of some number below n.
unfoldable pub any_below : (ℕ → Bool) → ℕ → Bool
any_below f zero = false
any_below f (suc n) = f n || any_below f n

-- f of each number below n, added up
unfoldable pub sum_below : (ℕ → ℕ) → ℕ → ℕ
sum_below f zero = 0
sum_below f (suc n) = sum_below f n + f n
