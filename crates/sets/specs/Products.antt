-- The rule of a table of the products 2^a 3^b, as a test that can be computed.
use Rattle.std.specs.Prelude.{ℕ, zero, suc, ◌*◌, ◌/◌, ◌%◌, ◌^◌, Bool, true, ◌&&◌, List, ◌==◌, slice_index}

-- 2^a 3^b stands at 11 a + b.
abbrev pub right_at : List ℕ → ℕ → Bool
right_at products k = slice_index products k == 2 ^ (k / 11) * 3 ^ (k % 11)

-- The first n entries are right.
abbrev pub all_right : (products : List ℕ) (n : ℕ) → Bool
all_right products zero = true
all_right products (suc k) = right_at products k && all_right products k
