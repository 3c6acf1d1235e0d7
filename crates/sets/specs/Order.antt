-- What the places of the rows keep.
use Rattle.std.specs.Prelude.{◌≡◌, ℕ, ◌-◌, ◌^◌, ◌<◌, true, bit_and}
use Rattle.sets.specs.Sets.{has, ◌⊆◌}
use Rattle.sets.specs.Rows.{tests_on, before, place_of, row_count}

-- T are the tables that have a test, Q, R and L sets of tables, U and S sets of tests.
pub record RowsInOrder : Type 0 where
  -- All the sets of n tables, of which T have a test, have 2^(n-m) 3^m rows, where m is the number of T's members.
  pub counted : (n T : ℕ) → T < 2 ^ n → before T (2 ^ n) ≡ row_count n T
  -- Their places are below that number, and each place below it is the place of a row.
  pub below : (n T R S : ℕ) → T < 2 ^ n → R < 2 ^ n → place_of T R S < row_count n T
  pub each : (n T k : ℕ) → T < 2 ^ n → k < row_count n T → (R : ℕ) × (S : ℕ) × (R < 2 ^ n) × (S ⊆ tests_on T R) × (place_of T R S ≡ k)
  -- No two rows have one place.
  pub apart : (T Q R U S : ℕ) → U ⊆ tests_on T Q → S ⊆ tests_on T R → place_of T Q U ≡ place_of T R S → (Q ≡ R) × (U ≡ S)
  -- Places ascend with the tables, and of the same tables with the tests.
  pub by_tables : (T Q R U S : ℕ) → Q < R → place_of T Q U < place_of T R S
  pub by_tests : (T R U S : ℕ) → U ⊆ tests_on T R → S ⊆ tests_on T R → U < S → place_of T R U < place_of T R S
  -- Where R is split into L and the others, neither without a table, each part with its tests is a row that stands before.
  pub left : (T R S L : ℕ) → S ⊆ tests_on T R → L ⊆ R → L < R → (bit_and S L ⊆ tests_on T L) × (place_of T L (bit_and S L) < place_of T R S)
  pub right : (T R S L : ℕ) → S ⊆ tests_on T R → L ⊆ R → 0 < L → (S - bit_and S L ⊆ tests_on T (R - L)) × (place_of T (R - L) (S - bit_and S L) < place_of T R S)
  -- With one test fewer, it is a row that stands before.
  pub fewer : (T R S i : ℕ) → S ⊆ tests_on T R → has S i ≡ true → (S - 2 ^ i ⊆ tests_on T R) × (place_of T R (S - 2 ^ i) < place_of T R S)
