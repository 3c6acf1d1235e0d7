-- The rows of a table, one for each set of tables and each set of tests on them, and the place of each row.
use Rattle.std.specs.Prelude.{◌≡◌, ℕ, zero, suc, ◌+◌, ◌-◌, ◌*◌, ◌/◌, ◌%◌, ◌^◌, ◌<◌, ◌≤◌, List, ◌++◌, drop, replicate, bit_and, count_ones}
use Rattle.sets.specs.Sets.{◌⊆◌}

-- The tests on the tables: a test bears its table's number.
abbrev pub tests_on : (tested tables : ℕ) → ℕ
tests_on tested tables = bit_and tables tested

-- A digit below others: outside the mask it is left out; inside it counts once, and what stands above it twice.
abbrev pub placed : (inside digit above : ℕ) → ℕ
placed zero digit above = above
placed (suc inside) digit above = digit + 2 * above

-- The digits are taken lowest first: n % 2 is the lowest of n, and n / 2 holds the rest.
unfoldable pub contracted_in : (places set mask : ℕ) → ℕ
contracted_in zero s m = 0
contracted_in (suc k) s m = placed (m % 2) (s % 2) (contracted_in k (s / 2) (m / 2))

-- The number of a set among the subsets of the mask: only the mask's places are kept, so that its lowest member counts 1, the next 2, then 4.
unfoldable pub contracted : (set mask : ℕ) → ℕ
unfolding contracted_in
contracted s m = contracted_in m s m

-- Tables have a row for each set of tests on them.
abbrev pub rows_of : (tested tables : ℕ) → ℕ
rows_of tested tables = 2 ^ count_ones (tests_on tested tables)

-- How many rows stand before those of the tables: the rows of all smaller sets.
unfoldable pub before : (tested tables : ℕ) → ℕ
before tested zero = 0
before tested (suc tables) = before tested tables + rows_of tested tables

-- The place of the row of the tables and the tests.
abbrev pub place_of : (tested tables tests : ℕ) → ℕ
place_of tested tables tests = before tested tables + contracted tests (tests_on tested tables)

-- How many rows there are for `count` tables.
abbrev pub row_count : (count tested : ℕ) → ℕ
row_count count tested = 2 ^ (count - count_ones tested) * 3 ^ count_ones tested

-- There is a cell for each row of `count` tables, of which `tested` have a test.
abbrev pub Room : (count tested cells : ℕ) → Type 0
Room count tested cells = (count ≤ 10) × (tested < 2 ^ count) × (row_count count tested ≤ cells)

-- The cells with a value in the first of them.
abbrev pub filled : {A : Type 0} → (rows : ℕ) (value : A) (cells : List A) → List A
filled rows value cells = replicate rows value ++ drop rows cells

-- One row comes right after another: its tests are tests on its tables, and where those of the other are too, its place is one more.
pub record NextRow (tested tables tests next_tables next_tests : ℕ) : Type 0 where
  pub own : next_tests ⊆ tests_on tested next_tables
  pub place : tests ⊆ tests_on tested tables → place_of tested next_tables next_tests ≡ place_of tested tables tests + 1
