-- Prices of operations, and what the lent list holds while a plan is read.
use Rattle.std.specs.Prelude.{◌≡◌, ℕ, ◌+◌, ◌-◌, ◌<◌, true, false, List, [], ◌∷◌, length, Some, None, Option, nat_le, slice_index_or}
use Rattle.sets.specs.declared.rows.Row.{Row}
use Rattle.pricing.specs.Models.{Model}
use Rattle.plans.specs.Questions.{Question, size, charged, across}
use Rattle.plans.specs.Plans.{Plan}
use Rattle.plans.specs.Prices.{or_else, last_above}
use Rattle.checker.specs.declared.operations.Operation.{Operation}
use Rattle.checker.specs.declared.operations.Operation.TheVariants.{Table, Test, Join}
use Rattle.checker.specs.Checks.{price_or}

-- The size of a row's tables under its tests.
abbrev pub row_size : Question → Row → ℕ
row_size Q row = size Q row.tables.bits row.tests.bits

-- An operation's price from the prices of what it is made of: the input of a test, the left and the right side of a join.
abbrev pub price_from : {P : Type 0} → Model P → Question → Operation → (input right : P) → P
price_from m Q (Table row) input right = m.bare (row_size Q row)
price_from m Q (Test i row) input right =
    elim (Q.test i) [ Some t ↦ m.tested input (charged Q i row.tables.bits row.tests.bits) t.cost t.kind | None ↦ input ]
price_from m Q (Join l r both) input right =
    m.joined input right (row_size Q l) (row_size Q r) (row_size Q both) (across Q l.tables.bits r.tables.bits)

-- A list of n prices has those at `at`, and for a join at `at + 1` too.
abbrev pub Reaches : Operation → (at n : ℕ) → Type 0
Reaches (Table row) at n = at < n
Reaches (Test i row) at n = at < n
Reaches (Join l r both) at n = at + 1 < n

-- Of the operations of all parts the last whose result lay above exactly k unjoined parts.
unfoldable pub last_in : (k : ℕ) → List Plan → Option Plan
last_in k [] = None
last_in k (p ∷ parts) = elim (nat_le (length parts) k) [ true ↦ or_else (last_above (k - length parts) p) (last_in k parts) | false ↦ last_in k parts ]

-- Entry k holds that operation's price; all other entries are as before.
abbrev pub Stored : {P : Type 0} → Model P → Question → List Plan → (before after : List P) → Type 0
Stored {P} m Q parts before after = (k : ℕ) (d : P) → slice_index_or after k d ≡ price_or m Q (last_in k parts) (slice_index_or before k d)
