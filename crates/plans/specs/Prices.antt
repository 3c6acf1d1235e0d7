-- The price of a plan under a price model, and what the list of a check then holds.
use Rattle.std.specs.Prelude.{ℕ, zero, suc, ◌+◌, Some, None, Option}
use Rattle.pricing.specs.Models.{Model}
use Rattle.plans.specs.Questions.{Question, size, charged, across}
use Rattle.plans.specs.Plans.{Plan, bare, test, join, tables, tests}

-- Built up from the bare tables: each part's size is that of its tables and tests, and the ties across a join are all that link its sides.
unfoldable pub price : {P : Type 0} → Model P → Question → Plan → P
price m Q (bare i) = m.bare (Q.rows i)
price m Q (test i p) =
    elim (Q.test i) [ Some t ↦ m.tested (price m Q p) (charged Q i (tables p) (tests p)) t.cost t.kind | None ↦ price m Q p ]
price m Q (join l r) =
    m.joined (price m Q l) (price m Q r) (size Q (tables l) (tests l)) (size Q (tables r) (tests r))
    (size Q (tables l + tables r) (tests l + tests r)) (across Q (tables l) (tables r))

-- The first, and where there is none the second.
abbrev pub or_else : {X : Type 0} → Option X → Option X → Option X
or_else (Some x) y = Some x
or_else None y = y

-- Of a plan's operations in postorder, a bare table being one too, the last whose result lay above exactly k unjoined parts.
unfoldable pub last_above : (k : ℕ) → Plan → Option Plan
last_above zero p = Some p
last_above (suc k) (bare i) = None
last_above (suc k) (test i p) = last_above (suc k) p
last_above (suc k) (join l r) = or_else (last_above k r) (last_above (suc k) l)
