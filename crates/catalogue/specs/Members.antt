-- The members of a set from some number on, and the rows that one tie leaves.
use Rattle.std.specs.Prelude.{◌≡◌, ℕ, ◌-◌, ◌*◌, ◌<◌, true, false, List, Some, None, filter, Option}
use Rattle.std.specs.List.{range_with_len}
use Rattle.sets.specs.Sets.{has}
use Rattle.plans.specs.Questions.{up}
use Rattle.plans.specs.declared.predicates.Tie.{Tie}

-- Those from k up to n, without n, ascending.
unfoldable pub from : (k n R : ℕ) → List ℕ
from k n R = filter (has R) (range_with_len k (n - k))

-- n × p / q rounded up, if there is a tie.
abbrev pub tied_rows : Option Tie → (n : ℕ) → ℕ
tied_rows None n = n
tied_rows (Some t) n = up (n * t.p) t.q

-- k is the lowest member of R.
abbrev pub Lowest : (R k : ℕ) → Type 0
Lowest R k = (has R k ≡ true) × ((i : ℕ) → i < k → has R i ≡ false)
