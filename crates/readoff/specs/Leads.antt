-- Which plan the choices of the rows lead to.
use Rattle.std.specs.Prelude.{◌≡◌, ℕ, ◌+◌, ◌-◌, ◌^◌, ◌<◌, true, List, bit_and, slice_index}
use Rattle.sets.specs.Sets.{has, ◌⊆◌}
use Rattle.sets.specs.Rows.{place_of}
use Rattle.plans.specs.Plans.{Plan, bare, test, join}

-- The choice of the row of R and S, where each row's choice stands at the row's place.
abbrev pub choice_in : (choices : List ℕ) (tested : ℕ) (R S : ℕ) → ℕ
choice_in choices tested R S = slice_index choices (place_of tested R S)

-- The choice is a bare table, and the row is that of table i without tests.
pub record Bare (choice R S i : ℕ) : Type 0 where
  pub chosen : choice ≡ 1
  pub alone : R ≡ 2 ^ i
  pub untested : S ≡ 0

-- The choice is test i on top, and it is one of S.
pub record Tested (choice S i : ℕ) : Type 0 where
  pub chosen : choice ≡ 256 + i
  pub there : has S i ≡ true

-- The choice is a join with the tables L on the left, and they are some of R, but not all.
pub record Joined (choice R L : ℕ) : Type 0 where
  pub chosen : choice ≡ 4096 + L
  pub part : L ⊆ R
  pub some : 0 < L
  pub proper : L < R

-- From the row of R and S the choices lead to the plan: each part of it is what they lead to from the part's own row.
unfoldable pub Leads : (choice : ℕ → ℕ → ℕ) (R S : ℕ) → Plan → Type 0
Leads choice R S (bare i) = Bare (choice R S) R S i
Leads choice R S (test i p) = Tested (choice R S) S i × Leads choice R (S - 2 ^ i) p
Leads choice R S (join l r) =
    (L : ℕ) × Joined (choice R S) R L × Leads choice L (bit_and S L) l × Leads choice (R - L) (bit_and S (R - L)) r
