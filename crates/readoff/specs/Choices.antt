-- What a choice's code means at a row.
use Rattle.std.specs.Prelude.{◌≡◌, ℕ, ◌-◌, ◌^◌, Option, MatchOption, bit_and}
use Rattle.sets.specs.declared.rows.Row.{Row}
use Rattle.readoff.specs.Leads.{Bare, Tested, Joined}
use Rattle.readoff.specs.declared.choices.Choice.{Choice}
use Rattle.readoff.specs.declared.choices.Choice.TheVariants.{Table, Test, Join}

-- The row is that of R and S.
abbrev pub Is : Row → (R S : ℕ) → Type 0
Is row R S = (row.tables.bits ≡ R) × (row.tests.bits ≡ S)

-- The sides are the tables L and the other ones of R, each with its own tests of S.
pub record Sides (code R S : ℕ) (left right : Row) : Type 0 where
  pub L : ℕ
  pub joined : Joined code R L
  pub left_is : Is left L (bit_and S L)
  pub right_is : Is right (R - L) (bit_and S (R - L))

abbrev pub Means : (code R S : ℕ) → Choice → Type 0
Means code R S (Table i) = Bare code R S i
Means code R S (Test i input) = Tested code S i × Is input R (S - 2 ^ i)
Means code R S (Join left right) = Sides code R S left right

-- It is no choice that the row could have.
pub record Nothing (code R S : ℕ) : Type 0 where
  pub no_table : (i : ℕ) → Bare code R S i → ⊥
  pub no_test : (i : ℕ) → Tested code S i → ⊥
  pub no_join : (L : ℕ) → Joined code R L → ⊥

abbrev pub Says : (code R S : ℕ) → Option Choice → Type 0
Says code R S answer = MatchOption answer (Nothing code R S) (Means code R S)
