-- The unjoined parts of a plan that is read pair by pair, and which pair may follow them in a valid plan.
use Rattle.std.specs.Prelude.{◌≡◌, ℕ, ◌+◌, Bool, true, false, not, ◌&&◌, List, [], ◌∷◌, is_some, Some, None, Option, ◌==◌, bit_and, nat_lt}
use Rattle.sets.specs.Sets.{has}
use Rattle.plans.specs.Questions.{Question, linked, table_of}
use Rattle.plans.specs.Plans.{Plan, bare, test, join, tables, tests, WellFormed}
use Rattle.plans.specs.Spelling.{and_then}

-- The tables of all parts, of which no two share one.
unfoldable pub tables_in : List Plan → ℕ
tables_in [] = 0
tables_in (p ∷ parts) = tables p + tables_in parts

-- The parts, if the test holds.
abbrev pub provided : Bool → List Plan → Option (List Plan)
provided true parts = Some parts
provided false parts = None

-- Whether test i is given and may be made on a part with the tables R and the tests S: its table is one of R, and it is none of S.
abbrev pub testable : Question → (i R S : ℕ) → Bool
testable Q i R S = is_some (Q.test i) && (has R (table_of Q i) && not (has S i))

-- What may follow the parts: a given table that stands in none of them; ..
abbrev pub more_table : Question → (i : ℕ) → List Plan → Option (List Plan)
more_table Q i parts = provided (nat_lt i Q.count && not (has (tables_in parts) i)) (bare i ∷ parts)

-- .. a test on the newest part; ..
abbrev pub more_test : Question → (i : ℕ) → List Plan → Option (List Plan)
more_test Q i [] = None
more_test Q i (p ∷ parts) = provided (testable Q i (tables p) (tests p)) (test i p ∷ parts)

-- .. a join of the two newest parts, which a tie links.
abbrev pub more_join : Question → List Plan → Option (List Plan)
more_join Q [] = None
more_join Q (r ∷ []) = None
more_join Q (r ∷ l ∷ parts) = provided (linked Q (tables l) (tables r)) (join l r ∷ parts)

-- The parts after one pair of bytes that may follow, ..
unfoldable pub step : Question → (a b : ℕ) → List Plan → Option (List Plan)
step Q a b parts =
    elim (a == 0x10) [
      | true ↦ more_table Q b parts
      | false ↦ elim (a == 0x11) [ true ↦ more_test Q b parts | false ↦ elim (a == 0x12 && b == 0) [ true ↦ more_join Q parts | false ↦ None ] ]
    ]

-- .. and after all of them.
unfoldable pub steps : Question → (bytes : List ℕ) → List Plan → Option (List Plan)
steps Q [] parts = Some parts
steps Q (a ∷ []) parts = None
steps Q (a ∷ b ∷ bytes) parts = and_then (step Q a b parts) (steps Q bytes)

-- Each part is well formed, and shares no table with an older one.
unfoldable pub Sound : Question → List Plan → Type 0
Sound Q [] = Unit {0}
Sound Q (p ∷ parts) = WellFormed Q p × (bit_and (tables p) (tables_in parts) ≡ 0) × Sound Q parts
