-- What the code holds of the unjoined parts, and how it takes one more operation.
use Rattle.std.specs.Prelude.{◌≡◌, ℕ, List, [], ◌∷◌, length, Some, None, Option, slice_index_or}
use Rattle.sets.specs.declared.rows.Row.{Row}
use Rattle.plans.specs.Questions.{Question}
use Rattle.plans.specs.Plans.{Plan, Answers, bare, test, join, tables, tests}
use Rattle.checker.specs.declared.operations.Operation.{Operation}
use Rattle.checker.specs.declared.operations.Operation.TheVariants.{Table, Test, Join}
use Rattle.checker.specs.declared.parts.Parts.{Parts}
use Rattle.checker.specs.Steps.{tables_in, steps, Sound}

-- A row is the tables and the tests of a plan.
abbrev pub Shows : Row → Plan → Type 0
Shows row p = (row.tables.bits ≡ tables p) × (row.tests.bits ≡ tests p)

-- Each part's row stands at the number of the parts below it.
unfoldable pub Stacked : (rows : List Row) → List Plan → Type 0
Stacked rows [] = Unit {0}
Stacked rows (p ∷ parts) = ((d : Row) → Shows (slice_index_or rows (length parts) d) p) × Stacked rows parts

-- The code's parts are these.
pub record Holds (Q : Question) (held : Parts) (parts : List Plan) : Type 0 where
  pub stacked : Stacked held.rows parts
  pub depth : held.depth ≡ length parts
  pub seen : held.seen.bits ≡ tables_in parts
  pub sound : Sound Q parts

-- The operation leads from the parts to the next.
abbrev pub Made : Operation → (parts next : List Plan) → Type 0
Made (Table row) parts next = (i : ℕ) × Shows row (bare i) × (next ≡ bare i ∷ parts)
Made (Test i input) parts next = (p : Plan) × (rest : List Plan) × Shows input p × (parts ≡ p ∷ rest) × (next ≡ test i p ∷ rest)
Made (Join left right both) parts next =
    (l : Plan) × (r : Plan) × (rest : List Plan) × Shows left l × Shows right r × Shows both (join l r) × (parts ≡ r ∷ l ∷ rest) × (next ≡ join l r ∷ rest)

-- Where there are next parts, an operation leads to them and they are held.
abbrev pub Took : Question → (parts : List Plan) (next : Option (List Plan)) → Option Operation → (after : Parts) → Type 0
Took Q parts None None after = Unit {0}
Took Q parts None (Some o) after = ⊥
Took Q parts (Some next) None after = ⊥
Took Q parts (Some next) (Some o) after = Made o parts next × Holds Q after next

-- Whatever the parts are, the operation leads to the next, or there are none.
abbrev pub Leads : Question → (held : Parts) (next : List Plan → Option (List Plan)) → Option Operation → (after : Parts) → Type 0
Leads Q held next r after = (parts : List Plan) → Holds Q held parts → Took Q parts (next parts) r after

-- The parts after all pairs of the bytes, if each may follow.
abbrev pub Read : Question → (bytes : List ℕ) → Option Parts → Type 0
Read Q bytes None = steps Q bytes [] ≡ None
Read Q bytes (Some held) = (parts : List Plan) × (steps Q bytes [] ≡ Some parts) × Holds Q held parts

-- The one part is a valid plan of the question.
abbrev pub Whole : Question → List Plan → Type 0
Whole Q parts = (p : Plan) × (parts ≡ p ∷ []) × Answers Q p
