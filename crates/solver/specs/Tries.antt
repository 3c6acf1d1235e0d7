-- Trying candidates one after another, and the left sides that joins are made from.
use Rattle.std.specs.Prelude.{◌≡◌, ℕ, ◌+◌, ◌<◌, ◌≤◌, cond, List, is_some, MatchOption, Option}
use Rattle.std.specs.Iterator.{Drains}
use Rattle.std.specs.List.{FoldsTo}
use Rattle.sets.specs.Sets.{◌⊆◌}
use Rattle.sets.specs.declared.small_sets.SmallSet.{SmallSet}
use Rattle.pricing.specs.Models.{Model}
use Rattle.plans.specs.Entries.{better}
use Rattle.plans.specs.declared.entries.Entry.{Entry}
use Rattle.solver.specs.declared.bests.Tried.{Tried}
use Rattle.solver.specs.declared.left_sides.LeftSides.{LeftSides}

module _ {P X : Type 0} (m : Model P) (made : X → Option (Entry P) → Type 0) where
  -- One candidate more, made from x: it is the best only if it is cheaper, and counts if it is there.
  abbrev pub TriesOne : Tried P → X → Tried P → Type 0
  TriesOne t x u = (c : Option (Entry P)) × made x c × (u.best ≡ better m t.best c) × (u.tries ≡ t.tries + cond (is_some c) 1 0)

  -- A candidate from each item of an iterator at s, in their order.
  abbrev pub TriesEach : {S : Type 0} → (steps : S → Option X → S → Type 0) → S → Tried P → Tried P → Type 0
  TriesEach steps s t u = (xs : List X) × Drains steps s xs × FoldsTo TriesOne t xs u

-- The next left side comes, and after it the least part of the tables that is above it, unless none but the tables are left.
abbrev pub left_steps : LeftSides → Option SmallSet → LeftSides → Type 0
left_steps s r t = (t.tables ≡ s.tables) × MatchOption r (s.next.bits ≡ s.tables.bits) (λ left.
    (left ≡ s.next) × (left.bits < s.tables.bits) × (left.bits < t.next.bits) × ((x : ℕ) → x ⊆ s.tables.bits → left.bits < x → t.next.bits ≤ x))
